-- What kind a value is of, its name, and values that are made anew.
use Rattle.std.specs.Prelude.{ℤ, Bool, true, false, ◌++◌, Option, None, Some, codes, decimal}
use Rattle.rhd_value.specs.declared.tag.TypeTag.{TypeTag}
use Rattle.rhd_value.specs.declared.tag.TypeTag.TheVariants as tags
use Rattle.rhd_value.specs.declared.tag.Marks.{Marks}
use Rattle.rhd_value.specs.Tree.{Bytes, Tree, Kind, unit, boolean, integer, character, text, array, object, pointer, custom}

abbrev pub tag_of_kind : Kind → TypeTag
tag_of_kind unit = tags.Unit
tag_of_kind (boolean b) = tags.Bool
tag_of_kind (integer z) = tags.Int
tag_of_kind (character c) = tags.Char
tag_of_kind (text s) = tags.Text
tag_of_kind (array ts) = tags.Array
tag_of_kind (object es) = tags.Map
tag_of_kind (pointer n ts p) = tags.FnPtr
tag_of_kind (custom n z) = tags.Custom n

abbrev pub tag_of : Tree → TypeTag
tag_of t = tag_of_kind t.kind

-- the name of a type; the last three are types of parameters alone
abbrev pub type_name : TypeTag → Bytes
type_name tags.Unit = codes "()"
type_name tags.Bool = codes "bool"
type_name tags.Int = codes "i64"
type_name tags.Char = codes "char"
type_name tags.Text = codes "string"
type_name tags.Array = codes "array"
type_name tags.Map = codes "map"
type_name tags.FnPtr = codes "Fn"
type_name (tags.Custom n) = codes "custom" ++ decimal n
type_name tags.Dynamic = codes "Dynamic"
type_name tags.Str = codes "&str"
type_name tags.StdString = codes "String"

-- a type as keys and parameters show it: a text has another name there than as the type of a value
abbrev pub type_text : TypeTag → Bytes
type_text tags.Text = codes "ImmutableString"
type_text t = type_name t

-- the type that a parameter's type stands for in a key
abbrev pub map_type : Bool → TypeTag → TypeTag
map_type true tags.Str = tags.Text
map_type true tags.StdString = tags.Text
map_type map t = t

abbrev pub int_in : Kind → Option ℤ
int_in (integer z) = Some z
int_in _ = None

abbrev pub bool_in : Kind → Option Bool
bool_in (boolean b) = Some b
bool_in _ = None

abbrev pub text_in : Kind → Option Bytes
text_in (text s) = Some s
text_in _ = None

abbrev pub no_marks : Marks
no_marks = record { read_only = false; shared = false; locked = false }

-- a value made anew has no marks
abbrev pub plain : Kind → Tree
plain k = record { kind = k; marks = no_marks }
