-- Custom types by their type names.
use Rattle.std.specs.Prelude.{List, Option}
use Rattle.std.specs.Ordering.{nat_cmp, is_eq}
use Rattle.std.specs.Cmp.Lexicographic.{slice_cmp}
use Rattle.std.specs.Map.{lookup}
use Rattle.std.specs.BTreeMap.{insert_entry}
use Rattle.rhd_value.specs.Tree.{Bytes}
use Rattle.rhd_decl.specs.declared.custom_types.CustomTypeInfo.{CustomTypeInfo}

-- in ascending order of type name
abbrev pub CustomTypes : Type 0
CustomTypes = List (Bytes × CustomTypeInfo)

-- what is said of a type with these comments
abbrev pub type_info : Bytes → Bytes → List Bytes → CustomTypeInfo
type_info type_name display_name comments = record { type_name = type_name; display_name = display_name; comments = comments }

-- what is said of a type of this name goes to its place, or to that of the type of an equal name
abbrev pub put_type : Bytes → CustomTypeInfo → CustomTypes → CustomTypes
put_type type_name info types = insert_entry (slice_cmp nat_cmp) types type_name info

-- what is said of the type of a name
abbrev pub type_of : Bytes → CustomTypes → Option CustomTypeInfo
type_of type_name types = lookup (λ name. is_eq (slice_cmp nat_cmp type_name name)) types
