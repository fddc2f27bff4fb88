-- How types are shown.
use Rattle.std.specs.Prelude.{List, [], ◌∷◌, ◌++◌, if◌then◌else◌, Option, unwrap_or, codes}
use Rattle.std.specs.List.{join_by, list_any}
use Rattle.std.specs.Option.{option_map}
use Rattle.rhd_value.specs.Tree.{Bytes, Tree, Kind, text}
use Rattle.rhd_value.specs.Kinds.{tag_of, type_name}
use Rattle.rhd_value.specs.Firsts.{first_of}
use Rattle.rhd_value.specs.Same.{text_eq}
use Rattle.rhd_decl.specs.CustomTypes.{type_of}
use Rattle.rhd_module.specs.Tree.{ModuleTree}
use Rattle.rhd_engine.specs.Engine.{EngineLists}

abbrev pub standard_names : List Bytes
standard_names = codes "()" ∷ codes "bool" ∷ codes "i64" ∷ codes "char" ∷ codes "string" ∷ codes "array" ∷ codes "map" ∷ codes "Fn" ∷ []

-- the name by which a module shows the type of a type name
abbrev pub display_in : Bytes → ModuleTree → Option Bytes
display_in name m = option_map (λ info. info.display_name) (type_of name m.own.types)

-- a standard name itself; else the name by which the first global module that has the type shows it; else the type name
unfoldable pub map_type_name : EngineLists → Bytes → Bytes
map_type_name e name = if list_any (text_eq name) standard_names then name else unwrap_or (first_of (display_in name) e.globals) name

-- the display type of a value
abbrev pub display : EngineLists → Tree → Bytes
display e v = map_type_name e (type_name (tag_of v))

-- how an argument stands in a signature: a text may have been meant by any of three types
abbrev pub kind_in_signature : Bytes → Kind → Bytes
kind_in_signature shown (text s) = codes "&str | ImmutableString | String"
kind_in_signature shown k = shown

abbrev pub in_signature : EngineLists → Tree → Bytes
in_signature e v = kind_in_signature (display e v) v.kind

abbrev pub signature : EngineLists → Bytes → List Tree → Bytes
signature e name args = name ++ codes " (" ++ join_by (in_signature e) (codes ", ") args ++ codes ")"
