-- How the key of a function is written.
use Rattle.std.specs.Prelude.{ℕ, List, [], ◌∷◌, ◌++◌, Option, Some, None, codes}
use Rattle.std.specs.List.{flat_map}
use Rattle.std.specs.Fmt.{decimal}
use Rattle.rhd_value.specs.Tree.{Bytes}
use Rattle.rhd_value.specs.Kinds.{type_text}
use Rattle.rhd_value.specs.declared.tag.TypeTag.{TypeTag}
use Rattle.rhd_hash.specs.declared.key.Key.{Key}
use Rattle.rhd_hash.specs.declared.key.Key.TheVariants.{Script, Typed, Native}

-- a type after another one
abbrev pub later_type : TypeTag → List ℕ
later_type t = codes ", " ++ type_text t

-- types, with a comma and a space between two
unfoldable pub types_text : List TypeTag → List ℕ
types_text [] = []
types_text (t ∷ ts) = type_text t ++ flat_map later_type ts

-- a name of a path
abbrev pub path_name : Bytes → List ℕ
path_name name = name ++ codes "::"

-- the names of a path after the first, which may be any
unfoldable pub path_text : Option (List Bytes) → List ℕ
path_text None = []
path_text (Some names) = codes "*::" ++ flat_map path_name names

-- a script by its number of parameters, after the type of its object if it has one; a native by its types
unfoldable pub key_text : Key → List ℕ
key_text (Script path name params) = path_text path ++ name ++ codes "/" ++ decimal params
key_text (Typed path name params this_type) = path_text path ++ this_type ++ codes "." ++ name ++ codes "/" ++ decimal params
key_text (Native path name types) = path_text path ++ name ++ codes "(" ++ types_text types ++ codes ")"
