-- The keys of natives.
use Rattle.std.specs.Prelude.{Bool, true, not, List, [], ◌∷◌, map, Option, None}
use Rattle.rhd_value.specs.Tree.{Bytes}
use Rattle.rhd_value.specs.Kinds.{map_type}
use Rattle.rhd_value.specs.declared.tag.TypeTag.{TypeTag}
use Rattle.rhd_hash.specs.declared.key.Key.{Key}
use Rattle.rhd_hash.specs.declared.key.Key.TheVariants.{Native}

-- the types of a native as keys have them; the first type of a method stays
abbrev pub mapped_types : Bool → List TypeTag → List TypeTag
mapped_types is_method [] = []
mapped_types is_method (t ∷ ts) = map_type (not is_method) t ∷ map (map_type true) ts

-- the key of a native under a name, at a path
abbrev pub native_key_at : Option (List Bytes) → Bool → Bytes → List TypeTag → Key
native_key_at path is_method name types = Native path name (mapped_types is_method types)

-- and in its module
abbrev pub native_key : Bool → Bytes → List TypeTag → Key
native_key is_method name types = native_key_at None is_method name types
