-- Which keys of natives match the kinds of some arguments.
use Rattle.std.specs.Prelude.{ℕ, ◌-◌, Bool, true, false, ◌&&◌, ◌||◌, ◌==◌, List, [], ◌∷◌, is_none}
use Rattle.rhd_value.specs.Tree.{Bytes}
use Rattle.rhd_value.specs.Same.{tag_eq, text_eq}
use Rattle.rhd_value.specs.declared.tag.TypeTag.{TypeTag}
use Rattle.rhd_value.specs.declared.tag.TypeTag.TheVariants.{Dynamic}
use Rattle.rhd_hash.specs.declared.key.Key.{Key}
use Rattle.rhd_hash.specs.declared.key.Key.TheVariants.{Script, Typed, Native}

-- each type is its kind, or, behind the first n, `Dynamic`
abbrev pub types_match : ℕ → List TypeTag → List TypeTag → Bool
types_match n [] [] = true
types_match n [] (kind ∷ kinds) = false
types_match n (t ∷ ts) [] = false
types_match n (t ∷ ts) (kind ∷ kinds) = (tag_eq t kind || ((n == 0) && tag_eq t Dynamic)) && types_match (n - 1) ts kinds

-- a native's key of this name, without a path, whose types match
abbrev pub key_matches : ℕ → Bytes → List TypeTag → Key → Bool
key_matches n name kinds (Script path other params) = false
key_matches n name kinds (Typed path other params this_type) = false
key_matches n name kinds (Native path other types) = is_none path && (text_eq other name && types_match n types kinds)
