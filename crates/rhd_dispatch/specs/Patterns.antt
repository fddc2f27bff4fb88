-- The patterns of a list of types.
use Rattle.std.specs.Prelude.{ℕ, zero, suc, List, [], ◌∷◌, ◌++◌, map}
use Rattle.rhd_value.specs.declared.tag.TypeTag.{TypeTag}
use Rattle.rhd_value.specs.declared.tag.TypeTag.TheVariants.{Dynamic}

-- each of the first n types is kept or becomes `Dynamic`; an earlier place counts for more, and kept comes first
unfoldable pub patterns_to : ℕ → List TypeTag → List (List TypeTag)
patterns_to n [] = [] ∷ []
patterns_to zero (t ∷ ts) = (t ∷ ts) ∷ []
patterns_to (suc n) (t ∷ ts) = map (λ p. t ∷ p) (patterns_to n ts) ++ map (λ p. Dynamic ∷ p) (patterns_to n ts)

abbrev pub patterns : List TypeTag → List (List TypeTag)
patterns types = patterns_to 16 types
