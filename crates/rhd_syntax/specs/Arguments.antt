-- WHAT ARGUMENTS SAY: the values of a call, and where given values are to stand among them.
use Rattle.std.specs.Prelude.{ℕ, zero, suc, ◌+◌, List, [], ◌∷◌, ◌++◌, length, map}
use Rattle.rhd_value.specs.Tree.{Tree, unit}
use Rattle.rhd_value.specs.Kinds.{plain}
use Rattle.rhd_syntax.specs.declared.given.GivenAt.{GivenAt}
use Rattle.rhd_syntax.specs.declared.arguments.Argument.{Argument}
use Rattle.rhd_syntax.specs.declared.arguments.Argument.TheVariants.{Value, Given}
use Rattle.rhd_syntax.specs.declared.arguments.Arguments.{Arguments}

-- the value, and unit where a given one is to stand
abbrev pub value_of : Argument → Tree
value_of (Value t) = t
value_of (Given g) = plain unit

-- argument n, if it is a given value
abbrev pub place_of : ℕ → Argument → List GivenAt
place_of n (Value t) = []
place_of n (Given g) = record { place = n; given = g } ∷ []

-- the given values among arguments, of which the first is argument n
abbrev pub places_from : ℕ → List Argument → List GivenAt
places_from n [] = []
places_from n (x ∷ xs) = place_of n x ++ places_from (n + 1) xs

-- what arguments say: the values in order, and where given ones are to stand, counted from 0
abbrev pub together : List Argument → Arguments
together xs = record { values = map value_of xs; places = places_from 0 xs }

-- no argument
abbrev pub no_arguments : Arguments
no_arguments = record { values = []; places = [] }

-- one argument more
abbrev pub with_argument : Arguments → Argument → Arguments
with_argument a x = record { values = a.values ++ value_of x ∷ []; places = a.places ++ place_of (length a.values) x }

-- the same places, so many further on
abbrev pub moved : ℕ → List GivenAt → List GivenAt
moved zero places = places
moved (suc n) places = map (λ p. record { place = p.place + suc n; given = p.given }) places

-- arguments, and then others
abbrev pub joined : Arguments → Arguments → Arguments
joined a b = record { values = a.values ++ b.values; places = a.places ++ moved (length a.values) b.places }
