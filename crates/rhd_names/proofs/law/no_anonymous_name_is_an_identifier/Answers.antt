use Rattle.std.proofs.Common.{◌≡◌, ◌++◌, ℕ, true, false, List, drop, refl, ap, ◌∙◌}
use Rattle.std.specs.Prelude.{codes, nat_eq}
use Rattle.std.proofs.lemmas.Bool.Decides.{Decides-eqb}
use Rattle.std.proofs.lemmas.Slice.Eq.{starts_is}
use Rattle.rhd_names.specs.Names.{is_identifier, is_anonymous}
use Rattle.rhd_names.proofs.law.no_anonymous_name_is_an_identifier.Goals as goal

-- it is the mark and what stands behind it
marked : (name : List ℕ) → is_anonymous name ≡ true → name ≡ codes "anon$" ++ drop 5 name
unfolding is_anonymous
marked name is = (starts_is {E = nat_eq} Decides-eqb name (codes "anon$") (is_anonymous name) refl).0 is

-- a mark has a byte that no identifier has
no_identifier : (rest : List ℕ) → is_identifier (codes "anon$" ++ rest) ≡ false
unfolding is_identifier
no_identifier rest = refl

pub returns : goal.returns
returns c = λ name is. ap is_identifier (marked name is) ∙ no_identifier (drop 5 name)
