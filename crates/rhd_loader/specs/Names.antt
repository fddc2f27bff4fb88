-- The names of imported modules as keys of a table.
use Rattle.std.specs.Prelude.{◌≡◌, ℕ, List, true}
use Rattle.std.specs.Hash as fed
use Rattle.std.proofs.Common.{ap}
use Rattle.std.proofs.lemmas.Slice.Eq.{bytes_eq-Decides}
use Rattle.rhd_value.specs.Same.{text_eq}

-- what a hash of a name is made of
abbrev pub name_input : List ℕ → List (List ℕ)
name_input name = fed.str name

pub names_alike : (a b : List ℕ) → text_eq a b ≡ true → name_input a ≡ name_input b
names_alike a b e = ap name_input ((bytes_eq-Decides a b).0 e)
