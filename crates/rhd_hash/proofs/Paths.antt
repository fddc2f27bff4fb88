-- How many names a path has.
use Rattle.std.proofs.Common.{◌≡◌, ℕ, List, [], ◌∷◌, length, refl, arith}
use Rattle.rhd_hash.specs.Parts.{path_of, path_count}

pub count_of : (path : List (List ℕ)) → length path ≡ path_count (path_of path)
count_of [] = refl
count_of (first ∷ names) = omega arith
