-- The values of an array.
use Rattle.std.proofs.Common.{◌≡◌, List, [], ◌∷◌, refl, ap}
use Rattle.rhd_value.specs.Tree.{Tree, items_of, list_of}

-- the items made of a list stand for that list
pub items_list : (ts : List Tree) → list_of (items_of ts) ≡ ts
items_list [] = refl
items_list (t ∷ ts) = ap (λ us. t ∷ us) (items_list ts)
