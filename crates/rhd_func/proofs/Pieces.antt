-- The pieces of a list, up to an item and with that item.
use Rattle.std.proofs.Common.{◌≡◌, [], ◌∷◌, ◌++◌, ◌+◌, ◌-◌, ◌<◌, ◌≤◌, ℕ, List, ap, ◌∙◌, length, take, take_all, drop, get_or, arith}
use Rattle.std.specs.Prelude.{codes}
use Rattle.std.proofs.lemmas.Grind.{flat_map-append}
use Rattle.std.specs.List.{flat_map}
use Rattle.std.proofs.lemmas.List.{append-nil, take_more}
use Rattle.rhd_func.specs.Shown.{shown_params}

pub flat_map_more : {X : Type 0} (f : X → List ℕ) (xs : List X) (i : ℕ) (d : X) → i < length xs → flat_map f (take (i + 1) xs) ≡ flat_map f (take i xs) ++ f (get_or xs i d)
flat_map_more f xs i d h =
    ap (flat_map f) (take_more xs i d h) ∙ flat_map-append f (take i xs) (get_or xs i d ∷ []) ∙ ap (λ t. flat_map f (take i xs) ++ t) (append-nil (f (get_or xs i d)))

-- parameters are the first, and each further one behind a comma
pub params_split : (ps : List (List ℕ)) (d : List ℕ) → 1 ≤ length ps → get_or ps 0 d ++ flat_map (λ p. codes ", " ++ p) (take (length ps - 1) (drop 1 ps)) ≡ shown_params ps
params_split [] d h = absurd (omega (arith, h))
params_split (x ∷ xs) d h = ap (λ (t : List (List ℕ)). x ++ flat_map (λ (p : List ℕ). codes ", " ++ p) t) (take_all (length (x ∷ xs) - 1) xs (omega arith))
