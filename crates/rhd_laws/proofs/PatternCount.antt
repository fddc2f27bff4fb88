-- How many patterns there are.
use Rattle.std.proofs.Common.{◌≡◌, ℕ, ◌+◌, ◌*◌, List, [], ◌∷◌, length, ap, ◌∙◌, arith}
use Rattle.std.specs.Prelude.{zero, suc, ◌^◌, min, map}
use Rattle.std.proofs.lemmas.List.{length-append, length-map}
use native.Mathlib.Nat.{pow-suc}
use Rattle.rhd_value.specs.declared.tag.TypeTag.{TypeTag}
use Rattle.rhd_value.specs.declared.tag.TypeTag.TheVariants.{Dynamic}
use Rattle.rhd_dispatch.specs.Patterns.{patterns_to}

-- one place more makes twice as many
twice_step : (n : ℕ) (t : TypeTag) (ts : List TypeTag) → length (patterns_to (suc n) (t ∷ ts)) ≡ length (patterns_to n ts) + length (patterns_to n ts)
unfolding patterns_to
twice_step n t ts =
    let ps = patterns_to n ts in
    length-append (map (λ p. t ∷ p) ps) (map (λ p. Dynamic ∷ p) ps) ∙ (λ i. length-map ps (λ p. t ∷ p) i + length-map ps (λ p. Dynamic ∷ p) i)

-- one that no place may change
one_alone : (n k : ℕ) → min n k ≡ 0 → 1 ≡ 2 ^ min n k
one_alone n k none = let z : 0 ≡ min n k = omega (arith, none) in ap (λ (e : ℕ). 2 ^ e) z

doubled : (n k e : ℕ) → e ≡ min (suc n) (suc k) → 2 ^ min n k + 2 ^ min n k ≡ 2 ^ e
doubled n k e is =
    let more : suc (min n k) ≡ e = omega (arith, is) in
    let p : 2 ^ suc (min n k) ≡ 2 ^ min n k * 2 = pow-suc 2 (min n k) in
    omega (arith, p, ap (λ (x : ℕ). 2 ^ x) more)

pub count_to : (n : ℕ) (ts : List TypeTag) → length (patterns_to n ts) ≡ 2 ^ min n (length ts)
unfolding patterns_to
count_to n [] = one_alone n 0 (omega arith)
count_to zero (t ∷ ts) = one_alone 0 (length (t ∷ ts)) (omega arith)
count_to (suc n) (t ∷ ts) = twice_step n t ts ∙ (λ i. count_to n ts i + count_to n ts i) ∙ doubled n (length ts) (min (suc n) (length (t ∷ ts))) (omega arith)
