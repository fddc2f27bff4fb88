-- Plain bytes are printed as themselves.
use Rattle.std.proofs.Common.{◌≡◌, ℕ, suc, ◌+◌, ◌≤◌, Bool, true, false, ◌&&◌, not, cond, eqb, leb, List, [], ◌∷◌, ◌++◌, take, drop, refl, ap, sym, ◌∙◌, append_assoc, arith}
use Rattle.std.specs.List.{flat_map, prefix_len}
use Rattle.std.proofs.lemmas.Bool.{ne_eqb, leb-true}
use Rattle.rhd_print.specs.PrintedTexts.{escaped}
use Rattle.rhd_print.specs.Runs.{is_plain}

not_true : (b : Bool) → not b ≡ true → b ≡ false
not_true true e = absurd cc
not_true false e = refl

and_parts : (a b : Bool) → (a && b) ≡ true → (a ≡ true) × (b ≡ true)
and_parts true b e = (refl, e)
and_parts false b e = absurd cc

plain_escaped : (quote b : ℕ) → is_plain quote b ≡ true → escaped quote b ≡ b ∷ []
plain_escaped quote b h =
    let a = and_parts (leb 32 b && not (eqb b quote)) (not (eqb b 92)) h in
    let c = and_parts (leb 32 b) (not (eqb b quote)) a.0 in
    let least : 32 ≤ b = leb-true 32 b c.0 in
    rw (not_true (eqb b 92) a.1, not_true (eqb b quote) c.1, ne_eqb b 10 (λ e. omega arith), ne_eqb b 9 (λ e. omega arith), ne_eqb b 13 (λ e. omega arith)) refl

front_step : (quote b : ℕ) (bs : List ℕ) (p : Bool) → is_plain quote b ≡ p → take (prefix_len (is_plain quote) bs) bs ++ flat_map (escaped quote) (drop (prefix_len (is_plain quote) bs) bs) ≡ flat_map (escaped quote) bs → take (cond p (1 + prefix_len (is_plain quote) bs) 0) (b ∷ bs) ++ flat_map (escaped quote) (drop (cond p (1 + prefix_len (is_plain quote) bs) 0) (b ∷ bs)) ≡ flat_map (escaped quote) (b ∷ bs)
front_step quote b bs true e ih =
    let k : 1 + prefix_len (is_plain quote) bs ≡ suc (prefix_len (is_plain quote) bs) = omega arith in
    rw k (ap (λ (x : List ℕ). b ∷ x) ih ∙ ap (λ (x : List ℕ). x ++ flat_map (escaped quote) bs) (sym (plain_escaped quote b e)))
front_step quote b bs false e ih = refl

plain_run : (quote : ℕ) (text : List ℕ) → take (prefix_len (is_plain quote) text) text ++ flat_map (escaped quote) (drop (prefix_len (is_plain quote) text) text) ≡ flat_map (escaped quote) text
plain_run quote [] = refl
plain_run quote (b ∷ bs) = front_step quote b bs (is_plain quote b) refl (plain_run quote bs)

pub plain_front : (quote : ℕ) (front text : List ℕ) → (front ++ take (prefix_len (is_plain quote) text) text) ++ flat_map (escaped quote) (drop (prefix_len (is_plain quote) text) text) ≡ front ++ flat_map (escaped quote) text
plain_front quote front text = append_assoc front (take (prefix_len (is_plain quote) text) text) (flat_map (escaped quote) (drop (prefix_len (is_plain quote) text) text)) ∙ ap (λ (x : List ℕ). front ++ x) (plain_run quote text)
