-- Letters are read as themselves.
use Rattle.std.proofs.Common.{◌≡◌, ℕ, suc, ◌+◌, Bool, true, false, not, cond, eqb, List, [], ◌∷◌, ◌++◌, Option, Some, None, take, drop, refl, ap, sym, ◌∙◌, append_assoc, arith}
use Rattle.std.specs.List.{prefix_len}
use Rattle.rhd_syntax.proofs.Agrees.{and_parts, not_true}
use Rattle.rhd_syntax.specs.Reading.{put, text_at}
use Rattle.rhd_syntax.specs.Runs.{is_letter, with_text}

pub with_nothing : (read : Option (List ℕ × List ℕ)) → with_text [] read ≡ read
with_nothing None = refl
with_nothing (Some r) = refl

with_more : (front more : List ℕ) (read : Option (List ℕ × List ℕ)) → with_text (front ++ more) read ≡ with_text front (with_text more read)
with_more front more None = refl
with_more front more (Some r) = ap (λ (x : List ℕ). Some (x, r.1)) (append_assoc front more r.0)

put_letter : (b : ℕ) (more : List ℕ) (read : Option (List ℕ × List ℕ)) → with_text (b ∷ more) read ≡ put (Some b) (with_text more read)
put_letter b more None = refl
put_letter b more (Some r) = refl

letter_read : (quote b : ℕ) (bytes : List ℕ) → is_letter quote b ≡ true → text_at quote false (b ∷ bytes) ≡ put (Some b) (text_at quote false bytes)
letter_read quote b bytes h =
    let a = and_parts (not (eqb b quote)) (not (eqb b 92)) h in
    rw (not_true (eqb b quote) a.0, not_true (eqb b 92) a.1) refl

letters_step : (quote b : ℕ) (bs : List ℕ) (p : Bool) (n : ℕ) → is_letter quote b ≡ p → with_text (take n bs) (text_at quote false (drop n bs)) ≡ text_at quote false bs → with_text (take (cond p (1 + n) 0) (b ∷ bs)) (text_at quote false (drop (cond p (1 + n) 0) (b ∷ bs))) ≡ text_at quote false (b ∷ bs)
letters_step quote b bs true n e ih =
    let k : 1 + n ≡ suc n = omega arith in
    rw k (put_letter b (take n bs) (text_at quote false (drop n bs)) ∙ ap (put (Some b)) ih ∙ sym (letter_read quote b bs e))
letters_step quote b bs false n e ih = with_nothing (text_at quote false (b ∷ bs))

letters_run : (quote : ℕ) (bytes : List ℕ) → with_text (take (prefix_len (is_letter quote) bytes) bytes) (text_at quote false (drop (prefix_len (is_letter quote) bytes) bytes)) ≡ text_at quote false bytes
letters_run quote [] = refl
letters_run quote (b ∷ bs) = letters_step quote b bs (is_letter quote b) (prefix_len (is_letter quote) bs) refl (letters_run quote bs)

pub letters_front : (quote : ℕ) (front bytes : List ℕ) → with_text (front ++ take (prefix_len (is_letter quote) bytes) bytes) (text_at quote false (drop (prefix_len (is_letter quote) bytes) bytes)) ≡ with_text front (text_at quote false bytes)
letters_front quote front bytes = with_more front (take (prefix_len (is_letter quote) bytes) bytes) (text_at quote false (drop (prefix_len (is_letter quote) bytes) bytes)) ∙ ap (with_text front) (letters_run quote bytes)
