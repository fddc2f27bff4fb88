-- Elements one after the other.
use Rattle.std.proofs.Common.{◌≡◌, ℕ, zero, suc, ◌<◌, ◌≤◌, Bool, true, false, cond, List, [], ◌∷◌, ◌++◌, length, Option, Some, refl, sym, ap, subst, ◌∙◌, append_assoc, arith}
use Rattle.std.proofs.lemmas.List.{append-nil}
use Rattle.rhd_syntax.specs.Spans.{Span, each}
use Rattle.rhd_syntax.specs.Reading.{◌>>=◌, Parse, many}
use Rattle.rhd_syntax.proofs.Agrees.{Agrees, bind_some, some_pair, cond_some}

-- What is read as elements up to a stop.
abbrev Found : (A : Type 0) → (List ℕ → Bool) → (A → Span) → List A → List A → List ℕ → List ℕ → Type 0
Found A stop written found ys bytes rest = (xs : List A) × (ys ≡ found ++ xs) × each written xs bytes rest × (stop rest ≡ true)

stopped : (A : Type 0) (stop : List ℕ → Bool) (written : A → Span) (found ys : List A) (bytes rest : List ℕ) → stop bytes ≡ true → ◌≡◌ {A = Option (List A × List ℕ)} (Some (found, bytes)) (Some (ys, rest)) → Found A stop written found ys bytes rest
stopped A stop written found ys bytes rest h e = let p = some_pair found ys bytes rest e in ([], sym p.0 ∙ sym (append-nil found), p.1, sym (ap stop p.1) ∙ h)

one_more : (A : Type 0) (stop : List ℕ → Bool) (written : A → Span) (found ys : List A) (x : A) (bytes middle rest : List ℕ) → written x bytes middle → Found A stop written (found ++ x ∷ []) ys middle rest → Found A stop written found ys bytes rest
one_more A stop written found ys x bytes middle rest w f = (x ∷ f.0, f.1 ∙ append_assoc found (x ∷ []) f.0, (middle, w, f.2), f.3)

many_step : (A : Type 0) (stop : List ℕ → Bool) (one : Parse A) (written : A → Span) (agrees : Agrees A one written) (found ys : List A) (bytes rest : List ℕ) (n : ℕ) (b : Bool)
    → ((more : List A) (middle : List ℕ) → many stop one more n middle ≡ Some (ys, rest) → Found A stop written more ys middle rest)
    → stop bytes ≡ b → cond b (Some (found, bytes)) (one bytes >>= λ x. many stop one (found ++ x.0 ∷ []) n x.1) ≡ Some (ys, rest) → Found A stop written found ys bytes rest
many_step A stop one written agrees found ys bytes rest n true ih h e = stopped A stop written found ys bytes rest h e
many_step A stop one written agrees found ys bytes rest n false ih h e =
    let a = bind_some (one bytes) (λ x. many stop one (found ++ x.0 ∷ []) n x.1) (ys, rest) e in
    one_more A stop written found ys a.0.0 bytes a.0.1 rest (agrees.sound a.0.0 bytes a.0.1 a.1) (ih (found ++ a.0.0 ∷ []) a.0.1 a.2)

many_sound : (A : Type 0) (stop : List ℕ → Bool) (one : Parse A) (written : A → Span) (agrees : Agrees A one written) (n : ℕ) (found ys : List A) (bytes rest : List ℕ) → many stop one found n bytes ≡ Some (ys, rest) → Found A stop written found ys bytes rest
unfolding many
many_sound A stop one written agrees zero found ys bytes rest e = let s = cond_some (stop bytes) (found, bytes) (ys, rest) e in stopped A stop written found ys bytes rest s.0 (ap (λ (p : List A × List ℕ). Some p) s.1)
many_sound A stop one written agrees (suc n) found ys bytes rest e = many_step A stop one written agrees found ys bytes rest n (stop bytes) (λ more middle f. many_sound A stop one written agrees n more ys middle rest f) refl e

-- An element takes bytes, and begins with none that stops the others.
pub record Goes (A : Type 0) (stop : List ℕ → Bool) (written : A → Span) : Type 0 where
  pub shrinks : (x : A) (bytes rest : List ℕ) → written x bytes rest → length rest < length bytes
  pub begun : (x : A) (bytes rest : List ℕ) → written x bytes rest → stop bytes ≡ false

many_complete : (A : Type 0) (stop : List ℕ → Bool) (one : Parse A) (written : A → Span) (agrees : Agrees A one written) (goes : Goes A stop written) (xs found : List A) (n : ℕ) (bytes rest : List ℕ) → length bytes ≤ n → each written xs bytes rest → stop rest ≡ true → many stop one found n bytes ≡ Some (found ++ xs, rest)
unfolding many
many_complete A stop one written agrees goes [] found zero bytes rest long w h = rw (ap stop w ∙ h, append-nil found, w) refl
many_complete A stop one written agrees goes [] found (suc n) bytes rest long w h = rw (ap stop w ∙ h, append-nil found, w) refl
many_complete A stop one written agrees goes (x ∷ xs) found zero bytes rest long w h = absurd (omega (arith, long, goes.shrinks x bytes w.0 w.1))
many_complete A stop one written agrees goes (x ∷ xs) found (suc n) bytes rest long w h =
    let ih = many_complete A stop one written agrees goes xs (found ++ x ∷ []) n w.0 rest (omega (arith, long, goes.shrinks x bytes w.0 w.1)) w.2 h in
    rw (goes.begun x bytes w.0 w.1, agrees.complete x bytes w.0 w.1) (ih ∙ ap (λ (ys : List A). Some (ys, rest)) (append_assoc found (x ∷ []) xs))

pub many_agrees : (A : Type 0) (stop : List ℕ → Bool) (one : Parse A) (written : A → Span) (agrees : Agrees A one written) (goes : Goes A stop written) → Agrees (List A) (λ bytes. many stop one [] (length bytes) bytes) (λ xs bytes rest. each written xs bytes rest × (stop rest ≡ true))
many_agrees A stop one written agrees goes = record {
  sound = λ xs bytes rest e.
      let f = many_sound A stop one written agrees (length bytes) [] xs bytes rest e in
      (subst (λ (ys : List A). each written ys bytes rest) (sym f.1) f.2, f.3);
  complete = λ xs bytes rest w. many_complete A stop one written agrees goes xs [] (length bytes) bytes rest (omega arith) w.0 w.1;
}
