-- In a line in UTF-8 every text is UTF-8.
use Rattle.std.proofs.Common.{◌≡◌, ℕ, ◌<◌, Bool, true, false, cond, eqb, ◌||◌, List, [], ◌∷◌, ◌++◌, length, get_or, Option, Some, None, refl, sym, subst, arith, append_assoc, length-append, inl, inr}
use Rattle.std.specs.Str.{IsUtf8, is_utf8}
use Rattle.std.proofs.Math.Seq.{take-append_seam, drop-append_seam}
use Rattle.std.proofs.lemmas.List.{append-nil}
use Rattle.std.proofs.lemmas.Bool.{eqb-true}
use Rattle.std.proofs.lemmas.Bool.Decides.{nat_tests}
use Rattle.std.proofs.lemmas.Str.{IsUtf8-append, IsUtf8-take, IsUtf8-drop, IsUtf8-from_ascii, IsUtf8-from_is_utf8, IsCharBoundary-before_ascii, IsCharBoundary-after_ascii}
use Rattle.rhd_syntax.specs.Bytes.{is_blank, is_bracket, may_end, unescaped}
use Rattle.rhd_syntax.specs.Spans.{◌▸◌, byte, letters_to, letters, run}
use Rattle.rhd_syntax.proofs.Agrees.{same_some}
use Rattle.rhd_syntax.proofs.NumberLaws.{ascii-cons, is_text}

-- ---- cutting at an ASCII byte

at_seam : (p : List ℕ) (b : ℕ) (m : List ℕ) → get_or (p ++ b ∷ m) (length p) 0 ≡ b
at_seam [] b m = refl
at_seam (x ∷ p) b m = at_seam p b m

inside : (p : List ℕ) (b : ℕ) (m : List ℕ) → length p < length (p ++ b ∷ m)
inside p b m = omega (arith, length-append p (b ∷ m))

front : (p : List ℕ) (b : ℕ) (m : List ℕ) → IsUtf8 (p ++ b ∷ m) → b < 128 → IsUtf8 p
front p b m u small = subst (λ (x : List ℕ). IsUtf8 x) (take-append_seam p (b ∷ m)) (IsUtf8-take (p ++ b ∷ m) (length p) u (IsCharBoundary-before_ascii (p ++ b ∷ m) (length p) (inside p b m) (omega (arith, small, at_seam p b m))))

tail : (b : ℕ) (m : List ℕ) → IsUtf8 (b ∷ m) → b < 128 → IsUtf8 m
tail b m u small = IsUtf8-drop (b ∷ m) 1 u (IsCharBoundary-after_ascii (b ∷ m) 0 u (omega arith) small)

back : (p : List ℕ) (b : ℕ) (m : List ℕ) → IsUtf8 (p ++ b ∷ m) → b < 128 → IsUtf8 m
back p b m u small = tail b m (subst (λ (x : List ℕ). IsUtf8 x) (drop-append_seam p (b ∷ m)) (IsUtf8-drop (p ++ b ∷ m) (length p) u (IsCharBoundary-before_ascii (p ++ b ∷ m) (length p) (inside p b m) (omega (arith, small, at_seam p b m))))) small

one_more : (c : ℕ) (s : List ℕ) → c < 128 → IsUtf8 s → IsUtf8 (c ∷ s)
one_more c s small u = IsUtf8-append (c ∷ []) s (IsUtf8-from_ascii (c ∷ []) (ascii-cons c [] small (λ i. omega arith))) u

-- ---- escapes are ASCII

abbrev Small : ℕ → ℕ → Type 0
Small e c = (e < 128) × (c < 128)

one_escape : (b : Bool) (k v e c : ℕ) (o : Option ℕ) → eqb e k ≡ b → k < 128 → v < 128 → (o ≡ Some c → Small e c) → cond b (Some v) o ≡ Some c → Small e c
one_escape true k v e c o t small value next h = (omega (arith, small, eqb-true e k t), omega (arith, value, same_some v c h))
one_escape false k v e c o t small value next h = next h

no_escape : (e c : ℕ) → None ≡ Some c → Small e c
no_escape e c h = absurd cc

escape_small : (e c : ℕ) → unescaped e ≡ Some c → Small e c
escape_small e c h =
    one_escape (eqb e 92) 92 92 e c _ refl (omega arith) (omega arith) (λ h.
    one_escape (eqb e 34) 34 34 e c _ refl (omega arith) (omega arith) (λ h.
    one_escape (eqb e 39) 39 39 e c _ refl (omega arith) (omega arith) (λ h.
    one_escape (eqb e 110) 110 10 e c _ refl (omega arith) (omega arith) (λ h.
    one_escape (eqb e 116) 116 9 e c _ refl (omega arith) (omega arith) (λ h.
    one_escape (eqb e 114) 114 13 e c _ refl (omega arith) (omega arith) (no_escape e c) h) h) h) h) h) h

-- ---- quoted texts

letters_utf8 : (k : ℕ) (small : k < 128) (s p m rest : List ℕ) → letters_to k s m rest → IsUtf8 (p ++ m) → IsUtf8 (p ++ s)
letters_utf8 k small [] p m rest l u = subst (λ (x : List ℕ). IsUtf8 x) (sym (append-nil p)) (front p k rest (subst (λ (x : List ℕ). IsUtf8 (p ++ x)) l u) small)
letters_utf8 k small (c ∷ s) p m rest (middle, inl l, more) u =
    let v : IsUtf8 ((p ++ c ∷ []) ++ middle) = subst (λ (x : List ℕ). IsUtf8 x) (sym (append_assoc p (c ∷ []) middle)) (subst (λ (x : List ℕ). IsUtf8 (p ++ x)) l.2 u) in
    subst (λ (x : List ℕ). IsUtf8 x) (append_assoc p (c ∷ []) s) (letters_utf8 k small s (p ++ c ∷ []) middle rest more v)
letters_utf8 k small (c ∷ s) p m rest (middle, inr l, more) u =
    let v : IsUtf8 (p ++ 92 ∷ (l.0 ∷ middle)) = subst (λ (x : List ℕ). IsUtf8 (p ++ x)) l.2 u in
    let tiny = escape_small l.0 c l.1 in
    let after : IsUtf8 middle = tail l.0 middle (back p 92 (l.0 ∷ middle) v (omega arith)) tiny.0 in
    IsUtf8-append p (c ∷ s) (front p 92 (l.0 ∷ middle) v (omega arith)) (one_more c s tiny.1 (letters_utf8 k small s [] middle rest more after))

between_utf8 : (k : ℕ) → k < 128 → (line before bytes rest s : List ℕ) → is_utf8 line ≡ true → line ≡ before ++ bytes → (byte k ▸ letters_to k s) bytes rest → is_utf8 s ≡ true
between_utf8 k small line before bytes rest s h e w =
    let u : IsUtf8 (before ++ k ∷ w.0) = subst (λ (x : List ℕ). IsUtf8 (before ++ x)) w.1 (subst (λ (x : List ℕ). IsUtf8 x) e (IsUtf8-from_is_utf8 line h)) in
    is_text s (letters_utf8 k small s [] w.0 rest w.2 (back before k w.0 u small))

pub quoted_utf8 : (line before bytes rest s : List ℕ) → is_utf8 line ≡ true → line ≡ before ++ bytes → (byte 34 ▸ letters s) bytes rest → is_utf8 s ≡ true
quoted_utf8 = between_utf8 34 (omega arith)

pub character_utf8 : (line before bytes rest s : List ℕ) → is_utf8 line ≡ true → line ≡ before ++ bytes → (byte 39 ▸ letters_to 39 s) bytes rest → is_utf8 s ≡ true
character_utf8 = between_utf8 39 (omega arith)

-- ---- unquoted texts

blank_small : (b : ℕ) → is_blank b ≡ true → b < 128
blank_small b h = grind (arith, nat_tests)

bracket_small : (b : ℕ) → is_bracket b ≡ true → b < 128
bracket_small b h = grind (arith, nat_tests)

end_small : (b : ℕ) → (is_blank b || is_bracket b) ≡ true → b < 128
end_small b h = grind (arith, nat_tests)

cut_end : (w rest : List ℕ) → may_end rest ≡ true → IsUtf8 (w ++ rest) → IsUtf8 w
cut_end w [] h u = subst (λ (x : List ℕ). IsUtf8 x) (append-nil w) u
cut_end w (b ∷ rest) h u = front w b rest u (end_small b h)

after_utf8 : (line before bytes rest w : List ℕ) (b : ℕ) → is_utf8 line ≡ true → b < 128 → line ≡ before ++ b ∷ bytes → run w bytes rest → is_utf8 w ≡ true
after_utf8 line before bytes rest w b h small e r =
    let u : IsUtf8 bytes = back before b bytes (subst (λ (x : List ℕ). IsUtf8 x) e (IsUtf8-from_is_utf8 line h)) small in
    is_text w (cut_end w rest r.3 (subst (λ (x : List ℕ). IsUtf8 x) r.2 u))

pub unquoted_utf8 : (line before bytes rest w : List ℕ) (b : ℕ) → is_utf8 line ≡ true → is_blank b ≡ true → line ≡ before ++ b ∷ bytes → run w bytes rest → is_utf8 w ≡ true
unquoted_utf8 line before bytes rest w b h blank e r = after_utf8 line before bytes rest w b h (blank_small b blank) e r

pub bracketed_utf8 : (line before bytes rest w : List ℕ) (b : ℕ) → is_utf8 line ≡ true → is_bracket b ≡ true → line ≡ before ++ b ∷ bytes → run w bytes rest → is_utf8 w ≡ true
bracketed_utf8 line before bytes rest w b h bracket e r = after_utf8 line before bytes rest w b h (bracket_small b bracket) e r
