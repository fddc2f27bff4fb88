-- In bytes in UTF-8 the first line is in UTF-8, and so is what stands after its end.
use Rattle.std.proofs.Common.{◌≡◌, ℕ, ◌+◌, ◌-◌, ◌<◌, Bool, true, false, cond, ltb, eqb, List, [], ◌∷◌, length, take, drop, get_or, Some, refl, subst, arith, position}
use Rattle.std.specs.List.{position_or_len}
use Rattle.std.specs.Str.{IsUtf8, is_utf8}
use Rattle.std.specs.Str.Lines.{strip_carriage_return}
use Rattle.std.proofs.lemmas.Bool.{ltb-true, eqb-true}
use Rattle.std.proofs.lemmas.List.Sums.{passes_at_first}
use Rattle.std.proofs.lemmas.Str.{IsUtf8-nil, IsUtf8-take, IsUtf8-drop, IsUtf8-from_is_utf8, is_utf8-from_IsUtf8, IsCharBoundary-before_ascii, IsCharBoundary-after_ascii}
use Rattle.rhd_text.proofs.LineLaws.{feed, some_is}

-- where the first line feed stands, there is one
feed_stands : (bytes : List ℕ) (n : ℕ) → position feed bytes ≡ Some n → (n < length bytes) × (get_or bytes n 0 ≡ 10)
feed_stands bytes n e =
    let s = some_is (ltb (position_or_len feed bytes) (length bytes)) (position_or_len feed bytes) n e in
    let lt = ltb-true _ _ s.0 in
    subst (λ (k : ℕ). (k < length bytes) × (get_or bytes k 0 ≡ 10)) s.1 (lt, eqb-true _ 10 (passes_at_first feed bytes 0 lt))

front : (bytes : List ℕ) (n : ℕ) → IsUtf8 bytes → n < length bytes → get_or bytes n 0 < 128 → IsUtf8 (take n bytes)
front bytes n u lt small = IsUtf8-take bytes n u (IsCharBoundary-before_ascii bytes n lt small)

back : (bytes : List ℕ) (n : ℕ) → IsUtf8 bytes → n < length bytes → get_or bytes n 0 < 128 → IsUtf8 (drop (n + 1) bytes)
back bytes n u lt small = IsUtf8-drop bytes (n + 1) u (IsCharBoundary-after_ascii bytes n u lt small)

stripped : (line : List ℕ) (b : Bool) → eqb (get_or line (length line - 1) 0) 13 ≡ b → IsUtf8 line → IsUtf8 (cond b (take (length line - 1) line) line)
stripped line false e u = u
stripped [] true e u = u
stripped (c ∷ line) true e u =
    let n = length (c ∷ line) - 1 in
    front (c ∷ line) n u (omega arith) (omega (arith, eqb-true (get_or (c ∷ line) n 0) 13 e))

-- the line before the first line feed
pub line_is_utf8 : (bytes : List ℕ) (n : ℕ) → position feed bytes ≡ Some n → is_utf8 bytes ≡ true → is_utf8 (strip_carriage_return (take n bytes)) ≡ true
line_is_utf8 bytes n e h =
    let f = feed_stands bytes n e in
    is_utf8-from_IsUtf8 _ (stripped (take n bytes) _ refl (front bytes n (IsUtf8-from_is_utf8 bytes h) f.0 (omega (arith, f.1))))

-- what stands after the first line feed
pub rest_is_utf8 : (bytes : List ℕ) (n : ℕ) → position feed bytes ≡ Some n → is_utf8 bytes ≡ true → is_utf8 (drop (n + 1) bytes) ≡ true
rest_is_utf8 bytes n e h =
    let f = feed_stands bytes n e in
    is_utf8-from_IsUtf8 _ (back bytes n (IsUtf8-from_is_utf8 bytes h) f.0 (omega (arith, f.1)))

pub nothing_is_utf8 : is_utf8 [] ≡ true
nothing_is_utf8 = is_utf8-from_IsUtf8 [] IsUtf8-nil
