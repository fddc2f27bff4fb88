-- What is written as a value is a value, and no deeper than it may be.
use Rattle.std.proofs.Common.{◌≡◌, ℕ, zero, suc, ◌^◌, ◌<◌, ◌≤◌, Bool, true, false, cond, ltb, leb, ◌&&◌, List, [], ◌∷◌, length, drop, Some, None, ℤ, pos, neg_ℤ, sym, ap, subst, ◌∙◌, arith, inl, inr}
use Rattle.std.specs.Char.{IsScalar}
use Rattle.std.specs.Str.{is_utf8, chars}
use Rattle.std.specs.Str.Parse.{digits_value}
use Rattle.std.proofs.Math.Utf8.{scalar, scalars}
use Rattle.std.proofs.lemmas.Bool.{ltb-true, leb-true}
use Rattle.std.proofs.lemmas.Str.{scalars-chars, IsUtf8-from_is_utf8}
use Rattle.rhd_value.specs.declared.tag.FnPtrType.{FnPtrType}
use Rattle.rhd_value.specs.declared.tag.FnPtrType.TheVariants as types
use Rattle.rhd_value.specs.Tree.{Bytes, Kind, unit, boolean, integer, character, text, array, object, pointer, custom, Items, no_items, item, Members, no_members, member, Tree, list_of, entries_of}
use Rattle.rhd_syntax.specs.Bytes.{begins, is_digits, is_signed_digits, fitting_int, num_of, int_of}
use Rattle.rhd_text.specs.Proper.{IsInt, IsType, IsProper, AreProper, HasProper, depth_kind, depth_items, depth_members, depth}
use Rattle.rhd_syntax.specs.Spans.{Span, each, word, number, pair, pointer_number, kind, value_within, IsValue}
use Rattle.rhd_syntax.proofs.Agrees.{cond_some, and_parts}
use Rattle.rhd_text.proofs.WrittenMaps.{AllHold, no_entries_hold, first_holds, each_ascending, each_holds, nothing_ascends, pairs_hold}

-- ---- numbers

pos_fits : (n : ℕ) (z : ℤ) → n < 2 ^ 63 → pos n ≡ z → IsInt z
pos_fits n z h e = subst (λ (y : ℤ). IsInt y) e h

neg_is : (n : ℕ) → n ≤ 2 ^ 63 → IsInt (neg_ℤ (pos n))
neg_is zero h = omega arith
neg_is (suc n) h = omega (arith, h)

neg_fits : (n : ℕ) (z : ℤ) → n ≤ 2 ^ 63 → neg_ℤ (pos n) ≡ z → IsInt z
neg_fits n z h e = subst (λ (y : ℤ). IsInt y) e (neg_is n h)

fitting_fits : (b : Bool) (w : List ℕ) (z : ℤ) → cond b (cond (leb (digits_value 10 (drop 1 w)) (2 ^ 63)) (Some (neg_ℤ (pos (digits_value 10 (drop 1 w))))) None) (cond (ltb (digits_value 10 w) (2 ^ 63)) (Some (pos (digits_value 10 w))) None) ≡ Some z → IsInt z
fitting_fits true w z e = let c = cond_some (leb (digits_value 10 (drop 1 w)) (2 ^ 63)) (neg_ℤ (pos (digits_value 10 (drop 1 w)))) z e in neg_fits (digits_value 10 (drop 1 w)) z (leb-true _ _ c.0) c.1
fitting_fits false w z e = let c = cond_some (ltb (digits_value 10 w) (2 ^ 63)) (pos (digits_value 10 w)) z e in pos_fits (digits_value 10 w) z (ltb-true _ _ c.0) c.1

signed_fits : (b : Bool) (w : List ℕ) (z : ℤ) → cond b (fitting_int w) None ≡ Some z → IsInt z
signed_fits true w z e = fitting_fits (begins 45 w) w z e
signed_fits false w z e = absurd cc

int_fits : (w : List ℕ) (z : ℤ) → int_of w ≡ Some z → IsInt z
unfolding int_of
int_fits w z e = signed_fits (is_signed_digits w) w z e

last_of_three : (a b c : Bool) → ((a && b) && c) ≡ true → c ≡ true
last_of_three a b c e = (and_parts (a && b) c e).1

num_fits : (bits : ℕ) (w : List ℕ) (n : ℕ) → num_of bits w ≡ Some n → n < 2 ^ bits
unfolding num_of
num_fits bits w n e =
    let c = cond_some ((is_digits w && leb (length w) 20) && ltb (digits_value 10 w) (2 ^ bits)) (digits_value 10 w) n e in
    let lt = ltb-true _ _ (last_of_three (is_digits w) (leb (length w) 20) (ltb (digits_value 10 w) (2 ^ bits)) c.0) in
    subst (λ (m : ℕ). m < 2 ^ bits) c.1 lt

-- ---- texts

word_utf8 : (s bytes rest : List ℕ) → word s bytes rest → is_utf8 s ≡ true
word_utf8 s bytes rest (middle, gap, inl w) = w.0
word_utf8 s bytes rest (middle, gap, inr w) = w.0

one_scalar : (c : ℕ) (s : List ℕ) → chars s ≡ c ∷ [] → is_utf8 s ≡ true → IsScalar c
one_scalar c s one utf8 =
    let all : scalars (c ∷ []) ≡ true = ap scalars (sym one) ∙ scalars-chars s (IsUtf8-from_is_utf8 s utf8) in
    (and_parts (scalar c) (scalars []) all).0

type_fits : (p : FnPtrType) (bytes rest : List ℕ) → pointer_number p bytes rest → IsType p
type_fits types.Normal bytes rest w = tt
type_fits (types.Script n) bytes rest w = num_fits 64 w.0 n w.1
type_fits (types.Native id) bytes rest w = num_fits 32 w.0 id.0 w.1

-- ---- values inside a value

-- what holds of the values inside
abbrev Shallow : ℕ → Tree → Type 0
Shallow d t = IsProper t.kind × (depth t ≤ d)

abbrev AllShallow : ℕ → (Tree → Span) → Type 0
AllShallow d element = (t : Tree) (bytes rest : List ℕ) → element t bytes rest → Shallow d t

items_fit : (d : ℕ) (element : Tree → Span) → AllShallow d element → (ts : Items) (bytes rest : List ℕ) → each element (list_of ts) bytes rest → AreProper ts × (depth_items ts ≤ d)
items_fit d element one no_items bytes rest w = (tt, omega arith)
items_fit d element one (item k m ts) bytes rest w =
    let a = one (record { kind = k; marks = m }) bytes w.0 w.1 in
    let b = items_fit d element one ts w.0 rest w.2 in
    ((a.0, b.0), omega (arith, a.1, b.1))

-- what holds of each entry of a map
abbrev Entry : ℕ → Bytes × Tree → Type 0
Entry d e = (is_utf8 e.0 ≡ true) × Shallow d e.1

pair_fits : (d : ℕ) (element : Tree → Span) → AllShallow d element → (e : Bytes × Tree) (bytes rest : List ℕ) → pair element e bytes rest → Entry d e
pair_fits d element one e bytes rest w = (word_utf8 e.0 bytes w.0 w.1, one e.1 w.0 rest w.2)

members_fit : (d : ℕ) (es : Members) → AllHold (Entry d) (entries_of es) → HasProper es × (depth_members es ≤ d)
members_fit d no_members h = (tt, omega arith)
members_fit d (member n k m es) h =
    let a = first_holds (Entry d) (n, record { kind = k; marks = m }) (entries_of es) h in
    let b = members_fit d es a.1 in
    ((a.0.0, a.0.1.0, b.0), omega (arith, a.0.1.1, b.1))

kind_fits : (d : ℕ) (element : Tree → Span) → AllShallow d element → (k : Kind) (bytes rest : List ℕ) → kind element k bytes rest → IsProper k × (depth_kind k ≤ suc d)
kind_fits d element one unit bytes rest w = (tt, omega arith)
kind_fits d element one (boolean b) bytes rest w = (tt, omega arith)
kind_fits d element one (integer z) bytes rest w = (int_fits w.0 z w.1, omega arith)
kind_fits d element one (character c) bytes rest w = (one_scalar c w.0 w.1 w.2.0, omega arith)
kind_fits d element one (text s) bytes rest w = (w.0, omega arith)
kind_fits d element one (array ts) bytes rest w = let a = items_fit d element one ts w.0 w.2.0 w.2.1 in (a.0, omega (arith, a.1))
kind_fits d element one (object es) bytes rest w =
    let ps = w.2.1 in
    let new = pairs_hold (Entry d) element (pair_fits d element one) ps.0 w.0 w.2.0 ps.2 in
    let all = each_holds (Entry d) (λ e p he hp. (he.0, hp.1)) ps.0 [] (entries_of es) ps.1 new (no_entries_hold (Entry d)) in
    let a = members_fit d es all in
    ((each_ascending ps.0 [] (entries_of es) ps.1 nothing_ascends, a.0), omega (arith, a.1))
kind_fits d element one (pointer f ts p) bytes rest (m, r, (after, e, (a, name, (b, t, (c, curry, close))))) =
    let x = items_fit d element one ts b c curry in
    ((word_utf8 f after a name, x.0, type_fits p a b t), omega (arith, x.1))
kind_fits d element one (custom n z) bytes rest (m, r, (after, e, (a, number, (b, payload, close)))) = ((num_fits 32 number.0 n number.1, int_fits payload.2.0 z payload.2.1), omega arith)

pub value_fits : (d : ℕ) → AllShallow d (value_within d)
unfolding value_within
value_fits zero t bytes rest w = absurd w
value_fits (suc d) t bytes rest w = kind_fits d (value_within d) (value_fits d) t.kind w.2.0 rest w.2.2

pub whole_fits : (t : Tree) (bytes : List ℕ) → IsValue t bytes → IsProper t.kind × (depth t ≤ 64)
whole_fits t bytes w = value_fits 64 t bytes w.written.0 w.written.1
