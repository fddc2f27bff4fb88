-- Values that were printed are in UTF-8.
use Rattle.std.proofs.Common.{◌≡◌, ℕ, suc, ◌^◌, ◌<◌, ◌≤◌, Bool, true, false, ltb, List, [], ◌∷◌, ◌++◌, length, get_or, ℤ, pos, negsuc, refl, sym, subst, arith, inl, inr}
use Rattle.std.specs.Prelude.{codes}
use Rattle.std.specs.List.{list_all, flat_map}
use Rattle.std.specs.Char.{IsScalar, encode_utf8}
use Rattle.std.specs.Str.{IsUtf8, is_utf8}
use Rattle.std.specs.Fmt.{decimal, signed_decimal}
use Rattle.std.proofs.Math.Utf8.{scalar, scalars, encodes, encode}
use Rattle.std.proofs.lemmas.Bool.{ne_eqb, ltb-true, cases_lt}
use Rattle.std.proofs.lemmas.Bool.Decides.{eqb_tells}
use Rattle.std.proofs.lemmas.Grind.{flat_map-append}
use Rattle.std.proofs.lemmas.List.{append-nil}
use Rattle.std.proofs.lemmas.Str.{IsUtf8-nil, IsUtf8-append, IsUtf8-encode, IsUtf8-from_ascii, IsUtf8-from_is_utf8, is_utf8-from_IsUtf8, encode_ascii, inside_one}
use Rattle.std.proofs.lemmas.Fmt.{digits_decimal, IsAscii-from_digits}
use Rattle.rhd_value.specs.declared.tag.Marks.{Marks}
use Rattle.rhd_value.specs.declared.tag.FnPtrType.{FnPtrType}
use Rattle.rhd_value.specs.declared.tag.FnPtrType.TheVariants as types
use Rattle.rhd_value.specs.Tree.{Bytes, Kind, unit, boolean, integer, character, text, array, object, pointer, custom, Items, no_items, item, Members, no_members, member, Tree}
use Rattle.rhd_print.specs.PrintedTexts.{escaped, quoted_by, quoted}
use Rattle.rhd_print.specs.PrintedValues as print
use Rattle.rhd_print.specs.PrintedValues.{mark_signs, pointer_head, spelled_kind, spelled_items, spaced_items, spelled_members, spaced_members, spelled}
use Rattle.rhd_text.specs.Proper.{IsInt, IsType, IsProper, AreProper, HasProper, depth}
use Rattle.rhd_syntax.specs.Spans.{value, IsValue}
use Rattle.rhd_syntax.proofs.Agrees.{and_parts}
use Rattle.rhd_syntax.proofs.NumberLaws.{ascii-cons}
use Rattle.rhd_text.proofs.AgainWords.{own, no_space}
use Rattle.rhd_text.proofs.AgainValues.{sign, value_again}

-- ---- ASCII

byte_utf8 : (b : ℕ) → b < 128 → IsUtf8 (b ∷ [])
byte_utf8 b small = IsUtf8-from_ascii (b ∷ []) (ascii-cons b [] small (λ i. omega arith))

small_utf8 : (bs : List ℕ) → list_all (λ b. ltb b 128) bs ≡ true → IsUtf8 bs
small_utf8 [] h = IsUtf8-nil
small_utf8 (b ∷ bs) h =
    let a = and_parts (ltb b 128) (list_all (λ b. ltb b 128) bs) h in
    IsUtf8-append (b ∷ []) bs (byte_utf8 b (ltb-true b 128 a.0)) (small_utf8 bs a.1)

two_utf8 : (b c : ℕ) → b < 128 → c < 128 → IsUtf8 (b ∷ (c ∷ []))
two_utf8 b c small other = IsUtf8-append (b ∷ []) (c ∷ []) (byte_utf8 b small) (byte_utf8 c other)

-- ---- numbers

decimal_utf8 : (n : ℕ) → n < 2 ^ 64 → IsUtf8 (decimal n)
decimal_utf8 n fits = IsUtf8-from_ascii (decimal n) (IsAscii-from_digits (decimal n) (own.to (decimal n) (digits_decimal own n fits)))

signed_utf8 : (z : ℤ) → IsInt z → IsUtf8 (signed_decimal z)
signed_utf8 (pos n) small = decimal_utf8 n (omega (arith, small))
signed_utf8 (negsuc n) small = IsUtf8-append (45 ∷ []) (decimal (suc n)) (byte_utf8 45 (omega arith)) (decimal_utf8 (suc n) (omega (arith, small)))

-- ---- texts

escaped_utf8 : (q b : ℕ) → q < 128 → b < 128 → IsUtf8 (escaped q b)
escaped_utf8 q b quote small =
    elim (eqb_tells b 92) [
      | inl s ↦ rw s.0 (two_utf8 92 92 (omega arith) (omega arith))
      | inr s ↦ elim (eqb_tells b q) [
        | inl t ↦ rw (s.0, t.0) (two_utf8 92 q (omega arith) quote)
        | inr t ↦ elim (eqb_tells b 10) [
          | inl u ↦ rw (s.0, t.0, u.0) (two_utf8 92 110 (omega arith) (omega arith))
          | inr u ↦ elim (eqb_tells b 9) [
            | inl v ↦ rw (s.0, t.0, u.0, v.0) (two_utf8 92 116 (omega arith) (omega arith))
            | inr v ↦ elim (eqb_tells b 13) [
              | inl w ↦ rw (s.0, t.0, u.0, v.0, w.0) (two_utf8 92 114 (omega arith) (omega arith))
              | inr w ↦ rw (s.0, t.0, u.0, v.0, w.0) (byte_utf8 b small)
            ]
          ]
        ]
      ]
    ]

large_stays : (q b : ℕ) → q < 128 → 128 ≤ b → escaped q b ≡ b ∷ []
large_stays q b quote large =
    rw (ne_eqb b 92 (λ e. omega (arith, e, large)), ne_eqb b q (λ e. omega (arith, e, large, quote)), ne_eqb b 10 (λ e. omega (arith, e, large)), ne_eqb b 9 (λ e. omega (arith, e, large)), ne_eqb b 13 (λ e. omega (arith, e, large))) refl

large_all_stay : (q : ℕ) (bs : List ℕ) → q < 128 → ((k : ℕ) → k < length bs → 128 ≤ get_or bs k 0) → flat_map (escaped q) bs ≡ bs
large_all_stay q [] quote large = refl
large_all_stay q (b ∷ bs) quote large =
    rw (large_stays q b quote (large 0 (omega arith)), large_all_stay q bs quote (λ k h. large (suc k) (omega (arith, h)))) refl

large_bytes : (c : ℕ) → 128 ≤ c → (k : ℕ) → k < length (encode c) → 128 ≤ get_or (encode c) k 0
large_bytes c large k h =
    elim (cases_lt (get_or (encode c) k 0) 128) [
      | inl lt ↦ absurd (omega (arith, large, lt, inside_one c [] (encode c) k (sym (append-nil (encode c))) h lt))
      | inr le ↦ le
    ]

one_escaped : (q c : ℕ) → q < 128 → IsScalar c → IsUtf8 (flat_map (escaped q) (encode c))
one_escaped q c quote proper =
    elim (cases_lt c 128) [
      | inl lt ↦ subst (λ (x : List ℕ). IsUtf8 (flat_map (escaped q) x)) (sym (encode_ascii c lt)) (subst (λ (x : List ℕ). IsUtf8 x) (sym (append-nil (escaped q c))) (escaped_utf8 q c quote lt))
      | inr le ↦ subst (λ (x : List ℕ). IsUtf8 x) (sym (large_all_stay q (encode c) quote (large_bytes c le))) (IsUtf8-encode c proper)
    ]

all_escaped : (q : ℕ) (cs : List ℕ) → q < 128 → scalars cs ≡ true → IsUtf8 (flat_map (escaped q) (encodes cs))
all_escaped q [] quote h = IsUtf8-nil
all_escaped q (c ∷ cs) quote h =
    let a = and_parts (scalar c) (scalars cs) h in
    subst (λ (x : List ℕ). IsUtf8 x) (sym (flat_map-append (escaped q) (encode c) (encodes cs))) (IsUtf8-append (flat_map (escaped q) (encode c)) (flat_map (escaped q) (encodes cs)) (one_escaped q c quote a.0) (all_escaped q cs quote a.1))

quoted_utf8 : (q : ℕ) (s : List ℕ) → q < 128 → IsUtf8 s → IsUtf8 (quoted_by q s)
unfolding quoted_by
quoted_utf8 q s quote u =
    let inner : IsUtf8 (flat_map (escaped q) s) = subst (λ (x : List ℕ). IsUtf8 (flat_map (escaped q) x)) u.1.1 (all_escaped q u.0 quote u.1.0) in
    IsUtf8-append (q ∷ flat_map (escaped q) s) (q ∷ []) (IsUtf8-append (q ∷ []) (flat_map (escaped q) s) (byte_utf8 q quote) inner) (byte_utf8 q quote)

text_utf8 : (s : List ℕ) → is_utf8 s ≡ true → IsUtf8 (quoted s)
text_utf8 s h = quoted_utf8 34 s (omega arith) (IsUtf8-from_is_utf8 s h)

-- ---- values

sign_utf8 : (c : ℕ) (x : Bool) → c < 128 → IsUtf8 (sign c x)
sign_utf8 c true small = byte_utf8 c small
sign_utf8 c false small = IsUtf8-nil

marks_utf8 : (m : Marks) → IsUtf8 (mark_signs m)
unfolding mark_signs
marks_utf8 m =
    let a = sign_utf8 33 m.read_only (omega arith) in
    let b = sign_utf8 37 m.shared (omega arith) in
    let c = sign_utf8 126 m.locked (omega arith) in
    IsUtf8-append (sign 33 m.read_only ++ sign 37 m.shared) (sign 126 m.locked) (IsUtf8-append (sign 33 m.read_only) (sign 37 m.shared) a b) c

head_utf8 : (p : FnPtrType) → IsUtf8 (pointer_head p)
head_utf8 types.Normal = small_utf8 (codes "fn(") refl
head_utf8 (types.Script n) = small_utf8 (codes "fn*(") refl
head_utf8 (types.Native id) = small_utf8 (codes "fn#(") refl

type_utf8 : (p : FnPtrType) → IsType p → IsUtf8 (print.spelled_type p)
type_utf8 types.Normal t = IsUtf8-nil
type_utf8 (types.Script n) t = IsUtf8-append (32 ∷ []) (decimal n) (byte_utf8 32 (omega arith)) (decimal_utf8 n t)
type_utf8 (types.Native id) t = IsUtf8-append (32 ∷ []) (decimal id.0) (byte_utf8 32 (omega arith)) (decimal_utf8 id.0 (omega (arith, t)))

truth_utf8 : (b : Bool) → IsUtf8 (spelled_kind (boolean b))
truth_utf8 true = small_utf8 (codes "true") refl
truth_utf8 false = small_utf8 (codes "false") refl

between : (a c : ℕ) (s : List ℕ) → a < 128 → c < 128 → IsUtf8 s → IsUtf8 ((a ∷ s) ++ c ∷ [])
between a c s small close u = IsUtf8-append (a ∷ s) (c ∷ []) (IsUtf8-append (a ∷ []) s (byte_utf8 a small) u) (byte_utf8 c close)

marked_utf8 : (m : Marks) (s : List ℕ) → IsUtf8 s → IsUtf8 (mark_signs m ++ s)
marked_utf8 m s u = IsUtf8-append (mark_signs m) s (marks_utf8 m) u

custom_utf8 : (n : ℕ) (z : ℤ) → n < 2 ^ 32 → IsInt z → IsUtf8 (spelled_kind (custom n z))
custom_utf8 n z number payload =
    let a = IsUtf8-append (codes "custom(") (decimal n) (small_utf8 (codes "custom(") refl) (decimal_utf8 n (omega (arith, number))) in
    let b = IsUtf8-append (codes "custom(" ++ decimal n) (32 ∷ []) a (byte_utf8 32 (omega arith)) in
    let c = IsUtf8-append ((codes "custom(" ++ decimal n) ++ 32 ∷ []) (signed_decimal z) b (signed_utf8 z payload) in
    IsUtf8-append (((codes "custom(" ++ decimal n) ++ 32 ∷ []) ++ signed_decimal z) (41 ∷ []) c (byte_utf8 41 (omega arith))

pointer_utf8 : (f : Bytes) (ts : Items) (p : FnPtrType) → is_utf8 f ≡ true → IsType p → IsUtf8 (spaced_items ts) → IsUtf8 (spelled_kind (pointer f ts p))
pointer_utf8 f ts p name t curry =
    let a = IsUtf8-append (pointer_head p) (quoted f) (head_utf8 p) (text_utf8 f name) in
    let b = IsUtf8-append (pointer_head p ++ quoted f) (print.spelled_type p) a (type_utf8 p t) in
    let c = IsUtf8-append ((pointer_head p ++ quoted f) ++ print.spelled_type p) (spaced_items ts) b curry in
    IsUtf8-append (((pointer_head p ++ quoted f) ++ print.spelled_type p) ++ spaced_items ts) (41 ∷ []) c (byte_utf8 41 (omega arith))

entry_utf8 : (n v : List ℕ) → is_utf8 n ≡ true → IsUtf8 v → IsUtf8 ((quoted n ++ 32 ∷ []) ++ v)
entry_utf8 n v name u = IsUtf8-append (quoted n ++ 32 ∷ []) v (IsUtf8-append (quoted n) (32 ∷ []) (text_utf8 n name) (byte_utf8 32 (omega arith))) u

spaced_utf8 : (v : List ℕ) → IsUtf8 v → IsUtf8 (32 ∷ v)
spaced_utf8 v u = IsUtf8-append (32 ∷ []) v (byte_utf8 32 (omega arith)) u

mutual
  kind_utf8 : (k : Kind) → IsProper k → IsUtf8 (spelled_kind k)
  kind_utf8 unit p = small_utf8 (codes "()") refl
  kind_utf8 (boolean b) p = truth_utf8 b
  kind_utf8 (integer z) p = signed_utf8 z p
  kind_utf8 (character c) p = quoted_utf8 39 (encode_utf8 c) (omega arith) (IsUtf8-encode c p)
  kind_utf8 (text s) p = text_utf8 s p
  kind_utf8 (array ts) p = between 91 93 (spelled_items ts) (omega arith) (omega arith) (items_utf8 ts p)
  kind_utf8 (object es) p = between 123 125 (spelled_members es) (omega arith) (omega arith) (members_utf8 es p.1)
  kind_utf8 (pointer f ts t) p = pointer_utf8 f ts t p.0 p.2 (more_items_utf8 ts p.1)
  kind_utf8 (custom n z) p = custom_utf8 n z p.0 p.1

  items_utf8 : (ts : Items) → AreProper ts → IsUtf8 (spelled_items ts)
  items_utf8 no_items p = IsUtf8-nil
  items_utf8 (item k m ts) p = IsUtf8-append (mark_signs m ++ spelled_kind k) (spaced_items ts) (marked_utf8 m (spelled_kind k) (kind_utf8 k p.0)) (more_items_utf8 ts p.1)

  more_items_utf8 : (ts : Items) → AreProper ts → IsUtf8 (spaced_items ts)
  more_items_utf8 no_items p = IsUtf8-nil
  more_items_utf8 (item k m ts) p = IsUtf8-append (32 ∷ (mark_signs m ++ spelled_kind k)) (spaced_items ts) (spaced_utf8 (mark_signs m ++ spelled_kind k) (marked_utf8 m (spelled_kind k) (kind_utf8 k p.0))) (more_items_utf8 ts p.1)

  members_utf8 : (es : Members) → HasProper es → IsUtf8 (spelled_members es)
  members_utf8 no_members p = IsUtf8-nil
  members_utf8 (member n k m es) p = IsUtf8-append ((quoted n ++ 32 ∷ []) ++ (mark_signs m ++ spelled_kind k)) (spaced_members es) (entry_utf8 n (mark_signs m ++ spelled_kind k) p.0 (marked_utf8 m (spelled_kind k) (kind_utf8 k p.1))) (more_members_utf8 es p.2)

  more_members_utf8 : (es : Members) → HasProper es → IsUtf8 (spaced_members es)
  more_members_utf8 no_members p = IsUtf8-nil
  more_members_utf8 (member n k m es) p =
      IsUtf8-append (32 ∷ ((quoted n ++ 32 ∷ []) ++ (mark_signs m ++ spelled_kind k))) (spaced_members es) (spaced_utf8 ((quoted n ++ 32 ∷ []) ++ (mark_signs m ++ spelled_kind k)) (entry_utf8 n (mark_signs m ++ spelled_kind k) p.0 (marked_utf8 m (spelled_kind k) (kind_utf8 k p.1)))) (more_members_utf8 es p.2)

-- a value that was printed is the whole of what was printed
pub whole_again : (t : Tree) → IsProper t.kind → depth t ≤ 64 → IsValue t (spelled t)
whole_again t p deep =
    record {
      utf8 = is_utf8-from_IsUtf8 (spelled t) (marked_utf8 t.marks (spelled_kind t.kind) (kind_utf8 t.kind p));
      written = ([], subst (λ (x : List ℕ). value t x []) (append-nil (spelled t)) (value_again t [] p deep refl), no_space []);
    }
