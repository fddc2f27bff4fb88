-- Values that were printed are written so.
use Rattle.std.proofs.Common.{◌≡◌, ℕ, zero, suc, ◌<◌, ◌≤◌, Bool, true, false, cond, List, [], ◌∷◌, ◌++◌, ℤ, refl, sym, subst, arith, append_assoc}
use Rattle.std.specs.Prelude.{codes}
use Rattle.std.specs.Fmt.{decimal, signed_decimal}
use Rattle.rhd_value.specs.declared.tag.Marks.{Marks}
use Rattle.rhd_value.specs.declared.tag.FnPtrType.{FnPtrType}
use Rattle.rhd_value.specs.declared.tag.FnPtrType.TheVariants as types
use Rattle.rhd_value.specs.Tree.{Bytes, Kind, unit, boolean, integer, character, text, array, object, pointer, custom, Items, no_items, item, Members, no_members, member, Tree, list_of, entries_of}
use Rattle.rhd_syntax.specs.Bytes.{may_end}
use Rattle.rhd_print.specs.PrintedTexts.{quoted}
use Rattle.rhd_print.specs.PrintedValues as print
use Rattle.rhd_print.specs.PrintedValues.{mark_signs, pointer_head, spelled_kind, spelled_items, spaced_items, spelled_members, spaced_members, spelled}
use Rattle.rhd_text.specs.Proper.{IsType, IsProper, AreProper, HasProper, depth_kind, depth_items, depth_members, depth}
use Rattle.rhd_syntax.specs.Spans.{Span, ◌▸◌, blanks, byte, bracket, run, word, each, mark, marks, pair, pairs, pointer_word, pointer_number, kind, value_within, value}
use Rattle.rhd_text.proofs.AgainWords.{space, no_space, integer_again, number_again, quoted_again, character_again, word_again}
use Rattle.rhd_text.proofs.AgainMaps.{ascending_again}

-- ---- lists put together

regroup : (a b c d : List ℕ) → ((a ++ b) ++ c) ++ d ≡ a ++ (b ++ (c ++ d))
regroup a b c d = simp append_assoc

regroup_entry : (q a b c d : List ℕ) → (((q ++ 32 ∷ []) ++ (a ++ b)) ++ c) ++ d ≡ q ++ 32 ∷ (a ++ (b ++ (c ++ d)))
regroup_entry q a b c d = simp append_assoc

-- ---- marks

abbrev pub sign : ℕ → Bool → List ℕ
sign c x = cond x (c ∷ []) []

mark_again : (x : Bool) (c : ℕ) (rest : List ℕ) → mark c x (sign c x ++ rest) rest
mark_again true c rest = refl
mark_again false c rest = refl

marks_again : (m : Marks) (rest : List ℕ) → marks m (mark_signs m ++ rest) rest
unfolding mark_signs
marks_again m rest =
    let a = sign 33 m.read_only in
    let b = sign 37 m.shared in
    let c = sign 126 m.locked in
    let e : ((a ++ b) ++ c) ++ rest ≡ a ++ (b ++ (c ++ rest)) = regroup a b c rest in
    subst (λ (x : List ℕ). marks m x rest) (sym e) (b ++ (c ++ rest), mark_again m.read_only 33 (b ++ (c ++ rest)), (c ++ rest, mark_again m.shared 37 (c ++ rest), mark_again m.locked 126 rest))

-- a value whose kind is written so
element_again : (d : ℕ) (k : Kind) (m : Marks) (bytes rest : List ℕ) → blanks bytes (mark_signs m ++ (spelled_kind k ++ rest)) → kind (value_within d) k (spelled_kind k ++ rest) rest → value_within (suc d) (record { kind = k; marks = m }) bytes rest
unfolding value_within
element_again d k m bytes rest gap w = (mark_signs m ++ (spelled_kind k ++ rest), gap, (spelled_kind k ++ rest, marks_again m (spelled_kind k ++ rest), w))

-- ---- what stands after a value

items_end : (ts : Items) (rest : List ℕ) → may_end rest ≡ true → may_end (spaced_items ts ++ rest) ≡ true
items_end no_items rest ends = ends
items_end (item k m ts) rest ends = refl

members_end : (es : Members) (rest : List ℕ) → may_end rest ≡ true → may_end (spaced_members es ++ rest) ≡ true
members_end no_members rest ends = ends
members_end (member n k m es) rest ends = refl

type_ends : (p : FnPtrType) (rest : List ℕ) → may_end rest ≡ true → may_end (print.spelled_type p ++ rest) ≡ true
type_ends types.Normal rest ends = ends
type_ends (types.Script n) rest ends = refl
type_ends (types.Native id) rest ends = refl

depth_some : (k : Kind) → 0 < depth_kind k
depth_some unit = omega arith
depth_some (boolean b) = omega arith
depth_some (integer z) = omega arith
depth_some (character c) = omega arith
depth_some (text s) = omega arith
depth_some (array ts) = omega arith
depth_some (object es) = omega arith
depth_some (pointer f ts p) = omega arith
depth_some (custom n z) = omega arith

-- ---- the parts of each kind

truth_again : (element : Tree → Span) (b : Bool) (rest : List ℕ) → may_end rest ≡ true → kind element (boolean b) (spelled_kind (boolean b) ++ rest) rest
truth_again element true rest ends = (refl, omega arith, refl, ends)
truth_again element false rest ends = (refl, omega arith, refl, ends)

-- the word of a pointer, and its first bracket
head_again : (p : FnPtrType) (rest : List ℕ) → (run (pointer_word p) ▸ byte 40) (pointer_head p ++ rest) rest
head_again types.Normal rest = (40 ∷ rest, (refl, omega arith, refl, refl), refl)
head_again (types.Script n) rest = (40 ∷ rest, (refl, omega arith, refl, refl), refl)
head_again (types.Native id) rest = (40 ∷ rest, (refl, omega arith, refl, refl), refl)

type_again : (p : FnPtrType) (rest : List ℕ) → IsType p → may_end rest ≡ true → pointer_number p (print.spelled_type p ++ rest) rest
type_again types.Normal rest t ends = refl
type_again (types.Script n) rest t ends = number_again 64 n (32 ∷ (decimal n ++ rest)) rest t t ends (space (decimal n ++ rest))
type_again (types.Native id) rest t ends = number_again 32 id.0 (32 ∷ (decimal id.0 ++ rest)) rest t (omega (arith, t)) ends (space (decimal id.0 ++ rest))

-- a bracket that comes at once
closes : (c : ℕ) (rest : List ℕ) → bracket c (c ∷ rest) rest
closes c rest = (c ∷ rest, no_space (c ∷ rest), refl)

array_again : (element : Tree → Span) (ts : Items) (rest : List ℕ) → each element (list_of ts) (spelled_items ts ++ 93 ∷ rest) (93 ∷ rest) → kind element (array ts) (spelled_kind (array ts) ++ rest) rest
array_again element ts rest w =
    let inner = spelled_items ts in
    let e : (inner ++ 93 ∷ []) ++ rest ≡ inner ++ 93 ∷ rest = append_assoc inner (93 ∷ []) rest in
    ((inner ++ 93 ∷ []) ++ rest, refl, subst (λ (x : List ℕ). (each element (list_of ts) ▸ bracket 93) x rest) (sym e) (93 ∷ rest, w, closes 93 rest))

object_again : (element : Tree → Span) (es : Members) (rest : List ℕ) → IsProper (object es) → each (pair element) (entries_of es) (spelled_members es ++ 125 ∷ rest) (125 ∷ rest) → kind element (object es) (spelled_kind (object es) ++ rest) rest
object_again element es rest p w =
    let inner = spelled_members es in
    let e : (inner ++ 125 ∷ []) ++ rest ≡ inner ++ 125 ∷ rest = append_assoc inner (125 ∷ []) rest in
    ((inner ++ 125 ∷ []) ++ rest, refl, subst (λ (x : List ℕ). (pairs element (entries_of es) ▸ bracket 125) x rest) (sym e) (125 ∷ rest, (entries_of es, ascending_again (entries_of es) p.0, w), closes 125 rest))

pointer_again : (element : Tree → Span) (f : Bytes) (ts : Items) (p : FnPtrType) (rest : List ℕ) → IsProper (pointer f ts p) → each element (list_of ts) (spaced_items ts ++ 41 ∷ rest) (41 ∷ rest) → kind element (pointer f ts p) (spelled_kind (pointer f ts p) ++ rest) rest
pointer_again element f ts p rest proper w =
    let items = spaced_items ts in
    let n = print.spelled_type p in
    let last = items ++ 41 ∷ rest in
    let e : ((((pointer_head p ++ quoted f) ++ n) ++ items) ++ 41 ∷ []) ++ rest ≡ pointer_head p ++ (quoted f ++ (n ++ (items ++ 41 ∷ rest))) = simp append_assoc in
    let h = head_again p (quoted f ++ (n ++ last)) in
    let ends : may_end (n ++ last) ≡ true = type_ends p last (items_end ts (41 ∷ rest) refl) in
    subst (λ (x : List ℕ). kind element (pointer f ts p) x rest) (sym e) (
      h.0,
      h.1,
      (quoted f ++ (n ++ last), h.2, (n ++ last, word_again f (quoted f ++ (n ++ last)) (n ++ last) proper.0 ends (no_space (quoted f ++ (n ++ last))), (last, type_again p last proper.2 (items_end ts (41 ∷ rest) refl), (41 ∷ rest, w, closes 41 rest)))),
    )

custom_again : (element : Tree → Span) (n : ℕ) (z : ℤ) (rest : List ℕ) → IsProper (custom n z) → kind element (custom n z) (spelled_kind (custom n z) ++ rest) rest
custom_again element n z rest proper =
    let d = decimal n in
    let s = signed_decimal z in
    let e : ((((codes "custom(" ++ d) ++ codes " ") ++ s) ++ codes ")") ++ rest ≡ codes "custom(" ++ (d ++ (codes " " ++ (s ++ 41 ∷ rest))) = simp append_assoc in
    let last = s ++ 41 ∷ rest in
    subst (λ (x : List ℕ). kind element (custom n z) x rest) (sym e) (
      40 ∷ (d ++ 32 ∷ last),
      (refl, omega arith, refl, refl),
      (d ++ 32 ∷ last, refl, (32 ∷ last, number_again 32 n (d ++ 32 ∷ last) (32 ∷ last) proper.0 (omega (arith, proper.0)) refl (no_space (d ++ 32 ∷ last)), (41 ∷ rest, (last, space last, integer_again z (41 ∷ rest) proper.1 refl), closes 41 rest))),
    )

-- ---- values of every kind

mutual
  kind_again : (k : Kind) (d : ℕ) (rest : List ℕ) → IsProper k → depth_kind k ≤ suc d → may_end rest ≡ true → kind (value_within d) k (spelled_kind k ++ rest) rest
  kind_again unit d rest p deep ends = (41 ∷ rest, refl, closes 41 rest)
  kind_again (boolean b) d rest p deep ends = truth_again (value_within d) b rest ends
  kind_again (integer z) d rest p deep ends = integer_again z rest p ends
  kind_again (character c) d rest p deep ends = character_again c rest p ends
  kind_again (text s) d rest p deep ends = quoted_again 34 s rest refl p ends
  kind_again (array ts) d rest p deep ends = array_again (value_within d) ts rest (items_again ts d (93 ∷ rest) p (omega (arith, deep)) refl)
  kind_again (object es) d rest p deep ends = object_again (value_within d) es rest p (members_again es d (125 ∷ rest) p.1 (omega (arith, deep)) refl)
  kind_again (pointer f ts t) d rest p deep ends = pointer_again (value_within d) f ts t rest p (spaced_again ts d (41 ∷ rest) p.1 (omega (arith, deep)) refl)
  kind_again (custom n z) d rest p deep ends = custom_again (value_within d) n z rest p

  spaced_again : (ts : Items) (d : ℕ) (rest : List ℕ) → AreProper ts → depth_items ts ≤ d → may_end rest ≡ true → each (value_within d) (list_of ts) (spaced_items ts ++ rest) rest
  spaced_again no_items d rest p deep ends = refl
  spaced_again (item k m ts) zero rest p deep ends = absurd (omega (arith, deep, depth_some k))
  spaced_again (item k m ts) (suc d) rest p deep ends =
      let more = spaced_items ts ++ rest in
      let e = regroup (mark_signs m) (spelled_kind k) (spaced_items ts) rest in
      let w = kind_again k d more p.0 (omega (arith, deep)) (items_end ts rest ends) in
      (more, element_again d k m (32 ∷ (((mark_signs m ++ spelled_kind k) ++ spaced_items ts) ++ rest)) more (subst (λ (x : List ℕ). blanks (32 ∷ (((mark_signs m ++ spelled_kind k) ++ spaced_items ts) ++ rest)) x) e (space (((mark_signs m ++ spelled_kind k) ++ spaced_items ts) ++ rest))) w, spaced_again ts (suc d) rest p.1 (omega (arith, deep)) ends)

  items_again : (ts : Items) (d : ℕ) (rest : List ℕ) → AreProper ts → depth_items ts ≤ d → may_end rest ≡ true → each (value_within d) (list_of ts) (spelled_items ts ++ rest) rest
  items_again no_items d rest p deep ends = refl
  items_again (item k m ts) zero rest p deep ends = absurd (omega (arith, deep, depth_some k))
  items_again (item k m ts) (suc d) rest p deep ends =
      let more = spaced_items ts ++ rest in
      let e = regroup (mark_signs m) (spelled_kind k) (spaced_items ts) rest in
      let w = kind_again k d more p.0 (omega (arith, deep)) (items_end ts rest ends) in
      (more, element_again d k m (((mark_signs m ++ spelled_kind k) ++ spaced_items ts) ++ rest) more (subst (λ (x : List ℕ). blanks (((mark_signs m ++ spelled_kind k) ++ spaced_items ts) ++ rest) x) e (no_space (((mark_signs m ++ spelled_kind k) ++ spaced_items ts) ++ rest))) w, spaced_again ts (suc d) rest p.1 (omega (arith, deep)) ends)

  entries_again : (es : Members) (d : ℕ) (rest : List ℕ) → HasProper es → depth_members es ≤ d → may_end rest ≡ true → each (pair (value_within d)) (entries_of es) (spaced_members es ++ rest) rest
  entries_again no_members d rest p deep ends = refl
  entries_again (member n k m es) zero rest p deep ends = absurd (omega (arith, deep, depth_some k))
  entries_again (member n k m es) (suc d) rest p deep ends =
      let more = spaced_members es ++ rest in
      let tail = mark_signs m ++ (spelled_kind k ++ more) in
      let e = regroup_entry (quoted n) (mark_signs m) (spelled_kind k) (spaced_members es) rest in
      let w = kind_again k d more p.1 (omega (arith, deep)) (members_end es rest ends) in
      let first = word_again n (32 ∷ (quoted n ++ 32 ∷ tail)) (32 ∷ tail) p.0 refl (space (quoted n ++ 32 ∷ tail)) in
      let here = subst (λ (x : List ℕ). word n (32 ∷ x) (32 ∷ tail)) (sym e) first in
      (more, (32 ∷ tail, here, element_again d k m (32 ∷ tail) more (space tail) w), entries_again es (suc d) rest p.2 (omega (arith, deep)) ends)

  members_again : (es : Members) (d : ℕ) (rest : List ℕ) → HasProper es → depth_members es ≤ d → may_end rest ≡ true → each (pair (value_within d)) (entries_of es) (spelled_members es ++ rest) rest
  members_again no_members d rest p deep ends = refl
  members_again (member n k m es) zero rest p deep ends = absurd (omega (arith, deep, depth_some k))
  members_again (member n k m es) (suc d) rest p deep ends =
      let more = spaced_members es ++ rest in
      let tail = mark_signs m ++ (spelled_kind k ++ more) in
      let e = regroup_entry (quoted n) (mark_signs m) (spelled_kind k) (spaced_members es) rest in
      let w = kind_again k d more p.1 (omega (arith, deep)) (members_end es rest ends) in
      let first = word_again n (quoted n ++ 32 ∷ tail) (32 ∷ tail) p.0 refl (no_space (quoted n ++ 32 ∷ tail)) in
      let here = subst (λ (x : List ℕ). word n x (32 ∷ tail)) (sym e) first in
      (more, (32 ∷ tail, here, element_again d k m (32 ∷ tail) more (space tail) w), entries_again es (suc d) rest p.2 (omega (arith, deep)) ends)

pub value_again : (t : Tree) (rest : List ℕ) → IsProper t.kind → depth t ≤ 64 → may_end rest ≡ true → value t (spelled t ++ rest) rest
value_again t rest p deep ends =
    let e : (mark_signs t.marks ++ spelled_kind t.kind) ++ rest ≡ mark_signs t.marks ++ (spelled_kind t.kind ++ rest) = append_assoc (mark_signs t.marks) (spelled_kind t.kind) rest in
    subst (λ (x : List ℕ). value t x rest) (sym e) (element_again 63 t.kind t.marks (mark_signs t.marks ++ (spelled_kind t.kind ++ rest)) rest (no_space (mark_signs t.marks ++ (spelled_kind t.kind ++ rest))) (kind_again t.kind 63 rest p deep ends))
