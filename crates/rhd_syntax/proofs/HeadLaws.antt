-- Words that begin values: what is read is what is written.
use Rattle.std.proofs.Common.{◌≡◌, ℕ, ◌<◌, Bool, true, false, cond, eqb, ltb, ◌||◌, List, [], ◌∷◌, ◌++◌, length, Option, Some, None, refl, sym, ap, subst, ◌∙◌, arith, ℤ, inl, inr}
use Rattle.std.specs.Prelude.{codes}
use Rattle.std.specs.List.{list_all}
use Rattle.std.specs.Char.{is_ascii_digit}
use Rattle.std.specs.Option.{option_map}
use Rattle.std.specs.Str.{bytes_eq}
use Rattle.std.proofs.lemmas.Bool.{ne_eqb}
use Rattle.std.proofs.lemmas.Bool.Decides.{eqb_tells}
use Rattle.std.proofs.lemmas.Slice.Eq.{bytes_eq-Decides}
use Rattle.rhd_value.specs.declared.tag.FnPtrType.{FnPtrType}
use Rattle.rhd_value.specs.declared.tag.FnPtrType.TheVariants as types
use Rattle.rhd_syntax.specs.declared.heads.Head.{Head}
use Rattle.rhd_syntax.specs.declared.heads.Head.TheVariants as heads
use Rattle.rhd_syntax.specs.declared.heads.Sort.{Sort}
use Rattle.rhd_syntax.specs.declared.heads.Sort.TheVariants as sorts
use Rattle.rhd_syntax.specs.Bytes.{is_blank, begins, is_digits, is_signed_digits, fitting_int, num_of, int_of}
use Rattle.rhd_syntax.specs.Spans.{◌▸◌, blanks, bare, run, number, number_run, truth, pointer_word, pointer_number}
use Rattle.rhd_syntax.specs.Reading.{◌>>=◌, Parse, run_at, word_at, num_at, head_of, head_at, integer_at, type_at}
use Rattle.rhd_syntax.proofs.Agrees.{Agrees, bind_some, same_some, some_pair, and_parts}
use Rattle.rhd_syntax.proofs.WordLaws.{Stops, run_agrees, run_stops, bare_agrees, meaning_agrees, head_stop}
use Rattle.rhd_syntax.proofs.ByteLaws.{not_both, spaced}

-- ---- the first byte passes a test

pub record Opens (p : ℕ → Bool) (bytes : List ℕ) : Type 0 where
  pub first : ℕ
  pub more : List ℕ
  pub are : bytes ≡ first ∷ more
  pub may : p first ≡ true

pub opens_by : (p : ℕ → Bool) (b : ℕ) (bytes more : List ℕ) → bytes ≡ b ∷ more → p b ≡ true → Opens p bytes
opens_by p b bytes more e h = record { first = b; more = more; are = e; may = h }

first_other : (p : ℕ → Bool) (bytes : List ℕ) (o : Opens p bytes) (c : ℕ) → p c ≡ false → eqb o.first c ≡ false
first_other p bytes o c no_start = ne_eqb o.first c (λ q. not_both (p o.first) o.may (ap p q ∙ no_start))

pub opens_not : (p : ℕ → Bool) (bytes : List ℕ) → Opens p bytes → (c : ℕ) → p c ≡ false → begins c bytes ≡ false
opens_not p bytes o c no_start = ap (begins c) o.are ∙ first_other p bytes o c no_start

pub opens_dark : (p : ℕ → Bool) (bytes : List ℕ) → Opens p bytes → p 32 ≡ false → p 9 ≡ false → Stops is_blank bytes
opens_dark p bytes o space tab =
    let a = first_other p bytes o 32 space in
    let b = first_other p bytes o 9 tab in
    subst (λ (x : List ℕ). Stops is_blank x) (sym o.are) (head_stop o.first o.more (rw (a, b) refl))

pub opens_some : (p : ℕ → Bool) (bytes : List ℕ) → Opens p bytes → 0 < length bytes
opens_some p bytes o = omega (arith, ap length o.are)

pub opens_more : (p q : ℕ → Bool) (bytes : List ℕ) → ((b : ℕ) → p b ≡ true → q b ≡ true) → Opens p bytes → Opens q bytes
opens_more p q bytes le o = record { first = o.first; more = o.more; are = o.are; may = le o.first o.may }

-- ---- what begins a value, after its marks

unfoldable pub starts : ℕ → Bool
starts b = is_ascii_digit b || eqb b 45 || eqb b 116 || eqb b 102 || eqb b 99 || eqb b 34 || eqb b 39 || eqb b 40 || eqb b 91 || eqb b 123

digit_starts : (b : ℕ) → is_ascii_digit b ≡ true → starts b ≡ true
unfolding starts
digit_starts b h = rw h refl

signed : (b : Bool) (o : Option ℤ) (z : ℤ) → cond b o None ≡ Some z → b ≡ true
signed true o z e = refl
signed false o z e = absurd cc

minus_starts : (b : ℕ) → b ≡ 45 → starts b ≡ true
unfolding starts
minus_starts b e = ap starts e

signed_start : (c : ℕ) (w : List ℕ) → is_signed_digits (c ∷ w) ≡ true → starts c ≡ true
signed_start c w s = elim (eqb_tells c 45) [
  | inl q ↦ minus_starts c q.1
  | inr q ↦
      let d : is_digits (c ∷ w) ≡ true = rw q.0 at s in
      let all = and_parts (ltb 0 (length (c ∷ w))) (list_all is_ascii_digit (c ∷ w)) d in
      let one = and_parts (is_ascii_digit c) (list_all is_ascii_digit w) all.1 in
      digit_starts c one.0
]

pub int_starts : (w : List ℕ) (z : ℤ) → int_of w ≡ Some z → Opens starts w
unfolding int_of
int_starts [] z e = let s : is_signed_digits [] ≡ true = signed (is_signed_digits []) (fitting_int []) z e in absurd cc
int_starts (c ∷ w) z e = opens_by starts c (c ∷ w) w refl (signed_start c w (signed (is_signed_digits (c ∷ w)) (fitting_int (c ∷ w)) z e))

pub run_opens : (p : ℕ → Bool) (w bytes rest : List ℕ) → Opens p w → run w bytes rest → Opens p bytes
run_opens p w bytes rest o r = record { first = o.first; more = o.more ++ rest; are = r.2 ∙ ap (λ (x : List ℕ). x ++ rest) o.are; may = o.may }

-- ---- what a word begins

abbrev pub sort_word : Sort → List ℕ
sort_word sorts.Normal = codes "fn"
sort_word sorts.Script = codes "fn*"
sort_word sorts.Native = codes "fn#"

abbrev pub Begins : Head → List ℕ → Type 0
Begins (heads.Truth b) w = w ≡ truth b
Begins (heads.Int z) w = int_of w ≡ Some z
Begins (heads.Pointer sort) w = w ≡ sort_word sort
Begins heads.Custom w = w ≡ codes "custom"

one_head : (b : Bool) (v w : List ℕ) (g h : Head) (o : Option Head) → bytes_eq w v ≡ b → Begins g v → (o ≡ Some h → Begins h w) → cond b (Some g) o ≡ Some h → Begins h w
one_head true v w g h o t here next e = subst (λ (x : Head). Begins x w) (same_some g h e) (subst (λ (u : List ℕ). Begins g u) (sym ((bytes_eq-Decides w v).0 t)) here)
one_head false v w g h o t here next e = next e

int_head : (o : Option ℤ) (w : List ℕ) (h : Head) → int_of w ≡ o → option_map (λ z. heads.Int z) o ≡ Some h → Begins h w
int_head (Some z) w h t e = subst (λ (x : Head). Begins x w) (same_some (heads.Int z) h e) t
int_head None w h t e = absurd cc

head_sound : (w : List ℕ) (h : Head) → head_of w ≡ Some h → Begins h w
unfolding head_of
head_sound w h e =
    one_head (bytes_eq w (codes "true")) (codes "true") w (heads.Truth true) h _ refl refl (λ e.
    one_head (bytes_eq w (codes "false")) (codes "false") w (heads.Truth false) h _ refl refl (λ e.
    one_head (bytes_eq w (codes "fn")) (codes "fn") w (heads.Pointer sorts.Normal) h _ refl refl (λ e.
    one_head (bytes_eq w (codes "fn*")) (codes "fn*") w (heads.Pointer sorts.Script) h _ refl refl (λ e.
    one_head (bytes_eq w (codes "fn#")) (codes "fn#") w (heads.Pointer sorts.Native) h _ refl refl (λ e.
    one_head (bytes_eq w (codes "custom")) (codes "custom") w heads.Custom h _ refl refl (λ e. int_head (int_of w) w h refl e) e) e) e) e) e) e

no_int : (b : Bool) (v w : List ℕ) (z : ℤ) → int_of v ≡ None → int_of w ≡ Some z → bytes_eq w v ≡ b → b ≡ false
no_int true v w z none some t = let e : None ≡ Some z = sym none ∙ sym (ap int_of ((bytes_eq-Decides w v).0 t)) ∙ some in absurd cc
no_int false v w z none some t = refl

other_word : (v w : List ℕ) (z : ℤ) → int_of v ≡ None → int_of w ≡ Some z → bytes_eq w v ≡ false
other_word v w z none some = no_int (bytes_eq w v) v w z none some refl

words_no_int : (int_of (codes "true") ≡ None) × (int_of (codes "false") ≡ None) × (int_of (codes "fn") ≡ None) × (int_of (codes "fn*") ≡ None) × (int_of (codes "fn#") ≡ None) × (int_of (codes "custom") ≡ None)
unfolding int_of
words_no_int = (refl, refl, refl, refl, refl, refl)

known : (h : Head) (w : List ℕ) → Begins h w → head_of w ≡ Some h
unfolding head_of
known (heads.Truth true) w e = ap head_of e
known (heads.Truth false) w e = ap head_of e
known (heads.Pointer sorts.Normal) w e = ap head_of e
known (heads.Pointer sorts.Script) w e = ap head_of e
known (heads.Pointer sorts.Native) w e = ap head_of e
known heads.Custom w e = ap head_of e
known (heads.Int z) w e =
    let n = words_no_int in
    rw (other_word (codes "true") w z n.0 e, other_word (codes "false") w z n.1 e, other_word (codes "fn") w z n.2 e, other_word (codes "fn*") w z n.3 e, other_word (codes "fn#") w z n.4 e, other_word (codes "custom") w z n.5 e, e) refl

pub head_agrees : Agrees Head head_at (λ h bytes rest. (w : List ℕ) × Begins h w × run w bytes rest)
unfolding head_at
head_agrees = record {
  sound = λ h bytes rest e.
      let m = (meaning_agrees Head head_of run_at run run_agrees).sound h bytes rest e in
      (m.0, head_sound m.0 h m.1, m.2);
  complete = λ h bytes rest m. (meaning_agrees Head head_of run_at run run_agrees).complete h bytes rest (m.0, known h m.0 m.1, m.2);
}

pub head_begins : (h : Head) (w : List ℕ) → Begins h w → Opens starts w
unfolding starts
head_begins (heads.Truth true) w e = opens_by starts 116 w (codes "rue") e refl
head_begins (heads.Truth false) w e = opens_by starts 102 w (codes "alse") e refl
head_begins (heads.Pointer sorts.Normal) w e = opens_by starts 102 w (codes "n") e refl
head_begins (heads.Pointer sorts.Script) w e = opens_by starts 102 w (codes "n*") e refl
head_begins (heads.Pointer sorts.Native) w e = opens_by starts 102 w (codes "n#") e refl
head_begins heads.Custom w e = opens_by starts 99 w (codes "ustom") e refl
head_begins (heads.Int z) w e = int_starts w z e

-- ---- numbers

pub num_agrees : (bits : ℕ) → Agrees ℕ (num_at bits) (number bits)
unfolding num_at
num_agrees bits = meaning_agrees ℕ (num_of bits) word_at bare bare_agrees

abbrev run_integer : Parse ℤ
run_integer bytes = run_at bytes >>= λ w. int_of w.0 >>= λ z. Some (z, w.1)

pub integer_agrees : Agrees ℤ integer_at (λ z. blanks ▸ number_run z)
unfolding integer_at word_at
integer_agrees = spaced ℤ run_integer number_run (meaning_agrees ℤ int_of run_at run run_agrees) (λ z bytes rest w. run_stops w.0 bytes rest w.2)

-- ---- types of pointers

abbrev pub sort_of : FnPtrType → Sort
sort_of types.Normal = sorts.Normal
sort_of (types.Script n) = sorts.Script
sort_of (types.Native id) = sorts.Native

pub type_sound : (sort : Sort) (p : FnPtrType) (bytes rest : List ℕ) → type_at sort bytes ≡ Some (p, rest) → (sort ≡ sort_of p) × pointer_number p bytes rest
unfolding type_at
type_sound sorts.Normal p bytes rest e =
    let q = some_pair types.Normal p bytes rest e in
    subst (λ (t : FnPtrType). (sorts.Normal ≡ sort_of t) × pointer_number t bytes rest) q.0 (refl, q.1)
type_sound sorts.Script p bytes rest e =
    let a = bind_some (num_at 64 bytes) (λ x. Some (types.Script x.0, x.1)) (p, rest) e in
    let q = some_pair (types.Script a.0.0) p a.0.1 rest a.2 in
    subst (λ (t : FnPtrType). (sorts.Script ≡ sort_of t) × pointer_number t bytes rest) q.0 (refl, subst (λ (r : List ℕ). number 64 a.0.0 bytes r) q.1 ((num_agrees 64).sound a.0.0 bytes a.0.1 a.1))
type_sound sorts.Native p bytes rest e =
    let a = bind_some (num_at 32 bytes) (λ x. Some (types.Native (record { 0 = x.0 }), x.1)) (p, rest) e in
    let q = some_pair (types.Native (record { 0 = a.0.0 })) p a.0.1 rest a.2 in
    subst (λ (t : FnPtrType). (sorts.Native ≡ sort_of t) × pointer_number t bytes rest) q.0 (refl, subst (λ (r : List ℕ). number 32 a.0.0 bytes r) q.1 ((num_agrees 32).sound a.0.0 bytes a.0.1 a.1))

pub type_complete : (p : FnPtrType) (bytes rest : List ℕ) → pointer_number p bytes rest → type_at (sort_of p) bytes ≡ Some (p, rest)
unfolding type_at
type_complete types.Normal bytes rest e = ap (λ (r : List ℕ). Some (types.Normal, r)) e
type_complete (types.Script n) bytes rest w = rw ((num_agrees 64).complete n bytes rest w) refl
type_complete (types.Native id) bytes rest w = rw ((num_agrees 32).complete id.0 bytes rest w) refl

pub sorts_word : (p : FnPtrType) → sort_word (sort_of p) ≡ pointer_word p
sorts_word types.Normal = refl
sorts_word (types.Script n) = refl
sorts_word (types.Native id) = refl
