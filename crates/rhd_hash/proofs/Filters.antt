-- The slots of a filter, and the bits of its bytes.
use Rattle.std.proofs.Common.{◌≡◌, ◌≢◌, ◌<◌, ◌≤◌, ℕ, zero, suc, max, ◌+◌, ◌*◌, ◌/◌, ◌%◌, ◌^◌, Bool, true, false, not, ◌||◌, ◌==◌, nat_eq, List, length, get_or, set}
use Rattle.std.proofs.Common.{replicate, bit_or, bit_and, refl, sym, ap, ◌∙◌, arith, inl, inr, w8, eq-eqb, get_or-set_same, get_or-set_other}
use Rattle.std.specs.Int.{bit_at}
use Rattle.std.proofs.lemmas.Bool.Decides.{eqb_tells, leb_tells}
use Rattle.std.proofs.lemmas.Nat.{mod-mul-add}
use Rattle.std.proofs.lemmas.Nat.Bits.{bit_at_or, bit_at-zero, bit_at-lt, shr_and_one, bit_at_set_same, bit_at_set_other}
use Rattle.std.proofs.Math.Nat.{div-add-mod}
use Rattle.std.proofs.lemmas.List.{get_or_past}
use Rattle.rhd_hash.specs.Filter.{slot, is_marked}

-- a value's slot, from the byte and the bit
pub slot-split : (size v : ℕ) → 0 < size → slot size v ≡ 8 * ((v / 8) % size) + v % 8
slot-split size v some =
    let m = v / 8 / size in
    let r = 8 * ((v / 8) % size) + v % 8 in
    let e0 : 8 * (v / 8) + v % 8 ≡ v = div-add-mod v 8 in
    let e1 : size * m + (v / 8) % size ≡ v / 8 = div-add-mod (v / 8) size in
    let b : (v / 8) % size < size = omega arith in
    let e : v ≡ m * (8 * size) + r = omega arith in
    let lt : r < 8 * size = omega arith in
    ap (λ x. x % (8 * size)) e ∙ mod-mul-add m (8 * size) r lt

-- the slots of two values are one exactly where the bytes and the bits are
pub slot-same : (size v w : ℕ) → 0 < size → (v / 8) % size ≡ (w / 8) % size → v % 8 ≡ w % 8 → slot size v ≡ slot size w
slot-same size v w some p q = slot-split size v some ∙ (λ i. 8 * p i + q i) ∙ sym (slot-split size w some)

pub slot-other : (size v w : ℕ) → 0 < size → slot size v ≡ slot size w → ((v / 8) % size ≡ (w / 8) % size) × (v % 8 ≡ w % 8)
slot-other size v w some e =
    let h : 8 * ((v / 8) % size) + v % 8 ≡ 8 * ((w / 8) % size) + w % 8 = sym (slot-split size v some) ∙ e ∙ slot-split size w some in
    (omega arith, omega arith)

pub bit-test : (b : ℕ) → b < 2 → nat_eq b 0 ≡ not (b == 1)
bit-test b h = elim (eqb_tells b 1) [ inl p ↦ (let e : b ≡ 1 = p.1 in ap (λ x. nat_eq x 0) e ∙ sym (ap not p.0)) | inr p ↦ (let e : b ≡ 0 = omega (arith, p.1) in ap (λ x. nat_eq x 0) e ∙ sym (ap not p.0)) ]

pub absent-bit : (x k : ℕ) → nat_eq (bit_and (x / 2 ^ k) 1) 0 ≡ not (bit_at x k == 1)
absent-bit x k = ap (λ b. nat_eq b 0) (shr_and_one x k) ∙ bit-test (bit_at x k) (bit_at-lt x k)

pub or-true : (b : Bool) → (b || true) ≡ true
or-true true = refl
or-true false = refl

pub or-false : (b : Bool) → (b || false) ≡ b
or-false true = refl
or-false false = refl

pub eqb-no : (a b : ℕ) → a ≢ b → (a == b) ≡ false
eqb-no a b h = elim (eqb_tells a b) [ inl p ↦ absurd (h p.1) | inr p ↦ p.0 ]

pub unmarked : (size n v : ℕ) → is_marked size (replicate n 0) v ≡ false
unfolding is_marked
unmarked size n v = ap (λ b. bit_at b (v % 8) == 1) (zeros n ((v / 8) % size)) ∙ ap (λ b. b == 1) (bit_at-zero (v % 8))
  where
    zeros : (n i : ℕ) → ◌≡◌ {A = ℕ} (get_or (replicate n 0) i 0) 0
    zeros zero i = refl
    zeros (suc n) zero = refl
    zeros (suc n) (suc i) = zeros n i

pub marked : (size : ℕ) (bytes : List ℕ) (value v : ℕ) → 0 < size → length bytes ≡ size
    → is_marked size (set bytes ((value / 8) % size) (bit_or (get_or bytes ((value / 8) % size) 0) (1 * 2 ^ (value % 8) % 256))) v ≡ (is_marked size bytes v || (slot size v == slot size value))
unfolding is_marked
marked size bytes value v some len =
    let p = (value / 8) % size in
    let q = (v / 8) % size in
    let k = value % 8 in
    let j = v % 8 in
    let x = get_or bytes p 0 in
    let y = bit_or x (1 * 2 ^ k % 256) in
    let within : p < length bytes = omega arith in
    let small : k < 8 = omega arith in
    elim (eqb_tells q p) [
      | inl a ↦ (elim (eqb_tells j k) [
        | inl b ↦ (let e : slot size v ≡ slot size value = slot-same size v value some a.1 b.1 in
            ap (λ t. bit_at t j == 1) (ap (λ i. get_or (set bytes p y) i 0) a.1 ∙ get_or-set_same bytes p y 0 within)
            ∙ ap (λ t. bit_at y t == 1) b.1 ∙ ap (λ t. t == 1) (bit_at_set_same w8 x k small)
            ∙ sym (ap (λ t. (bit_at (get_or bytes q 0) j == 1) || t) (eq-eqb _ _ e) ∙ or-true _))
        | inr b ↦ (let ne : slot size v ≢ slot size value = λ e. b.1 ((slot-other size v value some e).1) in
            ap (λ t. bit_at t j == 1) (ap (λ i. get_or (set bytes p y) i 0) a.1 ∙ get_or-set_same bytes p y 0 within)
            ∙ ap (λ t. t == 1) (bit_at_set_other w8 x k small j b.1)
            ∙ ap (λ i. bit_at (get_or bytes i 0) j == 1) (sym a.1)
            ∙ sym (ap (λ t. (bit_at (get_or bytes q 0) j == 1) || t) (eqb-no _ _ ne) ∙ or-false _))
      ])
      | inr a ↦ (let ne : slot size v ≢ slot size value = λ e. a.1 ((slot-other size v value some e).0) in
          ap (λ t. bit_at t j == 1) (get_or-set_other bytes p q y 0 a.1)
          ∙ sym (ap (λ t. (bit_at (get_or bytes q 0) j == 1) || t) (eqb-no _ _ ne) ∙ or-false _))
    ]

-- a bit of two numbers joined
pub bit-or : (a b j : ℕ) → (bit_at (bit_or a b) j == 1) ≡ ((bit_at a j == 1) || (bit_at b j == 1))
bit-or a b j = ap (λ t. t == 1) (bit_at_or a b j) ∙ joined (bit_at a j) (bit_at b j) (bit_at-lt a j) (bit_at-lt b j)
  where
    joined : (m n : ℕ) → m < 2 → n < 2 → (max m n == 1) ≡ ((m == 1) || (n == 1))
    joined zero zero p q = refl
    joined zero (suc zero) p q = refl
    joined (suc zero) zero p q = refl
    joined (suc zero) (suc zero) p q = refl
    joined (suc (suc m)) n p q = absurd (omega arith)
    joined zero (suc (suc n)) p q = absurd (omega arith)
    joined (suc zero) (suc (suc n)) p q = absurd (omega arith)

-- what holds of each byte below the size holds of what is read past it too
joined-past : (size : ℕ) (xs ys zs : List ℕ) → length xs ≡ size → length ys ≡ size → length zs ≡ size → (k : ℕ) → size ≤ k → get_or zs k 0 ≡ bit_or (get_or xs k 0) (get_or ys k 0)
joined-past size xs ys zs p q r k past =
    let x : get_or xs k 0 ≡ 0 = get_or_past xs k 0 (omega (arith, p, past)) in
    let y : get_or ys k 0 ≡ 0 = get_or_past ys k 0 (omega (arith, q, past)) in
    let z : get_or zs k 0 ≡ 0 = get_or_past zs k 0 (omega (arith, r, past)) in
    z ∙ sym (λ j. bit_or (x j) (y j))

pub joined-bytes : (size : ℕ) (xs ys zs : List ℕ) (v : ℕ) → length xs ≡ size → length ys ≡ size → length zs ≡ size
    → ((k : ℕ) → k < size → get_or zs k 0 ≡ bit_or (get_or xs k 0) (get_or ys k 0)) → is_marked size zs v ≡ (is_marked size xs v || is_marked size ys v)
unfolding is_marked
joined-bytes size xs ys zs v p q r each =
    let k = (v / 8) % size in
    let whole : get_or zs k 0 ≡ bit_or (get_or xs k 0) (get_or ys k 0) = elim (leb_tells (suc k) size) [
      | inl below ↦ each k below.1
      | inr past ↦ joined-past size xs ys zs p q r k (omega (arith, past.1))
    ] in
    ap (λ b. bit_at b (v % 8) == 1) whole ∙ bit-or _ _ (v % 8)

module _ (xs ys zs : List ℕ) (i : ℕ) (within : i < length zs) where
  pub joined-done : ((k : ℕ) → k < i → get_or zs k 0 ≡ bit_or (get_or xs k 0) (get_or ys k 0)) → ((k : ℕ) → i ≤ k → get_or zs k 0 ≡ get_or xs k 0)
      → (k : ℕ) → k < i + 1 → get_or (set zs i (bit_or (get_or zs i 0) (get_or ys i 0))) k 0 ≡ bit_or (get_or xs k 0) (get_or ys k 0)
  joined-done done left k h = elim (eqb_tells k i) [
    | inl e ↦ (ap (λ j. get_or (set zs i (bit_or (get_or zs i 0) (get_or ys i 0))) j 0) e.1 ∙ get_or-set_same zs i _ 0 within
        ∙ ap (λ t. bit_or t (get_or ys i 0)) (left i (omega arith)) ∙ sym (ap (λ j. bit_or (get_or xs j 0) (get_or ys j 0)) e.1))
    | inr n ↦ (get_or-set_other zs i k _ 0 n.1 ∙ done k (omega (arith, n.1)))
  ]

  pub joined-left : ((k : ℕ) → i ≤ k → get_or zs k 0 ≡ get_or xs k 0) → (k : ℕ) → i + 1 ≤ k → get_or (set zs i (bit_or (get_or zs i 0) (get_or ys i 0))) k 0 ≡ get_or xs k 0
  joined-left left k h = get_or-set_other zs i k _ 0 (λ e. omega (arith, e)) ∙ left k (omega arith)

-- a byte without bits is 0
pub no_bits : (x : ℕ) → x < 256 → ((i : ℕ) → i < 8 → bit_at x i ≡ 0) → x ≡ 0
no_bits x small none =
    let h0 : x / 1 % 2 ≡ 0 = none 0 (omega arith) in
    let h1 : x / 2 % 2 ≡ 0 = none 1 (omega arith) in
    let h2 : x / 4 % 2 ≡ 0 = none 2 (omega arith) in
    let h3 : x / 8 % 2 ≡ 0 = none 3 (omega arith) in
    let h4 : x / 16 % 2 ≡ 0 = none 4 (omega arith) in
    let h5 : x / 32 % 2 ≡ 0 = none 5 (omega arith) in
    let h6 : x / 64 % 2 ≡ 0 = none 6 (omega arith) in
    let h7 : x / 128 % 2 ≡ 0 = none 7 (omega arith) in
    omega (arith, h0, h1, h2, h3, h4, h5, h6, h7)

-- where no byte has a bit, nothing is marked
pub none_marked : (size : ℕ) (bytes : List ℕ) → length bytes ≡ size → ((k : ℕ) → k < size → (i : ℕ) → i < 8 → bit_at (get_or bytes k 0) i ≡ 0) → (v : ℕ) → is_marked size bytes v ≡ false
unfolding is_marked
none_marked size bytes len none v =
    let k = (v / 8) % size in
    let whole : bit_at (get_or bytes k 0) (v % 8) ≡ 0 = elim (leb_tells (suc k) size) [
      | inl below ↦ none k below.1 (v % 8) (omega arith)
      | inr past ↦ ap (λ b. bit_at b (v % 8)) (get_or_past bytes k 0 (omega (arith, len, past.1))) ∙ bit_at-zero (v % 8)
    ] in
    ap (λ b. b == 1) whole

bit-zero : (b : ℕ) → b < 2 → (b == 1) ≡ false → b ≡ 0
bit-zero zero h e = refl
bit-zero (suc zero) h e = absurd cc
bit-zero (suc (suc b)) h e = absurd (omega arith)

-- where nothing is marked, no byte has a bit
pub none_set : (size : ℕ) (bytes : List ℕ) → ((v : ℕ) → is_marked size bytes v ≡ false) → (k : ℕ) → k < size → (i : ℕ) → i < 8 → bit_at (get_or bytes k 0) i ≡ 0
unfolding is_marked
none_set size bytes none k within i small =
    let v = 8 * k + i in
    let e8 : v / 8 ≡ k = omega arith in
    let whole : k ≡ 0 * size + k = omega arith in
    let ek : (v / 8) % size ≡ k = ap (λ n. n % size) (e8 ∙ whole) ∙ mod-mul-add 0 size k within in
    let ei : v % 8 ≡ i = omega arith in
    bit-zero (bit_at (get_or bytes k 0) i) (bit_at-lt _ _) (sym (λ j. bit_at (get_or bytes (ek j) 0) (ei j) == 1) ∙ none v)
