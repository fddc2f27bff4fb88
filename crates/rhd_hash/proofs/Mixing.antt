-- What a mixer is after bytes that it takes in pieces.
use Rattle.std.proofs.Common.{◌≡◌, [], ◌∷◌, ◌++◌, ◌+◌, ◌<◌, ◌≤◌, ◌*◌, ◌/◌, ◌%◌, ◌^◌, ℕ, List, arith, refl, sym, ap, ◌∙◌, length, take, get_or}
use Rattle.std.proofs.lemmas.Grind.{flat_map-append}
use Rattle.std.specs.List.{flat_map}
use Rattle.std.proofs.lemmas.List.{append-nil, take_more}
use Rattle.std.proofs.lemmas.List.Sums.{fold-append}
use Rattle.rhd_hash.specs.declared.mixer.Seeds.{Seeds}
use Rattle.rhd_hash.specs.declared.mixer.Mixer.{Mixer}
use Rattle.std.specs.Int.Bits.{xor_zero_r}
use Rattle.std.proofs.Math.Nat.{mul_assoc, div-eq_of_lt, mod-eq_of_lt}
use Rattle.std.proofs.lemmas.Nat.{mul-mod_first, mul-mod_second}
use Rattle.rhd_hash.specs.Mix.{fresh, after, answer, mix, mix_all, mix_step, seven_zeros}
use Rattle.rhd_hash.specs.Parts.{count_bytes}

-- bytes may be given in pieces
pub after_append : (m : Mixer) (xs ys : List ℕ) → after (after m xs) ys ≡ after m (xs ++ ys)
unfolding after mix_all
after_append m xs ys = ap (λ h. record { seeds = m.seeds; state = h }) (sym (fold-append mix_step m.state xs ys))

-- a mixer that took these bytes alone answers their hash
pub answer_fresh : (seeds : Seeds) (bytes : List ℕ) → answer (after (fresh seeds) bytes) ≡ mix seeds bytes
unfolding answer after fresh mix
answer_fresh seeds bytes = refl

-- no byte changes nothing
pub after_nil : (m : Mixer) → after m [] ≡ m
unfolding after mix_all
after_nil m = refl

-- the pieces of a list, up to an item and with that item
pub flat_map_more : {X : Type 0} (f : X → List ℕ) (xs : List X) (i : ℕ) (d : X) → i < length xs → flat_map f (take (i + 1) xs) ≡ flat_map f (take i xs) ++ f (get_or xs i d)
flat_map_more f xs i d h =
    ap (flat_map f) (take_more xs i d h) ∙ flat_map-append f (take i xs) (get_or xs i d ∷ []) ∙ ap (λ t. flat_map f (take i xs) ++ t) (append-nil (f (get_or xs i d)))

-- one piece more, after the pieces so far
pub after_each : {X : Type 0} (f : X → List ℕ) (xs : List X) (i : ℕ) (d : X) → i < length xs → (m start : Mixer) → m ≡ after start (flat_map f (take i xs))
    → after m (f (get_or xs i d)) ≡ after start (flat_map f (take (i + 1) xs))
after_each f xs i d h m start e =
    ap (λ n. after n (f (get_or xs i d))) e ∙ after_append start (flat_map f (take i xs)) (f (get_or xs i d)) ∙ ap (after start) (sym (flat_map_more f xs i d h))

-- one byte of zero more, where those before multiplied by c: d is what they then multiply by
zero_more : (h c d x : ℕ) → (c * 0x100000001b3) % 2 ^ 64 ≡ d → x ≡ (h * c) % 2 ^ 64 → mix_step x 0 ≡ (h * d) % 2 ^ 64
unfolding mix_step
zero_more h c d x e is =
    ap (λ (y : ℕ). (y * 0x100000001b3) % 2 ^ 64) (xor_zero_r x ∙ is)
    ∙ mul-mod_first (h * c) 0x100000001b3 (2 ^ 64)
    ∙ ap (λ (y : ℕ). y % 2 ^ 64) (mul_assoc h c 0x100000001b3)
    ∙ sym (mul-mod_second h (c * 0x100000001b3) (2 ^ 64))
    ∙ ap (λ (y : ℕ). (h * y) % 2 ^ 64) e

-- the first byte of zero
zero_first : (h : ℕ) → mix_step h 0 ≡ (h * 0x100000001b3) % 2 ^ 64
unfolding mix_step
zero_first h = ap (λ (y : ℕ). (y * 0x100000001b3) % 2 ^ 64) (xor_zero_r h)

-- seven bytes of zero multiply by the prime of one, seven times
pub after_zeros : (m : Mixer) → after m seven_zeros ≡ record { seeds = m.seeds; state = (m.state * 0xc5527b8a51d3d2db) % 2 ^ 64 }
unfolding after mix_all
after_zeros m =
    let h = m.state in
    let two = zero_more h 0x100000001b3 0x366000002e329 _ refl (zero_first h) in
    let three = zero_more h 0x366000002e329 0x8a97b0004e7feab _ refl two in
    let four = zero_more h 0x8a97b0004e7feab 0x9ffaac085635bc91 _ refl three in
    let five = zero_more h 0x9ffaac085635bc91 0xcaee32a7d4f6a63 _ refl four in
    let six = zero_more h 0xcaee32a7d4f6a63 0xdc966432edf1c639 _ refl five in
    let seven = zero_more h 0xdc966432edf1c639 0xc5527b8a51d3d2db _ refl six in
    ap (λ x. record { seeds = m.seeds; state = x }) seven

-- a byte of a small number behind the first is zero
byte_behind : (n d : ℕ) → n < 256 → 256 ≤ d → n / d % 256 ≡ 0
byte_behind n d h more = ap (λ (q : ℕ). q % 256) (div-eq_of_lt (omega (arith, h, more)))

-- a small count is its first byte, and zeros behind it
pub small_count : (n : ℕ) → n < 256 → count_bytes n ≡ n ∷ seven_zeros
unfolding count_bytes
small_count n h =
    let first : n % 256 ≡ n = mod-eq_of_lt h in
    λ k. first k ∷ byte_behind n (256 ^ 1) h (omega arith) k ∷ byte_behind n (256 ^ 2) h (omega arith) k ∷ byte_behind n (256 ^ 3) h (omega arith) k ∷ byte_behind n (256 ^ 4) h (omega arith) k
    ∷ byte_behind n (256 ^ 5) h (omega arith) k ∷ byte_behind n (256 ^ 6) h (omega arith) k ∷ byte_behind n (256 ^ 7) h (omega arith) k ∷ []
