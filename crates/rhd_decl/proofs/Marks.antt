-- One flag set or taken away.
use Rattle.std.proofs.Common.{◌≡◌, ℕ, Bool, true, false, cond, ◌==◌, refl, ◌∙◌, ap, arith}
use Rattle.std.specs.Int.RustNames.{bit_and, bit_or}
use Rattle.std.proofs.lemmas.Nat.{and_assoc, and_le_r, and_or_self, and_or_apart}
use Rattle.rhd_decl.specs.Flags.{flags_of}

gone : (x m n : ℕ) → bit_and m n ≡ 0 → bit_and (bit_and x m) n ≡ 0
gone x m n e = let z = and_le_r x 0 in let y : bit_and x 0 ≡ 0 = omega arith in and_assoc n x m ∙ ap (bit_and x) e ∙ y

kept : (x m n : ℕ) → bit_and m n ≡ n → bit_and (bit_and x m) n ≡ bit_and x n
kept x m n e = and_assoc n x m ∙ ap (bit_and x) e

pub flags_internal : (v : Bool) (x : ℕ) → flags_of (cond v (bit_or x 1) (bit_and x 254)) ≡ record { internal = v; standard = bit_and x 2 == 2; indexed = bit_and x 4 == 4 }
flags_internal true x = (λ i. record { internal = and_or_self 1 x i == 1; standard = and_or_apart 2 x 1 refl i == 2; indexed = and_or_apart 4 x 1 refl i == 4 })
flags_internal false x = (λ i. record { internal = gone x 254 1 refl i == 1; standard = kept x 254 2 refl i == 2; indexed = kept x 254 4 refl i == 4 })

pub flags_indexed : (v : Bool) (x : ℕ) → flags_of (cond v (bit_or x 4) (bit_and x 251)) ≡ record { internal = bit_and x 1 == 1; standard = bit_and x 2 == 2; indexed = v }
flags_indexed true x = (λ i. record { internal = and_or_apart 1 x 4 refl i == 1; standard = and_or_apart 2 x 4 refl i == 2; indexed = and_or_self 4 x i == 4 })
flags_indexed false x = (λ i. record { internal = kept x 251 1 refl i == 1; standard = kept x 251 2 refl i == 2; indexed = gone x 251 4 refl i == 4 })

pub flags_standard : (v : Bool) (x : ℕ) → flags_of (cond v (bit_or x 2) (bit_and x 253)) ≡ record { internal = bit_and x 1 == 1; standard = v; indexed = bit_and x 4 == 4 }
flags_standard true x = (λ i. record { internal = and_or_apart 1 x 2 refl i == 1; standard = and_or_self 2 x i == 2; indexed = and_or_apart 4 x 2 refl i == 4 })
flags_standard false x = (λ i. record { internal = kept x 253 1 refl i == 1; standard = gone x 253 2 refl i == 2; indexed = kept x 253 4 refl i == 4 })
