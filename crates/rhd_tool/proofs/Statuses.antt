-- Which statuses are left.
use Rattle.std.proofs.Common.{◌≡◌, ◌≢◌, ◌⊎◌, ℕ, inl, inr}

pub zero_or_five : (s : ℕ) (R : Type 0) → (s ≡ 0) ⊎ (s ≡ 2) ⊎ (s ≡ 4) ⊎ (s ≡ 5) → s ≢ 2 → (s ≡ 4 → R) → ¬ R → (s ≡ 0) ⊎ (s ≡ 5)
zero_or_five s R (inl z) two four no_rise = inl z
zero_or_five s R (inr (inl e)) two four no_rise = absurd (two e)
zero_or_five s R (inr (inr (inl e))) two four no_rise = absurd (no_rise (four e))
zero_or_five s R (inr (inr (inr e))) two four no_rise = inr e
