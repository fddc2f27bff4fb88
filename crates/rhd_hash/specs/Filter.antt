-- What a filter holds: a bit for each slot.
use Rattle.std.specs.Prelude.{◌≡◌, ℕ, ◌*◌, ◌/◌, ◌%◌, Bool, ◌==◌, ◌||◌, List, slice_index}
use Rattle.std.specs.Int.{bit_at}

-- the slot of a number in a filter of `size` bytes
abbrev pub slot : ℕ → ℕ → ℕ
slot size v = v % (8 * size)

-- whether the bit of the number is set: the bit v % 8 of the byte (v / 8) % size
unfoldable pub is_marked : ℕ → List ℕ → ℕ → Bool
is_marked size filter v = bit_at (slice_index filter ((v / 8) % size)) (v % 8) == 1

-- all numbers with the slot of this one are marked, and the others as before
abbrev pub Marks : ℕ → ℕ → List ℕ → List ℕ → Type 0
Marks size value old new = (v : ℕ) → is_marked size new v ≡ (is_marked size old v || (slot size v == slot size value))

-- marked in a sum is what is marked on either side
abbrev pub Joins : ℕ → List ℕ → List ℕ → List ℕ → Type 0
Joins size a b sum = (v : ℕ) → is_marked size sum v ≡ (is_marked size a v || is_marked size b v)
