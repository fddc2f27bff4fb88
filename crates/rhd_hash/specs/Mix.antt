-- The mixer: a hash of a row of bytes, with two seeds and a mask.
use Rattle.std.specs.Prelude.{ℕ, ◌*◌, ◌%◌, ◌/◌, ◌^◌, List, [], ◌∷◌, fold, bit_xor, bit_and}
use Rattle.rhd_hash.specs.declared.mixer.Seeds.{Seeds}
use Rattle.rhd_hash.specs.declared.mixer.Mixer.{Mixer}

-- before the first byte
unfoldable pub mix_start : Seeds → ℕ
mix_start seeds = bit_xor 0xcbf29ce484222325 seeds.seed0

-- after one byte more
unfoldable pub mix_step : ℕ → ℕ → ℕ
mix_step h byte = (bit_xor h byte * 0x100000001b3) % 2 ^ 64

-- after a row of bytes more
unfoldable pub mix_all : ℕ → List ℕ → ℕ
mix_all h bytes = fold mix_step h bytes

-- what is answered after the last byte
unfoldable pub mix_end : Seeds → ℕ → ℕ
mix_end seeds h = bit_and (bit_xor (bit_xor h (h / 2 ^ 32)) seeds.seed1) seeds.mask

-- the hash of a row of bytes
unfoldable pub mix : Seeds → List ℕ → ℕ
mix seeds bytes = mix_end seeds (mix_all (mix_start seeds) bytes)

-- the bytes of a small count behind the first
abbrev pub seven_zeros : List ℕ
seven_zeros = 0 ∷ 0 ∷ 0 ∷ 0 ∷ 0 ∷ 0 ∷ 0 ∷ []

-- a mixer that took no byte yet
unfoldable pub fresh : Seeds → Mixer
fresh seeds = record { seeds = seeds; state = mix_start seeds }

-- a mixer that took these bytes more
unfoldable pub after : Mixer → List ℕ → Mixer
after m bytes = record { seeds = m.seeds; state = mix_all m.state bytes }

-- what a mixer answers
unfoldable pub answer : Mixer → ℕ
answer m = mix_end m.seeds m.state
