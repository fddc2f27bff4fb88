-- Reading one after the other, as a loop does.
use Rattle.std.proofs.Common.{◌≡◌, ℕ, zero, suc, ◌-◌, ◌<◌, Bool, false, List, [], ◌∷◌, ◌++◌, Some, refl, arith}
use Rattle.rhd_value.specs.Tree.{Bytes, Tree}
use Rattle.rhd_syntax.specs.Maps.{put_new}
use Rattle.rhd_syntax.specs.Reading.{Parse, many, comes, wording_at, entries_at}

pub turn : {A : Type 0} (stop : List ℕ → Bool) (one : Parse A) (found : List A) (most : ℕ) (bytes : List ℕ) (x : A) (after : List ℕ) → 0 < most → stop bytes ≡ false → one bytes ≡ Some (x, after) → many stop one found most bytes ≡ many stop one (found ++ x ∷ []) (most - 1) after
unfolding many
turn stop one found zero bytes x after some more h = absurd (omega arith)
turn stop one found (suc n) bytes x after some more h = let k : suc n - 1 ≡ n = omega arith in rw (k, more, h) refl

pub entry_turn : (one : Parse Tree) (es more : List (Bytes × Tree)) (most : ℕ) (bytes name middle after : List ℕ) (t : Tree) → 0 < most → comes 125 bytes ≡ false → wording_at bytes ≡ Some (name, middle) → one middle ≡ Some (t, after) → put_new (name, t) es ≡ Some more → entries_at one es most bytes ≡ entries_at one more (most - 1) after
unfolding entries_at
entry_turn one es more zero bytes name middle after t some open_still n v p = absurd (omega arith)
entry_turn one es more (suc k) bytes name middle after t some open_still n v p = let e : suc k - 1 ≡ k = omega arith in rw (e, open_still, n, v, p) refl
