-- Paths: cutting at the first two colons, again and again, gives the names.
use Rattle.std.proofs.Common.{◌≡◌, ◌≢◌, ℕ, zero, suc, ◌<◌, ◌≤◌, Bool, true, false, ◌&&◌, eqb, List, [], ◌∷◌, ◌++◌, length, map, take, drop, None, refl, sym, ap, ◌∙◌, arith, append_assoc}
use Rattle.std.specs.Str.Pattern.{FindsText, LacksTextAt, SplitsAroundMatch}
use Rattle.std.proofs.Math.Seq.{drop-nil}
use Rattle.std.proofs.lemmas.Bool.{eqb-true}
use Rattle.std.specs.Str.{trim}
use Rattle.rhd_layers.specs.Paths.{with_byte, path_of}
use Rattle.rhd_layers.specs.Statics.{trimmed, parts_of}
use Rattle.rhd_layers.proofs.Bools.{parts}

abbrev colons : List ℕ
colons = 58 ∷ 58 ∷ []

-- a byte where no two colons stand
apart : (t : Bool) (b c : ℕ) (bytes : List ℕ) → (eqb b 58 && eqb c 58) ≡ t → (b ∷ (c ∷ bytes)) ≢ (58 ∷ (58 ∷ bytes)) → t ≡ false
apart true b c bytes h differs =
    let p = parts (eqb b 58) (eqb c 58) h in
    absurd (differs (ap (λ (x : ℕ). x ∷ (c ∷ bytes)) (eqb-true b 58 p.0) ∙ ap (λ (x : ℕ). 58 ∷ (x ∷ bytes)) (eqb-true c 58 p.1)))
apart false b c bytes h differs = refl

-- the first byte belongs to the first name
goes_on : (b c : ℕ) (bytes : List ℕ) (names : List (List ℕ)) → LacksTextAt colons (b ∷ (c ∷ bytes)) 0 → path_of (c ∷ bytes) ≡ names → path_of (b ∷ (c ∷ bytes)) ≡ with_byte b names
unfolding path_of
goes_on b c bytes names lacks e = rw (apart (eqb b 58 && eqb c 58) b c bytes refl (lacks bytes), e) refl

pub first_name : (s y : List ℕ) (i : ℕ) → ((k : ℕ) → k < i → LacksTextAt colons s k) → drop i s ≡ colons ++ y → path_of s ≡ take i s ∷ path_of y
unfolding path_of
first_name s y zero lacks e = ap path_of e
first_name [] y (suc i) lacks e = absurd cc
first_name (b ∷ []) y (suc i) lacks e = let f : ◌≡◌ {A = List ℕ} [] (58 ∷ (58 ∷ y)) = sym (drop-nil i) ∙ e in absurd cc
first_name (b ∷ (c ∷ bytes)) y (suc i) lacks e = goes_on b c bytes (take i (c ∷ bytes) ∷ path_of y) (lacks 0 (omega arith)) (first_name (c ∷ bytes) y i (λ k less. lacks (suc k) (omega (arith, less))) e)

pub last_name : (s : List ℕ) → ((k : ℕ) → k ≤ length s → LacksTextAt colons s k) → path_of s ≡ s ∷ []
unfolding path_of
last_name [] lacks = refl
last_name (b ∷ []) lacks = refl
last_name (b ∷ (c ∷ bytes)) lacks = goes_on b c bytes ((c ∷ bytes) ∷ []) (lacks 0 (omega arith)) (last_name (c ∷ bytes) (λ k less. lacks (suc k) (omega (arith, less))))

-- where the text is cut
pub cut_there : (s x y : List ℕ) → SplitsAroundMatch (FindsText colons) s x y → (path_of s ≡ x ∷ path_of y) × (length y < length s)
cut_there s x y h = (first_name s y h.0 h.2.0 (h.2.1.split ∙ ap (λ (r : List ℕ). colons ++ r) (sym h.4)) ∙ ap (λ (r : List ℕ). r ∷ path_of y) (sym h.3), omega (arith, h.7, h.2.1.ends))

-- where it is not
pub cut_nowhere : (s : List ℕ) → FindsText colons s None → path_of s ≡ s ∷ []
cut_nowhere s h = last_name s h

-- ---- names that were found, and what is left

pub one_more : (names all : List (List ℕ)) (s x y : List ℕ) → names ++ path_of s ≡ all → SplitsAroundMatch (FindsText colons) s x y → (names ++ x ∷ []) ++ path_of y ≡ all
one_more names all s x y e h = append_assoc names (x ∷ []) (path_of y) ∙ ap (λ (r : List (List ℕ)). names ++ r) (sym (cut_there s x y h).0) ∙ e

pub the_last : (names all : List (List ℕ)) (s : List ℕ) → names ++ path_of s ≡ all → FindsText colons s None → names ++ s ∷ [] ≡ all
the_last names all s e h = ap (λ (r : List (List ℕ)). names ++ r) (sym (cut_nowhere s h)) ∙ e

-- ---- the parts of a name

pub one_part : (s : List ℕ) (ps : List (List ℕ)) → ps ≡ path_of s → length ps ≡ 1 → ps ≡ parts_of s
one_part s (p ∷ []) is one = ap trimmed is
one_part s [] is one = absurd cc
one_part s (p ∷ (q ∷ qs)) is one = absurd cc

pub several_parts : (s : List ℕ) (ps : List (List ℕ)) → ps ≡ path_of s → (length ps ≡ 1 → ⊥) → map trim ps ≡ parts_of s
several_parts s [] is more = ap trimmed is
several_parts s (p ∷ []) is more = absurd (more refl)
several_parts s (p ∷ (q ∷ qs)) is more = ap trimmed is
