-- A path prints as it is written.
use Rattle.std.proofs.Common.{◌≡◌, ℕ, Bool, true, false, cond, ◌&&◌, eqb, List, [], ◌∷◌, ◌++◌, refl, sym, ap, ◌∙◌}
use Rattle.std.specs.List.{flat_map}
use Rattle.std.proofs.lemmas.Bool.{eqb-true}
use Rattle.rhd_layers.specs.Paths.{with_byte, path_of}
use Rattle.rhd_syntax.proofs.Agrees.{and_parts}
use Rattle.rhd_print.specs.PrintedKeys.{path_name}

abbrev colons : List ℕ
colons = 58 ∷ 58 ∷ []

-- some name, and others
abbrev Names : List (List ℕ) → Type 0
Names [] = ⊥
Names (name ∷ names) = Unit {0}

with_byte-names : (b : ℕ) (names : List (List ℕ)) → Names (with_byte b names)
with_byte-names b [] = tt
with_byte-names b (name ∷ names) = tt

cut_names : (t : Bool) (b : ℕ) (names others : List (List ℕ)) → Names (cond t ([] ∷ names) (with_byte b others))
cut_names true b names others = tt
cut_names false b names others = with_byte-names b others

some_names : (s : List ℕ) → Names (path_of s)
unfolding path_of
some_names [] = tt
some_names (b ∷ []) = tt
some_names (b ∷ (c ∷ bytes)) = cut_names (eqb b 58 && eqb c 58) b (path_of bytes) (path_of (c ∷ bytes))

with_byte-prints : (b : ℕ) (names : List (List ℕ)) → Names names → flat_map path_name (with_byte b names) ≡ b ∷ flat_map path_name names
with_byte-prints b [] some = absurd some
with_byte-prints b (name ∷ names) some = refl

cut_prints : (t : Bool) (b c : ℕ) (bytes : List ℕ) → (eqb b 58 && eqb c 58) ≡ t → flat_map path_name (path_of bytes) ≡ bytes ++ colons → flat_map path_name (path_of (c ∷ bytes)) ≡ (c ∷ bytes) ++ colons → flat_map path_name (cond t ([] ∷ path_of bytes) (with_byte b (path_of (c ∷ bytes)))) ≡ (b ∷ (c ∷ bytes)) ++ colons
cut_prints true b c bytes h one two =
    let p = and_parts (eqb b 58) (eqb c 58) h in
    ap (λ (s : List ℕ). 58 ∷ (58 ∷ s)) one ∙ sym (ap (λ (x : ℕ). x ∷ (c ∷ (bytes ++ colons))) (eqb-true b 58 p.0) ∙ ap (λ (x : ℕ). 58 ∷ (x ∷ (bytes ++ colons))) (eqb-true c 58 p.1))
cut_prints false b c bytes h one two = with_byte-prints b (path_of (c ∷ bytes)) (some_names (c ∷ bytes)) ∙ ap (λ (s : List ℕ). b ∷ s) two

pub path_prints : (s : List ℕ) → flat_map path_name (path_of s) ≡ s ++ colons
unfolding path_of
path_prints [] = refl
path_prints (b ∷ []) = refl
path_prints (b ∷ (c ∷ bytes)) = cut_prints (eqb b 58 && eqb c 58) b c bytes refl (path_prints bytes) (path_prints (c ∷ bytes))
