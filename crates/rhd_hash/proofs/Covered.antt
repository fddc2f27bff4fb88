-- A filter that marks the hash of each key of a table.
use Rattle.std.proofs.Common.{◌≡◌, ◌≢◌, ℕ, zero, suc, Bool, true, false, not, ◌||◌, ◌==◌, cond, List, [], ◌∷◌, map, Some, None, refl, sym, ap, ◌∙◌, take, eq-eqb}
use Rattle.std.specs.List.{list_any}
use Rattle.std.specs.Map.{lookup, keys_of}
use Rattle.rhd_hash.specs.declared.key.Key.{Key}
use Rattle.rhd_hash.specs.declared.mixer.Seeds.{Seeds}
use Rattle.rhd_hash.specs.Covers.{Covers, HasNoScript}
use Rattle.rhd_hash.specs.Filter.{slot, is_marked, Marks}
use Rattle.rhd_hash.specs.Keys.{key_eq, key_eq-Decides, is_script_key}
use Rattle.rhd_hash.specs.Parts.{mixed}
use Rattle.rhd_hash.specs.PutIn.{put_in}
use Rattle.rhd_hash.proofs.Filters.{or-false}
use Rattle.rhd_hash.proofs.PutIn.{finds_others}

pub neither : (a b : Bool) → (a || b) ≡ false → (a ≡ false) × (b ≡ false)
neither true b e = absurd cc
neither false b e = (refl, e)

not_both : (b : Bool) → b ≡ true → b ≡ false → ⊥
not_both b t f = cc

pub not_marked : (b absent : Bool) → absent ≡ not b → absent ≡ true → b ≡ false
not_marked true absent is told = absurd (let e : true ≡ false = sym told ∙ is in cc)
not_marked false absent is told = refl

-- one more pair, whose hash is marked
pub put_covered : {V : Type 0} (seeds : Seeds) (old new : List ℕ) (ps : List (Key × V)) (key : Key) (v : V) (hash : ℕ) → hash ≡ mixed seeds key → Marks 128 hash old new → Covers 128 old seeds ps → Covers 128 new seeds (put_in key_eq key v ps)
unfolding Covers
put_covered seeds old new ps key v hash is marks covers = λ other absent.
    let h = mixed seeds other in
    let n = neither (is_marked 128 old h) (slot 128 h == slot 128 hash) (sym (marks h) ∙ absent) in
    let apart : other ≢ key = λ same. not_both (slot 128 h == slot 128 hash) (eq-eqb _ _ (ap (slot 128) (ap (mixed seeds) same ∙ sym is))) n.1 in
    finds_others key_eq key_eq-Decides key v other ps apart ∙ covers other n.0

taken_step : {K V : Type 0} (test : K → Bool) (p : K × V) (ps : List (K × V)) (n : ℕ) (same : Bool) → (lookup test ps ≡ None → lookup test (take n ps) ≡ None) → cond same (Some p.1) (lookup test ps) ≡ None → cond same (Some p.1) (lookup test (take n ps)) ≡ None
taken_step test p ps n true ih e = absurd cc
taken_step test p ps n false ih e = ih e

missing_taken : {K V : Type 0} (test : K → Bool) (ps : List (K × V)) (n : ℕ) → lookup test ps ≡ None → lookup test (take n ps) ≡ None
missing_taken test [] zero e = refl
missing_taken test [] (suc n) e = refl
missing_taken test (p ∷ ps) zero e = refl
missing_taken test (p ∷ ps) (suc n) e = taken_step test p ps n (test p.0) (missing_taken test ps n) e

-- fewer pairs
pub taken_covered : {V : Type 0} (seeds : Seeds) (marks : List ℕ) (ps : List (Key × V)) (n : ℕ) → Covers 128 marks seeds ps → Covers 128 marks seeds (take n ps)
unfolding Covers
taken_covered seeds marks ps n covers = λ key absent. missing_taken (key_eq key) ps n (covers key absent)

-- one more pair, which is noted if it is a script's
pub put_noted : {V : Type 0} (noted script : Bool) (ps : List (Key × V)) (key : Key) (v : V) → script ≡ is_script_key key → (noted ≡ false → HasNoScript ps) → (noted || script) ≡ false → HasNoScript (put_in key_eq key v ps)
unfolding HasNoScript
put_noted noted script ps key v is old none = λ other asked.
    let n = neither noted script none in
    let apart : other ≢ key = λ same. not_both (is_script_key key) (ap is_script_key (sym same) ∙ asked) (sym is ∙ n.1) in
    finds_others key_eq key_eq-Decides key v other ps apart ∙ old n.0 other asked

pub taken_noted : {V : Type 0} (noted : Bool) (ps : List (Key × V)) (n : ℕ) → (noted ≡ false → HasNoScript ps) → noted ≡ false → HasNoScript (take n ps)
unfolding HasNoScript
taken_noted noted ps n old none = λ key asked. missing_taken (key_eq key) ps n (old none key asked)

-- some of these hashes has the slot of a number
abbrev pub has_slot_of : ℕ → ℕ → List ℕ → Bool
has_slot_of size v hashes = list_any (λ h. slot size v == slot size h) hashes

absent_step : {V : Type 0} (key : Key) (p : Key × V) (ps : List (Key × V)) (same : Bool) → key_eq key p.0 ≡ same → (key_eq key p.0 ≡ true → ⊥) → lookup (key_eq key) ps ≡ None → cond same (Some p.1) (lookup (key_eq key) ps) ≡ None
absent_step key p ps true e other ih = absurd (other e)
absent_step key p ps false e other ih = ih

-- a key of none of these slots is under nothing
no_slot : {V : Type 0} (size : ℕ) (seeds : Seeds) (key : Key) (ps : List (Key × V)) → has_slot_of size (mixed seeds key) (map (mixed seeds) (keys_of ps)) ≡ false → lookup (key_eq key) ps ≡ None
no_slot size seeds key [] none = refl
no_slot size seeds key (p ∷ ps) none =
    let h = mixed seeds key in
    let n = neither (slot size h == slot size (mixed seeds p.0)) (has_slot_of size h (map (mixed seeds) (keys_of ps))) none in
    let other : key_eq key p.0 ≡ true → ⊥ = λ same. not_both (slot size h == slot size (mixed seeds p.0)) (eq-eqb _ _ (ap (λ k. slot size (mixed seeds k)) ((key_eq-Decides key p.0).0 same))) n.0 in
    absent_step key p ps (key_eq key p.0) refl other (no_slot size seeds key ps n.1)

-- a filter to which the hashes of all keys were put
pub all_covered : {V : Type 0} (size : ℕ) (seeds : Seeds) (old new : List ℕ) (ps : List (Key × V)) → ((v : ℕ) → is_marked size new v ≡ (is_marked size old v || has_slot_of size v (map (mixed seeds) (keys_of ps)))) → Covers size new seeds ps
unfolding Covers
all_covered size seeds old new ps marks = λ key absent.
    no_slot size seeds key ps (neither (is_marked size old (mixed seeds key)) (has_slot_of size (mixed seeds key) (map (mixed seeds) (keys_of ps))) (sym (marks (mixed seeds key)) ∙ absent)).1

or_assoc : (a b c : Bool) → ((a || b) || c) ≡ (a || (b || c))
or_assoc true b c = refl
or_assoc false b c = refl

-- one more hash is marked
pub next_marked : (size : ℕ) (old new left rest : List ℕ) (h : ℕ) (whole : ℕ → Bool) → left ≡ h ∷ rest → Marks size h old new → ((v : ℕ) → (is_marked size old v || has_slot_of size v left) ≡ whole v) → (v : ℕ) → (is_marked size new v || has_slot_of size v rest) ≡ whole v
next_marked size old new left rest h whole is marks sofar v =
    ap (λ b. b || has_slot_of size v rest) (marks v) ∙ or_assoc (is_marked size old v) (slot size v == slot size h) (has_slot_of size v rest)
    ∙ ap (λ hs. is_marked size old v || has_slot_of size v hs) (sym is) ∙ sofar v

-- all hashes are marked
pub whole_marked : (size : ℕ) (new left : List ℕ) (whole : ℕ → Bool) → left ≡ [] → ((v : ℕ) → (is_marked size new v || has_slot_of size v left) ≡ whole v) → (v : ℕ) → is_marked size new v ≡ whole v
whole_marked size new left whole is sofar v = sym (or-false (is_marked size new v)) ∙ ap (λ hs. is_marked size new v || has_slot_of size v hs) (sym is) ∙ sofar v
