-- What a hash finds among pairs whose keys have hashes of their own, and when keys have such hashes.
use Rattle.std.proofs.Common.{◌≡◌, ◌≢◌, ℕ, zero, suc, ◌<◌, length, get_or, arith, Bool, true, false, cond, List, [], ◌∷◌, map, nat_eq, ◌==◌, slice_get, None, Some}
use Rattle.std.proofs.Common.{refl, sym, ap, ◌∙◌, true≢false, eq-eqb, eqb-true}
use Rattle.std.specs.List.{IsDistinct, AllByRecursion, Contains}
use Rattle.std.specs.Map.{keys_of}
use Rattle.std.proofs.lemmas.List.Elements.{Contains-append_right}
use Rattle.std.proofs.lemmas.Map.Keys.{IsDistinct-tail, apart_from_distinct, IsDistinct-from_apart}
use Rattle.std.proofs.Math.ListN.{get_or-map}
use Rattle.std.proofs.lemmas.List.{length-map, get_or_default}
use Rattle.std.proofs.lemmas.Option.{slice_get-get_or, get_or_from_slice_get, slice_get_within}
use Rattle.rhd_hash.specs.declared.mixer.Seeds.{Seeds}
use Rattle.rhd_hash.specs.declared.key.Key.{Key}
use Rattle.rhd_hash.specs.Keys.{key_eq, key_eq-Decides}
use Rattle.rhd_hash.specs.Parts.{mixed}
use Rattle.rhd_hash.specs.Table.{HasOwnHashes, Clashes, first_hashed}
use Rattle.rhd_hash.specs.Apart.{AreApart}
use Rattle.rhd_hash.proofs.Tables.{yes, no, nat_eq-turned}

other_hash : (h n : ℕ) (same : Bool) → n ≢ h → (h == n) ≡ same → (h == n) ≡ false
other_hash h n true apart s = absurd (apart (sym (eqb-true h n s)))
other_hash h n false apart s = s

module _ {K V : Type 0} (hash : K → ℕ) where
  found_step : (h : ℕ) (p q : K × V) (ps : List (K × V)) (same : Bool) → (h == hash q.0) ≡ same → (first_hashed hash h ps ≡ Some p → Contains ps p × (hash p.0 ≡ h))
      → cond same (Some q) (first_hashed hash h ps) ≡ Some p → Contains (q ∷ ps) p × (hash p.0 ≡ h)
  found_step h p q ps true s ih e =
      let is : q ≡ p = cc in
      ((0, omega arith, is), sym (eqb-true h (hash q.0) s ∙ ap (λ (r : K × V). hash r.0) is))
  found_step h p q ps false s ih e =
      let r = ih e in
      (Contains-append_right (q ∷ []) ps p r.0, r.1)

  -- what a hash finds is a pair that has it
  pub found_pair : (h : ℕ) (p : K × V) (ps : List (K × V)) → first_hashed hash h ps ≡ Some p → Contains ps p × (hash p.0 ≡ h)
  found_pair h p [] e = absurd cc
  found_pair h p (q ∷ ps) e = found_step h p q ps (h == hash q.0) refl (found_pair h p ps) e

  at_place : (p : K × V) (ps : List (K × V)) (i : ℕ) → IsDistinct nat_eq (map hash (keys_of ps)) → i < length ps → get_or ps i p ≡ p → first_hashed hash (hash p.0) ps ≡ Some p
  at_place p [] i u l e = absurd (omega arith)
  at_place p (q ∷ ps) zero u l e = yes (Some q) (first_hashed hash (hash p.0) ps) (eq-eqb (hash p.0) (hash q.0) (ap (λ (r : K × V). hash r.0) (sym e))) ∙ ap Some e
  at_place p (q ∷ ps) (suc i) u l e =
      let key : get_or (keys_of ps) i p.0 ≡ p.0 = get_or-map (λ (r : K × V). r.0) ps i p ∙ ap (λ (r : K × V). r.0) e in
      let there : get_or (map hash (keys_of ps)) i (hash p.0) ≡ hash p.0 = get_or-map hash (keys_of ps) i p.0 ∙ ap hash key in
      let long : length (map hash (keys_of ps)) ≡ length ps = length-map (keys_of ps) hash ∙ length-map ps (λ (x : K × V). x.0) in
      let apart = apart_from_distinct nat_eq (map hash (keys_of (q ∷ ps))) 0 (suc i) (hash p.0) u (omega arith) (omega (arith, long)) in
      no (Some q) (first_hashed hash (hash p.0) ps) (nat_eq-turned (hash q.0) (hash p.0) (ap (nat_eq (hash q.0)) (sym there) ∙ apart))
      ∙ at_place p ps i (IsDistinct-tail nat_eq (hash q.0) (map hash (keys_of ps)) u) (omega arith) e

  -- and it finds each pair that has it, where no other one has
  pub pair_found : (h : ℕ) (p : K × V) (ps : List (K × V)) → IsDistinct nat_eq (map hash (keys_of ps)) → Contains ps p → hash p.0 ≡ h → first_hashed hash h ps ≡ Some p
  pair_found h p ps u there e = ap (λ n. first_hashed hash n ps) (sym e) ∙ at_place p ps there.0 u there.1 there.2

  missing_step : (h : ℕ) (q : K × V) (ps : List (K × V)) (same : Bool) → (h == hash q.0) ≡ same → (first_hashed hash h ps ≡ None → AllByRecursion (λ p. hash p.0 ≢ h) ps)
      → cond same (Some q) (first_hashed hash h ps) ≡ None → AllByRecursion (λ p. hash p.0 ≢ h) (q ∷ ps)
  missing_step h q ps true s ih e = absurd cc
  missing_step h q ps false s ih e = (λ one. true≢false (sym (eq-eqb h (hash q.0) (sym one)) ∙ s), ih e)

  pub missing_pairs : (h : ℕ) (ps : List (K × V)) → first_hashed hash h ps ≡ None → AllByRecursion (λ p. hash p.0 ≢ h) ps
  missing_pairs h [] e = tt
  missing_pairs h (q ∷ ps) e = missing_step h q ps (h == hash q.0) refl (missing_pairs h ps) e

  pub pairs_missing : (h : ℕ) (ps : List (K × V)) → AllByRecursion (λ p. hash p.0 ≢ h) ps → first_hashed hash h ps ≡ None
  pairs_missing h [] none = refl
  pairs_missing h (q ∷ ps) none = no (Some q) (first_hashed hash h ps) (other_hash h (hash q.0) (h == hash q.0) none.0 refl) ∙ pairs_missing h ps none.1

-- two keys of hashes of their own have no hash in common
pub own_hash : (seeds : Seeds) (keys : List Key) → HasOwnHashes seeds keys → (i j : ℕ) (a b : Key) → i < j → slice_get keys i ≡ Some a → slice_get keys j ≡ Some b → mixed seeds a ≢ mixed seeds b
unfolding HasOwnHashes
own_hash seeds keys own i j a b less at_i at_j one =
    let long : length (map (mixed seeds) keys) ≡ length keys = length-map keys (mixed seeds) in
    let apart = apart_from_distinct nat_eq (map (mixed seeds) keys) i j (mixed seeds a) own less (omega (arith, long, slice_get_within keys j b at_j)) in
    let first : get_or (map (mixed seeds) keys) i (mixed seeds a) ≡ mixed seeds a = get_or-map (mixed seeds) keys i a ∙ ap (mixed seeds) (get_or_from_slice_get keys i a a at_i) in
    let second : get_or (map (mixed seeds) keys) j (mixed seeds a) ≡ mixed seeds b = get_or-map (mixed seeds) keys j a ∙ ap (mixed seeds) (get_or_from_slice_get keys j b a at_j) in
    true≢false (sym (eq-eqb (mixed seeds a) (mixed seeds b) one) ∙ sym (λ k. nat_eq (first k) (second k)) ∙ apart)

pub own_apart : (seeds : Seeds) (keys : List Key) → HasOwnHashes seeds keys → AreApart seeds keys
own_apart seeds keys own i j a b less at_i at_j =
    let apart = own_hash seeds keys own i j a b less at_i at_j in
    (λ same. apart (ap (mixed seeds) same), λ clash. apart clash.one_hash)

other_hashes : (seeds : Seeds) (a b : Key) (same : Bool) → key_eq a b ≡ same → a ≢ b → (Clashes seeds a b → ⊥) → (one : Bool) → nat_eq (mixed seeds a) (mixed seeds b) ≡ one
    → nat_eq (mixed seeds a) (mixed seeds b) ≡ false
other_hashes seeds a b true s differ clear one h = absurd (differ ((key_eq-Decides a b).0 s))
other_hashes seeds a b false s differ clear true h = absurd (clear (record { differ = differ; one_hash = eqb-true (mixed seeds a) (mixed seeds b) h }))
other_hashes seeds a b false s differ clear false h = h

module _ (seeds : Seeds) (keys : List Key) (key : Key) (i : ℕ) (within : i < length keys) where
  at_key : slice_get keys i ≡ Some (get_or keys i key)
  at_key = slice_get-get_or keys i key within

  at_hash : (d : ℕ) → get_or (map (mixed seeds) keys) i d ≡ mixed seeds (get_or keys i key)
  at_hash d =
      let long : length (map (mixed seeds) keys) ≡ length keys = length-map keys (mixed seeds) in
      get_or_default (map (mixed seeds) keys) i d (mixed seeds key) (omega (arith, long, within)) ∙ get_or-map (mixed seeds) keys i key

apart_pair : (seeds : Seeds) (keys : List Key) (key : Key) → AreApart seeds keys → (i j : ℕ) (d : ℕ) → i < j → j < length (map (mixed seeds) keys)
    → nat_eq (get_or (map (mixed seeds) keys) i d) (get_or (map (mixed seeds) keys) j d) ≡ false
apart_pair seeds keys key apart i j d less within =
    let long : length (map (mixed seeds) keys) ≡ length keys = length-map keys (mixed seeds) in
    let inside_j : j < length keys = omega (arith, long, within) in
    let inside_i : i < length keys = omega (arith, less, inside_j) in
    let a = get_or keys i key in
    let b = get_or keys j key in
    let both = apart i j a b less (at_key seeds keys key i inside_i) (at_key seeds keys key j inside_j) in
    (λ n. nat_eq (at_hash seeds keys key i inside_i d n) (at_hash seeds keys key j inside_j d n))
    ∙ other_hashes seeds a b (key_eq a b) refl both.0 both.1 (nat_eq (mixed seeds a) (mixed seeds b)) refl

pub apart_own : (seeds : Seeds) (keys : List Key) → AreApart seeds keys → HasOwnHashes seeds keys
unfolding HasOwnHashes IsDistinct
apart_own seeds [] apart = tt
apart_own seeds (key ∷ keys) apart = IsDistinct-from_apart nat_eq (map (mixed seeds) (key ∷ keys)) (apart_pair seeds (key ∷ keys) key apart)
