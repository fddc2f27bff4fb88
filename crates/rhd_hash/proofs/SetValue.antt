-- A value that is put at a place. The keys, their hash and their test are any.
use Rattle.std.proofs.Common.{◌≡◌, ℕ, zero, suc, Bool, true, false, cond, List, [], ◌∷◌, map, nat_eq, slice_get, Option, None, Some, refl, sym, ap, ◌∙◌, subst, eq-eqb}
use Rattle.std.specs.Bool.{Decides}
use Rattle.std.specs.List.{IsDistinct, AllByRecursion}
use Rattle.std.specs.Map.{keys_of, lookup}
use Rattle.std.specs.Option.{option_map}
use Rattle.std.specs.Prelude.{is_some}
use Rattle.std.proofs.lemmas.Map.Keys.{IsDistinct-head, IsDistinct-tail}
use Rattle.indexmap.specs.Layout.{set_value_at}
use Rattle.rhd_hash.specs.Covers.{Covers, HasNoScript}
use Rattle.rhd_hash.specs.PutIn.{put_in}
use Rattle.rhd_hash.specs.Slots.{hashed}
use Rattle.rhd_hash.specs.Table.{first_hashed}
use Rattle.rhd_hash.specs.declared.key.Key.{Key}
use Rattle.rhd_hash.specs.declared.mixer.Seeds.{Seeds}
use Rattle.rhd_hash.specs.Keys.{key_eq}
use Rattle.rhd_hash.proofs.Tables.{yes, no, nat_eq-turned, eq-other}

missing_here : {V : Type 0} (b : Bool) (w v : V) (rest : Option V) → cond b (Some w) rest ≡ None → cond b (Some v) rest ≡ None
missing_here true w v rest e = cc
missing_here false w v rest e = e

missing_behind : {V : Type 0} (b : Bool) (w : V) (old new : Option V) → (old ≡ None → new ≡ None) → cond b (Some w) old ≡ None → cond b (Some w) new ≡ None
missing_behind true w old new rest e = cc
missing_behind false w old new rest e = rest e

module _ {K V : Type 0} where
  -- where there is nothing at the place, nothing changes
  pub set-none : (i : ℕ) (v : V) (ps : List (K × V)) → slice_get ps i ≡ None → set_value_at ps i v ≡ ps
  set-none i v [] e = refl
  set-none zero v (p ∷ ps) e = cc
  set-none (suc i) v (p ∷ ps) e = ap (λ (qs : List (K × V)). p ∷ qs) (set-none i v ps e)

  -- the keys stay
  pub keys-set : (i : ℕ) (v : V) (ps : List (K × V)) → keys_of (set_value_at ps i v) ≡ keys_of ps
  keys-set i v [] = refl
  keys-set zero v (p ∷ ps) = refl
  keys-set (suc i) v (p ∷ ps) = ap (λ (ks : List K). p.0 ∷ ks) (keys-set i v ps)

  -- where no key passes a test, none does after
  pub missing-set : (test : K → Bool) (i : ℕ) (v : V) (ps : List (K × V)) → lookup test ps ≡ None → lookup test (set_value_at ps i v) ≡ None
  missing-set test i v [] e = refl
  missing-set test zero v (p ∷ ps) e = missing_here (test p.0) p.1 v (lookup test ps) e
  missing-set test (suc i) v (p ∷ ps) e = missing_behind (test p.0) p.1 (lookup test ps) (lookup test (set_value_at ps i v)) (missing-set test i v ps) e

module _ {K V : Type 0} (hash : K → ℕ) where
  -- slots that are pairs behind their hashes stay so
  pub set-hashed : (i : ℕ) (q : K) (w v : V) (ps : List (K × V)) → slice_get ps i ≡ Some (q, w) → set_value_at (hashed hash ps) i (q, v) ≡ hashed hash (set_value_at ps i v)
  set-hashed i q w v [] e = refl
  set-hashed zero q w v (p ∷ ps) e =
      let k : q ≡ p.0 = cc in
      ap (λ (x : K). (hash p.0, (x, v)) ∷ hashed hash ps) k
  set-hashed (suc i) q w v (p ∷ ps) e = ap (λ (qs : List (ℕ × (K × V))). (hash p.0, p) ∷ qs) (set-hashed i q w v ps e)

  at_place : (P : ℕ → Type 0) (i : ℕ) (k : K) (ps : List (K × V)) → AllByRecursion P (map hash (keys_of ps)) → option_map (λ p. p.0) (slice_get ps i) ≡ Some k → P (hash k)
  at_place P i k [] all e = cc
  at_place P zero k (p ∷ ps) all e =
      let same : p.0 ≡ k = cc in
      subst (λ (x : K). P (hash x)) same all.0
  at_place P (suc i) k (p ∷ ps) all e = at_place P i k ps all.1 e

  module _ (eq : K → K → Bool) (same : (a b : K) → Decides (eq a b) (a ≡ b)) where
    here : (k : K) (p : K × V) → Some p.0 ≡ Some k → eq k p.0 ≡ true
    here k p e = let x : k ≡ p.0 = cc in (same k p.0).1 x

    other_than : (i : ℕ) (k : K) (p : K × V) (ps : List (K × V)) → IsDistinct nat_eq (map hash (keys_of (p ∷ ps))) → option_map (λ p. p.0) (slice_get ps i) ≡ Some k → eq k p.0 ≡ false
    other_than i k p ps u e = eq-other hash eq same k p.0 (nat_eq-turned (hash p.0) (hash k) (at_place (λ h. nat_eq (hash p.0) h ≡ false) i k ps (IsDistinct-head nat_eq (hash p.0) (map hash (keys_of ps)) u) e))

    -- where the hashes are distinct, the value under a key is put where the key stands
    pub put-there : (i : ℕ) (k : K) (v : V) (ps : List (K × V)) → IsDistinct nat_eq (map hash (keys_of ps)) → option_map (λ p. p.0) (slice_get ps i) ≡ Some k → set_value_at ps i v ≡ put_in eq k v ps
    put-there i k v [] u e = cc
    put-there zero k v (p ∷ ps) u e = sym (yes ((p.0, v) ∷ ps) (p ∷ put_in eq k v ps) (here k p e))
    put-there (suc i) k v (p ∷ ps) u e =
        ap (λ (qs : List (K × V)). p ∷ qs) (put-there i k v ps (IsDistinct-tail nat_eq (hash p.0) (map hash (keys_of ps)) u) e)
        ∙ sym (no ((p.0, v) ∷ ps) (p ∷ put_in eq k v ps) (other_than i k p ps u e))

    -- and it is found there
    pub lookup-there : (i : ℕ) (k : K) (ps : List (K × V)) → IsDistinct nat_eq (map hash (keys_of ps)) → option_map (λ p. p.0) (slice_get ps i) ≡ Some k → option_map (λ p. p.1) (slice_get ps i) ≡ lookup (eq k) ps
    lookup-there i k [] u e = cc
    lookup-there zero k (p ∷ ps) u e = sym (yes (Some p.1) (lookup (eq k) ps) (here k p e))
    lookup-there (suc i) k (p ∷ ps) u e =
        lookup-there i k ps (IsDistinct-tail nat_eq (hash p.0) (map hash (keys_of ps)) u) e
        ∙ sym (no (Some p.1) (lookup (eq k) ps) (other_than i k p ps u e))

    -- so no other key has its hash
    pub found-there : (i : ℕ) (k : K) (ps : List (K × V)) → IsDistinct nat_eq (map hash (keys_of ps)) → option_map (λ p. p.0) (slice_get ps i) ≡ Some k → (q : K) (w : V) → first_hashed hash (hash k) ps ≡ Some (q, w) → eq q k ≡ true
    found-there i k [] u e q w found = cc
    found-there zero k (p ∷ ps) u e q w found =
        let x : k ≡ p.0 = cc in
        let s : Some p ≡ Some (q, w) = sym (yes (Some p) (first_hashed hash (hash k) ps) (eq-eqb (hash k) (hash p.0) (ap hash x))) ∙ found in
        let y : q ≡ k = cc in
        (same q k).1 y
    found-there (suc i) k (p ∷ ps) u e q w found =
        let apart = nat_eq-turned (hash p.0) (hash k) (at_place (λ h. nat_eq (hash p.0) h ≡ false) i k ps (IsDistinct-head nat_eq (hash p.0) (map hash (keys_of ps)) u) e) in
        found-there i k ps (IsDistinct-tail nat_eq (hash p.0) (map hash (keys_of ps)) u) e q w (sym (no (Some p) (first_hashed hash (hash k) ps) apart) ∙ found)

pub set_covered : {V : Type 0} (seeds : Seeds) (marks : List ℕ) (i : ℕ) (v : V) (ps : List (Key × V)) → Covers 128 marks seeds ps → Covers 128 marks seeds (set_value_at ps i v)
unfolding Covers
set_covered seeds marks i v ps covers = λ key absent. missing-set (key_eq key) i v ps (covers key absent)

pub set_noted : {V : Type 0} (i : ℕ) (v : V) (ps : List (Key × V)) → HasNoScript ps → HasNoScript (set_value_at ps i v)
unfolding HasNoScript
set_noted i v ps none = λ key asked. missing-set (key_eq key) i v ps (none key asked)

pub none_from : {A : Type 0} (o : Option A) → false ≡ is_some o → o ≡ None
none_from None e = refl
none_from (Some x) e = cc
