-- Lists of pairs and of slots: what is found by a hash, and what a slot that is put in changes. The keys, their hash and their test are any.
use Rattle.std.proofs.Common.{◌≡◌, ℕ, zero, suc, ◌<◌, length, get_or, arith, Bool, true, false, cond, List, [], ◌∷◌, map, take, nat_eq, ◌==◌, Option, None, Some, Result, Ok, Err}
use Rattle.std.proofs.Common.{refl, sym, ap, ◌∙◌, subst, true≢false, eq-eqb, eqb-true}
use Rattle.std.specs.Result.{OnErr}
use Rattle.std.specs.Bool.{Decides}
use Rattle.std.specs.List.{IsDistinct, AllByRecursion, Contains}
use Rattle.std.specs.Option.{option_map}
use Rattle.std.proofs.lemmas.List.Elements.{Contains-append_right}
use Rattle.std.specs.Map.{keys_of, lookup}
use Rattle.std.proofs.lemmas.Map.Keys.{IsDistinct-head, IsDistinct-tail, apart_from_distinct}
use Rattle.std.proofs.Math.ListN.{get_or-map}
use Rattle.std.proofs.lemmas.List.{length-map}
use Rattle.indexmap.specs.IndexMap.{insert_entry}
use Rattle.rhd_hash.specs.Table.{first_hashed}
use Rattle.rhd_hash.specs.Slots.{hashed}
use Rattle.rhd_hash.specs.PutIn.{put_in}

-- the two sides of a choice
pub yes : {A : Type 0} {b : Bool} (x y : A) → b ≡ true → cond b x y ≡ x
yes x y e = ap (λ c. cond c x y) e

pub no : {A : Type 0} {b : Bool} (x y : A) → b ≡ false → cond b x y ≡ y
no x y e = ap (λ c. cond c x y) e

-- two numbers that differ, the other way round
pub nat_eq-turned : (a b : ℕ) → nat_eq a b ≡ false → (b == a) ≡ false
nat_eq-turned a b e = by (b == a) refl
  where
    by : (d : Bool) → (b == a) ≡ d → (b == a) ≡ false
    by true f = absurd (true≢false (sym (eq-eqb a b (sym (eqb-true b a f))) ∙ e))
    by false f = f

module _ {K : Type 0} (hash : K → ℕ) (eq : K → K → Bool) (same : (a b : K) → Decides (eq a b) (a ≡ b)) where
  -- an equal key has an equal hash
  pub hash_same : (k q : K) → eq k q ≡ true → (hash k == hash q) ≡ true
  hash_same k q e = eq-eqb (hash k) (hash q) (ap hash ((same k q).0 e))

  -- so a key of another hash is another key
  pub eq-other : (k q : K) → (hash k == hash q) ≡ false → eq k q ≡ false
  eq-other k q f = by (eq k q) refl
    where
      by : (b : Bool) → eq k q ≡ b → eq k q ≡ false
      by true e = absurd (true≢false (sym (hash_same k q e) ∙ f))
      by false e = e

module _ {K V : Type 0} (hash : K → ℕ) where
  pub lookup-hashed : (h : ℕ) (ps : List (K × V)) → lookup (nat_eq h) (hashed hash ps) ≡ first_hashed hash h ps
  lookup-hashed h [] = refl
  lookup-hashed h (p ∷ ps) = ap (cond (h == hash p.0) (Some p)) (lookup-hashed h ps)

  pub keys-hashed : (ps : List (K × V)) → keys_of (hashed hash ps) ≡ map hash (keys_of ps)
  keys-hashed [] = refl
  keys-hashed (p ∷ ps) = ap (λ t. hash p.0 ∷ t) (keys-hashed ps)

  pub pairs-hashed : (ps : List (K × V)) → map (λ e. e.1) (hashed hash ps) ≡ ps
  pairs-hashed [] = refl
  pairs-hashed (p ∷ ps) = ap (λ t. p ∷ t) (pairs-hashed ps)

  -- the first slots are those of the first pairs
  pub take-hashed : (n : ℕ) (ps : List (K × V)) → take n (hashed hash ps) ≡ hashed hash (take n ps)
  take-hashed zero ps = refl
  take-hashed (suc n) [] = refl
  take-hashed (suc n) (p ∷ ps) = ap (λ t. (hash p.0, p) ∷ t) (take-hashed n ps)

  module _ (eq : K → K → Bool) (same : (a b : K) → Decides (eq a b) (a ≡ b)) where
    -- no pair with this hash, so none with this key
    pub lookup-none : (k : K) (ps : List (K × V)) → first_hashed hash (hash k) ps ≡ None → lookup (eq k) ps ≡ None
    lookup-none k [] h = refl
    lookup-none k (p ∷ ps) h = by (lookup-none k ps) (hash k == hash p.0) refl
      where
        by : (first_hashed hash (hash k) ps ≡ None → lookup (eq k) ps ≡ None) → (d : Bool) → (hash k == hash p.0) ≡ d → lookup (eq k) (p ∷ ps) ≡ None
        by rest true f = let bad : Some p ≡ None = sym (yes (Some p) (first_hashed hash (hash k) ps) f) ∙ h in cc
        by rest false f = no (Some p.1) (lookup (eq k) ps) (eq-other hash eq same k p.0 f) ∙ rest (sym (no (Some p) (first_hashed hash (hash k) ps) f) ∙ h)

    -- the first pair with this hash has this key, so it is the first with the key
    pub lookup-held : (k q : K) (v : V) (ps : List (K × V)) → first_hashed hash (hash k) ps ≡ Some (q, v) → eq q k ≡ true → lookup (eq k) ps ≡ Some v
    lookup-held k q v [] h r = cc
    lookup-held k q v (p ∷ ps) h r = by (λ e. lookup-held k q v ps e r) (hash k == hash p.0) refl
      where
        by : (first_hashed hash (hash k) ps ≡ Some (q, v) → lookup (eq k) ps ≡ Some v) → (d : Bool) → (hash k == hash p.0) ≡ d → lookup (eq k) (p ∷ ps) ≡ Some v
        by rest true f =
            let e : Some p ≡ Some (q, v) = sym (yes (Some p) (first_hashed hash (hash k) ps) f) ∙ h in
            let e0 : p.0 ≡ q = cc in
            let e1 : p.1 ≡ v = cc in
            yes (Some p.1) (lookup (eq k) ps) ((same k p.0).1 (sym ((same q k).0 r) ∙ sym e0)) ∙ ap Some e1
        by rest false f = no (Some p.1) (lookup (eq k) ps) (eq-other hash eq same k p.0 f) ∙ rest (sym (no (Some p) (first_hashed hash (hash k) ps) f) ∙ h)

    -- no key of the list has this hash
    pub lookup-apart : (h : ℕ) (k : K) (ps : List (K × V)) → hash k ≡ h → AllByRecursion (λ y. nat_eq h y ≡ false) (map hash (keys_of ps)) → lookup (eq k) ps ≡ None
    lookup-apart h k [] e a = refl
    lookup-apart h k (p ∷ ps) e a = no (Some p.1) (lookup (eq k) ps) (eq-other hash eq same k p.0 (ap (λ n. n == hash p.0) e ∙ a.0)) ∙ lookup-apart h k ps e a.1

    -- the first pair with this hash has another key, so none has the key
    pub lookup-clash : (k q : K) (v : V) (ps : List (K × V)) → IsDistinct nat_eq (map hash (keys_of ps)) → first_hashed hash (hash k) ps ≡ Some (q, v) → eq q k ≡ false → lookup (eq k) ps ≡ None
    lookup-clash k q v [] u h r = cc
    lookup-clash k q v (p ∷ ps) u h r = by (λ w e. lookup-clash k q v ps w e r) (hash k == hash p.0) refl
      where
        other : p.0 ≡ q → (b : Bool) → eq k p.0 ≡ b → eq k p.0 ≡ false
        other e0 true e = absurd (true≢false (sym ((same q k).1 (sym e0 ∙ sym ((same k p.0).0 e))) ∙ r))
        other e0 false e = e

        by : (IsDistinct nat_eq (map hash (keys_of ps)) → first_hashed hash (hash k) ps ≡ Some (q, v) → lookup (eq k) ps ≡ None) → (d : Bool) → (hash k == hash p.0) ≡ d → lookup (eq k) (p ∷ ps) ≡ None
        by rest true f =
            let e : Some p ≡ Some (q, v) = sym (yes (Some p) (first_hashed hash (hash k) ps) f) ∙ h in
            let e0 : p.0 ≡ q = cc in
            no (Some p.1) (lookup (eq k) ps) (other e0 (eq k p.0) refl) ∙ lookup-apart (hash p.0) k ps (eqb-true (hash k) (hash p.0) f) (IsDistinct-head nat_eq (hash p.0) (map hash (keys_of ps)) u)
        by rest false f =
            no (Some p.1) (lookup (eq k) ps) (eq-other hash eq same k p.0 f)
            ∙ rest (IsDistinct-tail nat_eq (hash p.0) (map hash (keys_of ps)) u) (sym (no (Some p) (first_hashed hash (hash k) ps) f) ∙ h)

    -- an insert where no pair has the hash puts the pair last in both lists; where the pair with the hash has the key, it is replaced in both
    pub insert-hashed : (k : K) (v : V) (ps : List (K × V)) → ((q : K) (w : V) → first_hashed hash (hash k) ps ≡ Some (q, w) → eq q k ≡ true)
        → insert_entry nat_eq (hashed hash ps) (hash k) (k, v) ≡ hashed hash (put_in eq k v ps)
    insert-hashed k v [] h = refl
    insert-hashed k v (p ∷ ps) h = by (λ e. insert-hashed k v ps e) (hash k == hash p.0) refl
      where
        by : (((q : K) (w : V) → first_hashed hash (hash k) ps ≡ Some (q, w) → eq q k ≡ true) → insert_entry nat_eq (hashed hash ps) (hash k) (k, v) ≡ hashed hash (put_in eq k v ps))
            → (d : Bool) → (hash k == hash p.0) ≡ d → insert_entry nat_eq (hashed hash (p ∷ ps)) (hash k) (k, v) ≡ hashed hash (put_in eq k v (p ∷ ps))
        by rest true f =
            let r = h p.0 p.1 (yes (Some p) (first_hashed hash (hash k) ps) f) in
            let e : p.0 ≡ k = (same p.0 k).0 r in
            yes ((hash p.0, (k, v)) ∷ hashed hash ps) ((hash p.0, p) ∷ insert_entry nat_eq (hashed hash ps) (hash k) (k, v)) f
            ∙ sym (ap (λ q. (hash p.0, (q, v)) ∷ hashed hash ps) e)
            ∙ sym (ap (hashed hash) (yes ((p.0, v) ∷ ps) (p ∷ put_in eq k v ps) ((same k p.0).1 (sym e))))
        by rest false f =
            no ((hash p.0, (k, v)) ∷ hashed hash ps) ((hash p.0, p) ∷ insert_entry nat_eq (hashed hash ps) (hash k) (k, v)) f
            ∙ ap (λ t. (hash p.0, p) ∷ t) (rest (λ q w e. h q w (no (Some p) (first_hashed hash (hash k) ps) f ∙ e)))
            ∙ sym (ap (hashed hash) (no ((p.0, v) ∷ ps) (p ∷ put_in eq k v ps) (eq-other hash eq same k p.0 f)))

    -- so what an insert replaces is the value of the key, where no other key has its hash
    pub lookup-free : (k : K) (ps : List (K × V)) → ((q : K) (w : V) → first_hashed hash (hash k) ps ≡ Some (q, w) → eq q k ≡ true)
        → option_map (λ p. p.1) (first_hashed hash (hash k) ps) ≡ lookup (eq k) ps
    lookup-free k ps free = by (first_hashed hash (hash k) ps) refl
      where
        by : (r : Option (K × V)) → first_hashed hash (hash k) ps ≡ r → option_map (λ p. p.1) (first_hashed hash (hash k) ps) ≡ lookup (eq k) ps
        by None e = ap (option_map (λ p. p.1)) e ∙ sym (lookup-none k ps e)
        by (Some r) e = ap (option_map (λ p. p.1)) e ∙ sym (lookup-held k r.0 r.1 ps e (free r.0 r.1 e))

  -- what is found by a hash has that hash
  pub first_hashed-hash : (h : ℕ) (q : K) (v : V) (ps : List (K × V)) → first_hashed hash h ps ≡ Some (q, v) → hash q ≡ h
  first_hashed-hash h q v [] e = cc
  first_hashed-hash h q v (p ∷ ps) e = by (first_hashed-hash h q v ps) (h == hash p.0) refl
    where
      by : (first_hashed hash h ps ≡ Some (q, v) → hash q ≡ h) → (d : Bool) → (h == hash p.0) ≡ d → hash q ≡ h
      by rest true f =
          let s : Some p ≡ Some (q, v) = sym (yes (Some p) (first_hashed hash h ps) f) ∙ e in
          let e0 : p.0 ≡ q = cc in
          sym (eqb-true h (hash p.0) f ∙ ap hash e0)
      by rest false f = rest (sym (no (Some p) (first_hashed hash h ps) f) ∙ e)

  -- and its key is in the list
  pub first_hashed-Contains : (h : ℕ) (q : K) (v : V) (ps : List (K × V)) → first_hashed hash h ps ≡ Some (q, v) → Contains (keys_of ps) q
  first_hashed-Contains h q v [] e = cc
  first_hashed-Contains h q v (p ∷ ps) e = by (first_hashed-Contains h q v ps) (h == hash p.0) refl
    where
      by : (first_hashed hash h ps ≡ Some (q, v) → Contains (keys_of ps) q) → (d : Bool) → (h == hash p.0) ≡ d → Contains (keys_of (p ∷ ps)) q
      by rest true f =
          let s : Some p ≡ Some (q, v) = sym (yes (Some p) (first_hashed hash h ps) f) ∙ e in
          let e0 : p.0 ≡ q = cc in
          (0, omega arith, e0)
      by rest false f = Contains-append_right (p.0 ∷ []) (keys_of ps) q (rest (sym (no (Some p) (first_hashed hash h ps) f) ∙ e))

  -- where the hashes are distinct, each key is found by its hash
  pub first_hashed-at : (ps : List (K × V)) (q : K) (i : ℕ) → IsDistinct nat_eq (map hash (keys_of ps)) → i < length ps → get_or (keys_of ps) i q ≡ q → (w : V) × (first_hashed hash (hash q) ps ≡ Some (q, w))
  first_hashed-at [] q i u l e = absurd (omega arith)
  first_hashed-at (p ∷ ps) q zero u l e = (p.1, yes (Some p) (first_hashed hash (hash q) ps) (eq-eqb (hash q) (hash p.0) (ap hash (sym e))) ∙ (λ j. Some (e j, p.1)))
  first_hashed-at (p ∷ ps) q (suc i) u l e =
      let r = first_hashed-at ps q i (IsDistinct-tail nat_eq (hash p.0) (map hash (keys_of ps)) u) (omega arith) e in
      let long : length (map hash (keys_of ps)) ≡ length ps = length-map (keys_of ps) hash ∙ length-map ps (λ (x : K × V). x.0) in
      let there : get_or (map hash (keys_of ps)) i (hash q) ≡ hash q = get_or-map hash (keys_of ps) i q ∙ ap hash e in
      let apart = apart_from_distinct nat_eq (map hash (keys_of (p ∷ ps))) 0 (suc i) (hash q) u (omega arith) (omega (arith, long)) in
      (r.0, no (Some p) (first_hashed hash (hash q) ps) (nat_eq-turned (hash p.0) (hash q) (ap (nat_eq (hash p.0)) (sym there) ∙ apart)) ∙ r.1)

  -- where no other key has the hash of k, a key with that hash is k
  pub free-same : (eq : K → K → Bool) (ps : List (K × V)) (k q : K) → IsDistinct nat_eq (map hash (keys_of ps)) → ((q : K) (w : V) → first_hashed hash (hash k) ps ≡ Some (q, w) → eq q k ≡ true)
      → Contains (keys_of ps) q → hash q ≡ hash k → eq q k ≡ true
  free-same eq ps k q u free there e =
      let r = first_hashed-at ps q there.0 u (omega (arith, there.1, length-map ps (λ (x : K × V). x.0))) there.2 in
      free q r.0 (ap (λ h. first_hashed hash h ps) (sym e) ∙ r.1)

  -- slots that are pairs behind their hashes, with distinct hashes
  pub behind-hashed : (slots : List (ℕ × (K × V))) (qs : List (K × V)) → slots ≡ hashed hash qs → slots ≡ hashed hash (map (λ e. e.1) slots)
  behind-hashed slots qs e = e ∙ ap (hashed hash) (sym (ap (map (λ e. e.1)) e ∙ pairs-hashed qs))

  pub apart-hashed : (slots : List (ℕ × (K × V))) → slots ≡ hashed hash (map (λ e. e.1) slots) → IsDistinct nat_eq (keys_of slots) → IsDistinct nat_eq (map hash (keys_of (map (λ e. e.1) slots)))
  apart-hashed slots e u = subst (IsDistinct nat_eq) (ap keys_of e ∙ keys-hashed (map (λ e. e.1) slots)) u

pub on_err : {A E : Type 0} {P : Type 0} (r : Result A E) → P → OnErr r P
on_err (Ok x) p = tt
on_err (Err e) p = p
