-- The places of the keys that pass a test when a place is noted after the others, and when the last is taken out again.
use Rattle.std.proofs.Common.{◌≡◌, ℕ, zero, suc, ◌+◌, ◌-◌, Bool, true, false, cond, nat_eq, List, [], ◌∷◌, ◌++◌, length, take, slice_get, Option, None, Some, refl, sym, ap, append-nil, arith, add-one, eq-eqb, eqb-true, ◌∙◌}
use Rattle.std.specs.Option.{option_map_or}
use Rattle.std.specs.Map.{update}
use Rattle.rhd_hash.specs.declared.key.Key.{Key}
use Rattle.rhd_hash.specs.declared.mixer.Seeds.{Seeds}
use Rattle.rhd_hash.specs.Parts.{dynamic_hash}
use Rattle.rhd_decl.specs.declared.declaration.Declaration.{Declaration}
use Rattle.rhd_table.specs.declared.native_index.NativeIndex.{NativeIndex}
use Rattle.rhd_table.specs.Pairs.{Pairs}
use Rattle.rhd_table.specs.NativeIndex.{is_noted_by, places_from, place_at, but_last, noted, IsIndex}
use Rattle.rhd_table.proofs.Noted.{turned}

-- what is left of a list once its last element is taken
pub take-but_last : (xs : List ℕ) (n : ℕ) → n ≡ length xs → take (n - 1) xs ≡ but_last xs
take-but_last [] n e = ap (λ (i : ℕ). take (i - 1) []) e
take-but_last (a ∷ []) n e = ap (λ (i : ℕ). take (i - 1) (a ∷ [])) e
take-but_last (a ∷ b ∷ more) n e =
    let less : n - 1 ≡ suc (n - 1 - 1) = omega arith in
    let rest : n - 1 ≡ length (b ∷ more) = omega arith in
    ap (λ (i : ℕ). take i (a ∷ b ∷ more)) less ∙ ap (λ (ys : List ℕ). a ∷ ys) (take-but_last (b ∷ more) (n - 1) rest)

but_last-last : (xs : List ℕ) (x : ℕ) → but_last (xs ++ x ∷ []) ≡ xs
but_last-last [] x = refl
but_last-last (a ∷ []) x = refl
but_last-last (a ∷ b ∷ more) x = ap (λ (ys : List ℕ). a ∷ ys) (but_last-last (b ∷ more) x)

module _ {X : Type 0} (items : X → List ℕ) (m n : ℕ → Option X) (hash : ℕ) (w : X) (changes : (other : ℕ) → n other ≡ update nat_eq m hash (Some w) other) where
  one_less_step : items w ≡ but_last (option_map_or items (m hash) []) → (other : ℕ) (same : Bool) → nat_eq other hash ≡ same
      → option_map_or items (n other) [] ≡ cond same (but_last (option_map_or items (m other) [])) (option_map_or items (m other) [])
  one_less_step is other true s =
      let same : other ≡ hash = eqb-true other hash s in
      let back : nat_eq hash other ≡ true = eq-eqb hash other (sym same) in
      let new : n other ≡ Some w = changes other ∙ ap (λ b. cond b (Some w) (m other)) back in
      ap (λ o. option_map_or items o []) new ∙ is ∙ ap (λ t. but_last (option_map_or items (m t) [])) (sym same)
  one_less_step is other false s =
      let new : n other ≡ m other = changes other ∙ ap (λ b. cond b (Some w) (m other)) (turned hash other s) in
      ap (λ o. option_map_or items o []) new

  -- a hash whose list loses its last place
  pub one_less : (was : X) (found : Some was ≡ m hash) (k : ℕ) → k ≡ length (items was) → items w ≡ take (k - 1) (items was) → (other : ℕ)
      → option_map_or items (n other) [] ≡ cond (nat_eq other hash) (but_last (option_map_or items (m other) [])) (option_map_or items (m other) [])
  one_less was found k long is other =
      one_less_step (is ∙ take-but_last (items was) k long ∙ ap (λ (o : Option X). but_last (option_map_or items o [])) found) other (nat_eq other hash) refl

behind : (b : Bool) (n : ℕ) (xs ys : List ℕ) → cond b (n ∷ (xs ++ ys)) (xs ++ ys) ≡ cond b (n ∷ xs) xs ++ ys
behind true n xs ys = refl
behind false n xs ys = refl

places_next : (n m : ℕ) (own : Key → Bool) (ps : Pairs) (p : ℕ) → m ≡ n + p
    → places_from n own (take (suc p) ps) ≡ places_from n own (take p ps) ++ cond (option_map_or (λ q. own q.0) (slice_get ps p) false) (m ∷ []) []
places_next n m own [] zero at = refl
places_next n m own [] (suc p) at = refl
places_next n m own (q ∷ ps) zero at = let same : n ≡ m = omega arith in ap (λ (i : ℕ). cond (own q.0) (i ∷ []) []) same
places_next n m own (q ∷ ps) (suc p) at =
    ap (λ (xs : List ℕ). cond (own q.0) (n ∷ xs) xs) (places_next (n + 1) m own ps p (omega arith))
    ∙ behind (own q.0) n (places_from (n + 1) own (take p ps)) (cond (option_map_or (λ q. own q.0) (slice_get ps p) false) (m ∷ []) [])

-- with one declaration more, its place goes last
pub places_more : (own : Key → Bool) (ps : Pairs) (p : ℕ) → places_from 0 own (take (p + 1) ps) ≡ places_from 0 own (take p ps) ++ place_at own ps p
places_more own ps p = ap (λ (i : ℕ). places_from 0 own (take i ps)) (add-one p) ∙ places_next 0 p own ps p (omega arith)

-- an index of the first declarations that notes the next one's place is that of one more
pub index_more : (old new : NativeIndex) (seeds : Seeds) (ps : Pairs) (p : ℕ) → IsIndex old seeds (take p ps) → ((hash : ℕ) → noted new hash ≡ noted old hash ++ place_at (is_noted_by seeds hash) ps p)
    → IsIndex new seeds (take (p + 1) ps)
index_more old new seeds ps p index notes hash =
    let own : Key → Bool = is_noted_by seeds hash in
    notes hash ∙ ap (λ (xs : List ℕ). xs ++ place_at own ps p) (index hash) ∙ sym (places_more own ps p)

less_step : (xs ys : List ℕ) (p : ℕ) (b : Bool) → xs ≡ ys ++ cond b (p ∷ []) [] → cond b (but_last xs) xs ≡ ys
less_step xs ys p true e = ap but_last e ∙ but_last-last ys p
less_step xs ys p false e = e ∙ append-nil ys

-- an index that takes the last declaration's place out is that of one less
module _ (seeds : Seeds) (ps : Pairs) (p n : ℕ) (last : p + 1 ≡ n) (old : NativeIndex) (index : IsIndex old seeds (take n ps)) where
  index_less : (new : NativeIndex)
      → ((hash : ℕ) → noted new hash ≡ cond (option_map_or (λ q. is_noted_by seeds hash q.0) (slice_get ps p) false) (but_last (noted old hash)) (noted old hash)) → IsIndex new seeds (take p ps)
  index_less new takes hash =
      let own : Key → Bool = is_noted_by seeds hash in
      takes hash
      ∙ less_step (noted old hash) (places_from 0 own (take p ps)) p (option_map_or (λ q. own q.0) (slice_get ps p) false)
      (index hash ∙ ap (λ (i : ℕ). places_from 0 own (take i ps)) (sym last) ∙ places_more own ps p)

  -- where nothing stands at the place
  pub index_less_past : None ≡ slice_get ps p → IsIndex old seeds (take p ps)
  index_less_past at =
      index_less old (λ hash. ap (λ (o : Option (Key × Declaration)). cond (option_map_or (λ q. is_noted_by seeds hash q.0) o false) (but_last (noted old hash)) (noted old hash)) at)

  module _ (k : Key) (d : Declaration) (at : Some (k, d) ≡ slice_get ps p) where
    -- where the key there has no parameter of any type
    pub index_less_other : None ≡ dynamic_hash seeds k → IsIndex old seeds (take p ps)
    index_less_other none =
        index_less old (λ hash.
        ap (λ (o : Option ℕ). cond (option_map_or (nat_eq hash) o false) (but_last (noted old hash)) (noted old hash)) none
        ∙ ap (λ (o : Option (Key × Declaration)). cond (option_map_or (λ q. is_noted_by seeds hash q.0) o false) (but_last (noted old hash)) (noted old hash)) at)

    -- where it has one, and its hash loses a place
    pub index_less_noted : (new : NativeIndex) (own : ℕ) → Some own ≡ dynamic_hash seeds k → ((hash : ℕ) → noted new hash ≡ cond (nat_eq hash own) (but_last (noted old hash)) (noted old hash))
        → IsIndex new seeds (take p ps)
    index_less_noted new own known takes =
        index_less new (λ hash.
        takes hash
        ∙ ap (λ (o : Option ℕ). cond (option_map_or (nat_eq hash) o false) (but_last (noted old hash)) (noted old hash)) known
        ∙ ap (λ (o : Option (Key × Declaration)). cond (option_map_or (λ q. is_noted_by seeds hash q.0) o false) (but_last (noted old hash)) (noted old hash)) at)
