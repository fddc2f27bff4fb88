-- How a declaration is put into a list of them, which keys it has then, and why it is refused.
use Rattle.std.proofs.Common.{◌≡◌, zero, suc, Bool, true, false, cond, List, [], ◌∷◌, ◌++◌, map, nat_eq, arith, Option, None, Some, is_some, is_none, refl, sym, ap, subst, append_assoc, ◌∙◌}
use Rattle.std.specs.List.{AllByRecursion, IsDistinct, Contains}
use Rattle.std.specs.Map.{keys_of}
use Rattle.std.proofs.lemmas.Map.Keys.{IsDistinct-head, IsDistinct-tail}
use Rattle.rhd_hash.specs.declared.key.Key.{Key}
use Rattle.rhd_decl.specs.declared.declaration.Declaration.{Declaration}
use Rattle.rhd_hash.specs.Keys.{key_eq, key_eq-Decides}
use Rattle.rhd_hash.specs.Parts.{mixed}
use Rattle.rhd_hash.specs.declared.mixer.Seeds.{Seeds}
use Rattle.rhd_hash.specs.Table.{HasOwnHashes}
use Rattle.rhd_hash.proofs.Tables.{eq-other}
use Rattle.std.proofs.lemmas.List.Elements.{Contains-append_right}
use Rattle.rhd_table.specs.Pairs.{Pairs, put}

-- a key that isn't the same as another is another than it
turned_step : (a b : Key) (same : Bool) → key_eq a b ≡ same → key_eq b a ≡ false → same ≡ false
turned_step a b true s e = let same : a ≡ b = (key_eq-Decides a b).0 s in let back : key_eq b a ≡ true = (key_eq-Decides b a).1 (sym same) in absurd cc
turned_step a b false s e = refl

turned : (a b : Key) → key_eq b a ≡ false → key_eq a b ≡ false
turned a b e = turned_step a b (key_eq a b) refl e

absent : (k : Key) (d : Declaration) (p : Key × Declaration) (ps : Pairs) (same : Bool) → key_eq k p.0 ≡ same → same ≡ false → put k d (p ∷ ps) ≡ p ∷ put k d ps
absent k d p ps true s e = absurd cc
absent k d p ps false s e = rw s refl

-- a key that is the same as none of the front's goes last
pub put_last : (k : Key) (d : Declaration) (front : Pairs) → AllByRecursion (λ p. key_eq p.0 k ≡ false) front → put k d front ≡ front ++ (k, d) ∷ []
put_last k d [] none = refl
put_last k d (p ∷ ps) none = absent k d p ps (key_eq k p.0) refl (turned k p.0 none.0) ∙ ap (λ (qs : Pairs). p ∷ qs) (put_last k d ps none.1)

among : (k : Key) (d : Declaration) (first : Key) (front rest : Pairs) → AllByRecursion (λ y. key_eq first y ≡ false) (keys_of (front ++ (k, d) ∷ rest)) → key_eq first k ≡ false
among k d first [] rest all = all.0
among k d first (p ∷ ps) rest all = among k d first ps rest all.1

-- the keys of a front of distinct ones are the same as none after it
apart : (k : Key) (d : Declaration) (front rest : Pairs) → IsDistinct key_eq (keys_of (front ++ (k, d) ∷ rest)) → AllByRecursion (λ p. key_eq p.0 k ≡ false) front
apart k d [] rest distinct = tt
apart k d (p ∷ ps) rest distinct =
    let others = keys_of (ps ++ (k, d) ∷ rest) in
    (among k d p.0 ps rest (IsDistinct-head key_eq p.0 others distinct), apart k d ps rest (IsDistinct-tail key_eq p.0 others distinct))

pub put_next : (k : Key) (d : Declaration) (front rest : Pairs) → IsDistinct key_eq (keys_of (front ++ (k, d) ∷ rest)) → put k d front ≡ front ++ (k, d) ∷ []
put_next k d front rest distinct = put_last k d front (apart k d front rest distinct)

-- of distinct declarations put in one after the other, each goes last
pub copied_next : (k : Key) (d : Declaration) (all front now left rest : Pairs) → all ≡ front ++ rest → rest ≡ (k, d) ∷ left → IsDistinct key_eq (keys_of all) → now ≡ put k d front → all ≡ now ++ left
copied_next k d all front now left rest is here distinct puts =
    let whole : all ≡ front ++ (k, d) ∷ left = is ∙ ap (λ (qs : Pairs). front ++ qs) here in
    let last : now ≡ front ++ (k, d) ∷ [] = puts ∙ put_next k d front left (subst (λ (qs : Pairs). IsDistinct key_eq (keys_of qs)) whole distinct) in
    whole ∙ sym (append_assoc front ((k, d) ∷ []) left) ∙ ap (λ (qs : Pairs). qs ++ left) (sym last)

-- keys of hashes of their own are distinct
distinct_others : (seeds : Seeds) (k : Key) (qs : List Key) → AllByRecursion (λ n. nat_eq (mixed seeds k) n ≡ false) (map (mixed seeds) qs) → AllByRecursion (λ q. key_eq k q ≡ false) qs
distinct_others seeds k [] all = tt
distinct_others seeds k (q ∷ qs) all = (eq-other (mixed seeds) key_eq key_eq-Decides k q all.0, distinct_others seeds k qs all.1)

distinct_by_hash : (seeds : Seeds) (ks : List Key) → IsDistinct nat_eq (map (mixed seeds) ks) → IsDistinct key_eq ks
unfolding IsDistinct
distinct_by_hash seeds [] distinct = tt
distinct_by_hash seeds (k ∷ ks) distinct = (distinct_others seeds k ks distinct.0, distinct_by_hash seeds ks distinct.1)

pub distinct_own : (seeds : Seeds) (ks : List Key) → HasOwnHashes seeds ks → IsDistinct key_eq ks
unfolding HasOwnHashes
distinct_own seeds ks own = distinct_by_hash seeds ks own

-- a key that was there is there after a declaration is put, and so is its own
there_step : (k : Key) (d : Declaration) (p : Key × Declaration) (ps : Pairs) (same : Bool) → key_eq k p.0 ≡ same → Contains (keys_of (put k d ps)) k → Contains (keys_of (cond same ((p.0, d) ∷ ps) (p ∷ put k d ps))) k
there_step k d p ps true s ih = (0, omega arith, sym ((key_eq-Decides k p.0).0 s))
there_step k d p ps false s ih = Contains-append_right (p.0 ∷ []) (keys_of (put k d ps)) k ih

pub there : (k : Key) (d : Declaration) (ps : Pairs) → Contains (keys_of (put k d ps)) k
there k d [] = (0, omega arith, refl)
there k d (p ∷ ps) = there_step k d p ps (key_eq k p.0) refl (there k d ps)

kept_step : (k q : Key) (d : Declaration) (p : Key × Declaration) (ps : Pairs) (same : Bool) → key_eq k p.0 ≡ same → (Contains (keys_of ps) q → Contains (keys_of (put k d ps)) q)
    → Contains (p.0 ∷ keys_of ps) q → Contains (keys_of (cond same ((p.0, d) ∷ ps) (p ∷ put k d ps))) q
kept_step k q d p ps true s ih held = held
kept_step k q d p ps false s ih (zero, within, is) = (0, omega arith, is)
kept_step k q d p ps false s ih (suc i, within, is) = Contains-append_right (p.0 ∷ []) (keys_of (put k d ps)) q (ih (i, omega (arith, within), is))

pub kept : (k q : Key) (d : Declaration) (ps : Pairs) → Contains (keys_of ps) q → Contains (keys_of (put k d ps)) q
kept k q d [] (i, within, is) = absurd (omega (arith, within))
kept k q d (p ∷ ps) held = kept_step k q d p ps (key_eq k p.0) refl (kept k q d ps) held

pub is_there : {A : Type 0} (o : Option A) → is_some o ≡ true → is_none o ≡ false
is_there None e = absurd cc
is_there (Some a) e = refl

pub is_absent : {A : Type 0} (o : Option A) → is_some o ≡ false → is_none o ≡ true
is_absent None e = refl
is_absent (Some a) e = absurd cc
