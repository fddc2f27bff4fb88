-- Declarations that are put in one after the other: what stands then, and which keys.
use Rattle.std.proofs.Common.{◌≡◌, Bool, true, false, true≢false, ◌||◌, List, [], ◌∷◌, ◌++◌, map, reverse, refl, sym, ap, subst, append_assoc, ◌∙◌}
use Rattle.std.specs.List.{Contains}
use Rattle.std.specs.Map.{keys_of}
use Rattle.std.specs.declared.rc.Rc.{Rc}
use Rattle.std.proofs.lemmas.List.{map-append, reverse-append}
use Rattle.rhd_hash.specs.declared.key.Key.{Key}
use Rattle.rhd_hash.specs.declared.mixer.Seeds.{Seeds}
use Rattle.rhd_hash.specs.Keys.{key_eq, key_eq-Decides}
use Rattle.rhd_decl.specs.declared.fault.DeclFault.{DeclFault}
use Rattle.rhd_table.specs.Pairs.{Pairs, put, put_back, put_all}
use Rattle.rhd_table.specs.Indexed.{IsClash}
use Rattle.rhd_manifest.specs.Entry.{Entry, entry_pair}
use Rattle.rhd_manifest.specs.Listing.{listed_in}
use Rattle.rhd_manifest.proofs.Firsts.{listed_append, listed_last}
use Rattle.rhd_table.proofs.Puts.{there}
use Rattle.rhd_table.proofs.Filled.{has_key, is_held, clash_among}
use Rattle.rhd_table.proofs.Registers.{all_keeps, still}

pub back_append : (xs ys ps : Pairs) → put_back (xs ++ ys) ps ≡ put_back xs (put_back ys ps)
back_append [] ys ps = refl
back_append (x ∷ xs) ys ps = ap (put x.0 x.1) (back_append xs ys ps)

-- no key is lost
pub back_keeps : (xs ps : Pairs) (q : Key) → has_key q (keys_of ps) ≡ true → has_key q (keys_of (put_back xs ps)) ≡ true
back_keeps [] ps q h = h
back_keeps (x ∷ xs) ps q h = still x.0 x.1 q (put_back xs ps) (back_keeps xs ps q h)

-- each key that is put in is there
pub all_put : (xs ps : Pairs) (q : Key) → has_key q (keys_of xs) ≡ true → has_key q (keys_of (put_all xs ps)) ≡ true
all_put [] ps q h = absurd (true≢false (sym h))
all_put (x ∷ xs) ps q h = by (key_eq q x.0) refl h (all_put xs (put x.0 x.1 ps) q)
  where
    now : Pairs
    now = put x.0 x.1 ps

    by : (b : Bool) → key_eq q x.0 ≡ b → (b || has_key q (keys_of xs)) ≡ true → (has_key q (keys_of xs) ≡ true → has_key q (keys_of (put_all xs now)) ≡ true) → has_key q (keys_of (put_all xs now)) ≡ true
    by true s h ih =
        let here : Contains (keys_of now) q = subst (λ (k : Key). Contains (keys_of now) k) (sym ((key_eq-Decides q x.0).0 s)) (there x.0 x.1 ps) in
        all_keeps xs now q (is_held (keys_of now) q here)
    by false s h ih = ih h

-- a clash of some is one once they are put in
pub clash_put : (s : Seeds) (xs ps : Pairs) (fault : DeclFault) → IsClash s (keys_of xs) fault → IsClash s (keys_of (put_all xs ps)) fault
clash_put s xs ps fault c = clash_among s s (keys_of xs) (keys_of (put_all xs ps)) fault refl (all_put xs ps) c

-- a clash of some stays one once more are put in
pub clash_back : (s : Seeds) (xs ps : Pairs) (fault : DeclFault) → IsClash s (keys_of ps) fault → IsClash s (keys_of (put_back xs ps)) fault
clash_back s xs ps fault c = clash_among s s (keys_of ps) (keys_of (put_back xs ps)) fault refl (back_keeps xs ps) c

-- One listed function after the other.
module _ (seeds : Seeds) where
  abbrev pairs : List Entry → Pairs
  pairs es = map (entry_pair seeds) es

  back_entry : (front later : List Entry) (e : Entry) (ps : Pairs) → put_back (pairs (reverse (front ++ e ∷ later))) ps ≡ put_back (pairs (reverse later)) (put_back (pairs (e ∷ [])) (put_back (pairs (reverse front)) ps))
  back_entry front later e ps =
      ap (λ es. put_back (pairs es) ps) (reverse-append front (e ∷ later)) ∙ ap (λ qs. put_back qs ps) (map-append (entry_pair seeds) (reverse (e ∷ later)) (reverse front)) ∙ back_append (pairs (reverse (e ∷ later))) (pairs (reverse front)) ps
      ∙ ap (λ qs. put_back qs (put_back (pairs (reverse front)) ps)) (ap pairs (reverse-append (e ∷ []) later) ∙ map-append (entry_pair seeds) (reverse later) (e ∷ []))
      ∙ back_append (pairs (reverse later)) (pairs (e ∷ [])) (put_back (pairs (reverse front)) ps)

  pub clash_at_entry : (front later es : List Entry) (e : Entry) (ps : Pairs) (fault : DeclFault) → es ≡ front ++ e ∷ later → IsClash seeds (keys_of (put_back (pairs (e ∷ [])) (put_back (pairs (reverse front)) ps))) fault
      → IsClash seeds (keys_of (put_back (pairs (reverse es)) ps)) fault
  clash_at_entry front later es e ps fault is c =
      subst (λ (qs : Pairs). IsClash seeds (keys_of qs) fault) (sym (ap (λ xs. put_back (pairs (reverse xs)) ps) is ∙ back_entry front later e ps))
      (clash_back seeds (pairs (reverse later)) (put_back (pairs (e ∷ [])) (put_back (pairs (reverse front)) ps)) fault c)

  module _ {Z : Type 0} where
    pub back_part : (front : List (Rc (List Entry) Z)) (x : Rc (List Entry) Z) (ps : Pairs) → put_back (pairs (listed_in (front ++ x ∷ []))) ps ≡ put_back (pairs (reverse x.value)) (put_back (pairs (listed_in front)) ps)
    back_part front x ps =
        ap (λ es. put_back (pairs es) ps) (listed_last front x) ∙ ap (λ qs. put_back qs ps) (map-append (entry_pair seeds) (reverse x.value) (listed_in front)) ∙ back_append (pairs (reverse x.value)) (pairs (listed_in front)) ps

    pub clash_at_part : (front later all : List (Rc (List Entry) Z)) (x : Rc (List Entry) Z) (ps : Pairs) (fault : DeclFault) → all ≡ front ++ x ∷ later → IsClash seeds (keys_of (put_back (pairs (reverse x.value)) (put_back (pairs (listed_in front)) ps))) fault
        → IsClash seeds (keys_of (put_back (pairs (listed_in all)) ps)) fault
    clash_at_part front later all x ps fault is c =
        let one : put_back (pairs (listed_in (front ++ x ∷ []))) ps ≡ put_back (pairs (reverse x.value)) (put_back (pairs (listed_in front)) ps) = back_part front x ps in
        let whole : put_back (pairs (listed_in all)) ps ≡ put_back (pairs (listed_in later)) (put_back (pairs (listed_in (front ++ x ∷ []))) ps) =
        ap (λ xs. put_back (pairs (listed_in xs)) ps) (is ∙ sym (append_assoc front (x ∷ []) later)) ∙ ap (λ es. put_back (pairs es) ps) (listed_append (front ++ x ∷ []) later)
        ∙ ap (λ qs. put_back qs ps) (map-append (entry_pair seeds) (listed_in later) (listed_in (front ++ x ∷ []))) ∙ back_append (pairs (listed_in later)) (pairs (listed_in (front ++ x ∷ []))) ps in
        let P : Pairs → Type 0 = λ qs. IsClash seeds (keys_of qs) fault in
        subst P (sym whole) (clash_back seeds (pairs (listed_in later)) (put_back (pairs (listed_in (front ++ x ∷ []))) ps) fault (subst P (sym one) c))
