-- Declarations of which some take the places of those of equal keys, and others go last.
use Rattle.std.proofs.Common.{◌≡◌, Bool, true, false, cond, List, [], ◌∷◌, ◌++◌, Option, None, Some, is_some, is_none, refl, sym, ap, subst, true≢false, ◌∙◌}
use Rattle.std.specs.Iterator.{Yields}
use Rattle.std.specs.List.{AllByRecursion, Contains}
use Rattle.std.specs.Map.{keys_of}
use Rattle.std.specs.Prelude.{Result, Ok, Err, OnOk, OnErr}
use Rattle.std.specs.Vec.Iter.{into_iter_items, into_iter_steps}
use Rattle.std.specs.declared.vec.IntoIter.{IntoIter}
use Rattle.rhd_hash.specs.declared.key.Key.{Key}
use Rattle.rhd_hash.specs.declared.mixer.Seeds.{Seeds}
use Rattle.rhd_hash.specs.declared.fault.TableFault.{TableFault}
use Rattle.rhd_hash.specs.declared.fault.TableFault.TheVariants.{Clash, OutOfMemory}
use Rattle.rhd_hash.specs.Keys.{key_eq}
use Rattle.rhd_hash.specs.Refusal.{IsRefusal}
use Rattle.rhd_hash.specs.Table.{Clashes}
use Rattle.rhd_decl.specs.Collisions.{collision}
use Rattle.rhd_decl.specs.declared.declaration.Declaration.{Declaration}
use Rattle.rhd_decl.specs.declared.fault.DeclFault.{DeclFault}
use Rattle.rhd_table.specs.declared.native_index.NativeIndex.{NativeIndex}
use Rattle.rhd_table.specs.Indexed.{IsClash}
use Rattle.rhd_table.specs.Pairs.{put_all, put, Pairs}
use Rattle.rhd_table.specs.NativeIndex.{IsIndex}
use Rattle.rhd_table.proofs.Lookups.{first, first_put}
use Rattle.rhd_table.proofs.Places.{index_put_there}
use Rattle.rhd_table.proofs.Puts.{there, kept}
use Rattle.std.proofs.Common.{◌||◌}
use Rattle.std.specs.List.{list_any}
use Rattle.rhd_table.proofs.Kept.{any_put}

-- what a list has given, and what is left of it
pub taken_front : {X A : Type 0} (start : IntoIter X A) (done : List X) (last : IntoIter X A) → Yields into_iter_steps start done last → into_iter_items start ≡ done ++ into_iter_items last
taken_front start [] last gave = ap into_iter_items gave
taken_front start (x ∷ done) last gave = gave.1.0 ∙ ap (λ xs. x ∷ xs) (taken_front gave.0 done last gave.2)

holds_behind : {X : Type 0} (P : X → Type 0) (front later : List X) (x : X) → AllByRecursion P (front ++ x ∷ later) → P x
holds_behind P [] later x h = h.0
holds_behind P (y ∷ front) later x h = holds_behind P front later x h.1

pub holds_at : {X : Type 0} (P : X → Type 0) (front later all : List X) (x : X) → all ≡ front ++ x ∷ later → AllByRecursion P all → P x
holds_at P front later all x is h = holds_behind P front later x (subst (AllByRecursion P) is h)

-- what a table's refusal is
pub refusal_clash : (s : Seeds) (ps : Pairs) (k : Key) (d : Declaration) (clash : TableFault) (fault : DeclFault) → fault ≡ collision clash → IsRefusal {V = Declaration} (record { seeds = s; pairs = ps }) k clash → IsClash s (keys_of (put k d ps)) fault
refusal_clash s ps k d clash fault is why = subst (IsClash s (keys_of (put k d ps))) (sym is) (by clash why)
  where
    by : (clash : TableFault) → IsRefusal {V = Declaration} (record { seeds = s; pairs = ps }) k clash → IsClash s (keys_of (put k d ps)) (collision clash)
    by (Clash held other) (same, stands, clashes) = record {
      held_there = kept k held d ps stands;
      new_there = subst (λ (q : Key). Contains (keys_of (put k d ps)) q) (sym same) (there k d ps);
      clash = subst (λ (q : Key). Clashes s held q) (sym same) clashes;
    }
    by OutOfMemory why = tt

-- what is refused for what isn't there is done where it is there
pub surely : {A : Type 0} (r : Result A DeclFault) (o : Option Declaration) (Q : Type 0) → OnOk r Q → OnErr r (o ≡ None) → is_some o ≡ true → Q
surely (Ok a) o Q done none there = done
surely (Err f) o Q done none there = absurd (true≢false (sym there ∙ ap is_some none))

-- a key that isn't in front goes behind it
pub put_behind : (k : Key) (d : Declaration) (old more : Pairs) → first k old ≡ None → put k d (old ++ more) ≡ old ++ put k d more
put_behind k d [] more none = refl
put_behind k d (p ∷ old) more none = by (key_eq k p.0) refl none (put_behind k d old more)
  where
    by : (b : Bool) → key_eq k p.0 ≡ b → cond b (Some p.1) (first k old) ≡ None → (first k old ≡ None → put k d (old ++ more) ≡ old ++ put k d more) → cond b ((p.0, d) ∷ (old ++ more)) (p ∷ put k d (old ++ more)) ≡ p ∷ (old ++ put k d more)
    by true s h ih = absurd (true≢false (ap is_some h))
    by false s h ih = ap (λ (ps : Pairs). p ∷ ps) (ih h)

-- what is there stays there
pub still_there : (k q : Key) (d : Declaration) (x : Pairs) → is_some (first k x) ≡ true → is_some (first k (put q d x)) ≡ true
still_there k q d x h = ap is_some (first_put k q d x) ∙ by (key_eq k q) (first k x) h
  where
    by : (b : Bool) (o : Option Declaration) → is_some o ≡ true → is_some (cond b (Some d) o) ≡ true
    by true o h = refl
    by false o h = h

pub still_all : (k : Key) (ps x : Pairs) → is_some (first k x) ≡ true → is_some (first k (put_all ps x)) ≡ true
still_all k [] x h = h
still_all k (p ∷ ps) x h = still_all k ps (put p.0 p.1 x) (still_there k p.0 p.1 x h)

pub all_still : (there ps x : Pairs) → AllByRecursion (λ p. is_some (first p.0 x) ≡ true) there → AllByRecursion (λ p. is_some (first p.0 (put_all ps x)) ≡ true) there
all_still [] ps x h = tt
all_still (p ∷ there) ps x h = (still_all p.0 ps x h.0, all_still there ps x h.1)

pub none_is : {A : Type 0} (o : Option A) → is_some o ≡ true → is_none o ≡ false
none_is None h = absurd (true≢false (sym h))
none_is (Some x) h = refl

-- an index stays the index
pub index_all : (natives : NativeIndex) (seeds : Seeds) (ps x : Pairs) → IsIndex natives seeds x → AllByRecursion (λ p. is_some (first p.0 x) ≡ true) ps → IsIndex natives seeds (put_all ps x)
index_all natives seeds [] x index h = index
index_all natives seeds (p ∷ ps) x index h = index_all natives seeds ps (put p.0 p.1 x) (index_put_there natives seeds p.0 p.1 x index (none_is (first p.0 x) h.0)) (all_still ps (p ∷ []) x h.1)

or_assoc : (a b c : Bool) → ((a || b) || c) ≡ (a || (b || c))
or_assoc true b c = refl
or_assoc false b c = refl

or_false : (a : Bool) → (a || false) ≡ a
or_false true = refl
or_false false = refl

-- a test of keys
pub any_all : (test : Key → Bool) (ps x : Pairs) → list_any (λ p. test p.0) (put_all ps x) ≡ (list_any (λ p. test p.0) x || list_any (λ p. test p.0) ps)
any_all test [] x = sym (or_false (list_any (λ p. test p.0) x))
any_all test (p ∷ ps) x = any_all test ps (put p.0 p.1 x) ∙ ap (λ b. b || list_any (λ q. test q.0) ps) (any_put test p.0 p.1 x) ∙ or_assoc (list_any (λ q. test q.0) x) (test p.0) (list_any (λ q. test q.0) ps)
