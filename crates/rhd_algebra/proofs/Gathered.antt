-- What another module has, gathered in an empty module: this, combined with a module, is what joining the other with it gives.
use Rattle.std.proofs.Common.{◌≡◌, zero, suc, false, List, [], ◌∷◌, map, arith, refl, sym, ap, subst, append_assoc, append-nil, ◌∙◌, Result, Ok, Err}
use Rattle.std.proofs.lemmas.List.Elements.{Contains-append_left, Contains-append_right}
use Rattle.std.specs.Cmp.Lexicographic.{slice_cmp}
use Rattle.std.specs.List.{Contains, AllByRecursion}
use Rattle.std.specs.List.Sorted.{IsStrictlySortedBy}
use Rattle.std.specs.Map.{keys_of}
use Rattle.std.specs.Ordering.{nat_cmp}
use Rattle.rhd_value.specs.Tree.{Bytes}
use Rattle.rhd_hash.specs.declared.mixer.Seeds.{Seeds}
use Rattle.rhd_decl.specs.declared.fault.DeclFault.{DeclFault}
use Rattle.rhd_decl.specs.declared.fault.DeclFault.TheVariants.{HashCollision, IndexerNotAllowed, NotCallable, UnknownNumber, OutOfMemory}
use Rattle.rhd_manifest.specs.Entry.{entry_pair}
use Rattle.rhd_module.specs.Algebra.{joined_doc, put_subs, over, over_all, combined_with, flattened_with, Passes, that_pass, registered_over, merged_own, merge_subs, merged_with, merged_all, rebuilt, SomeClash, HasOwnTable, Joins, Combines, Flattens, Merges}
use Rattle.rhd_module.specs.Contents.{with_doc}
use Rattle.rhd_table.specs.Indexed.{IsClash}
use Rattle.rhd_table.specs.Pairs.{put_back, put_all, Pairs}
use Rattle.rhd_module.specs.Tree.{ModuleTree, Lists, Subs, no_subs, sub, empty_module}
use Rattle.rhd_module.proofs.JoinLaws.{all_through, back_through, vars_through, vars_sorted, subs_through}
use Rattle.rhd_module.proofs.JoinParts.{clash_first, clash_in}
use Rattle.rhd_module.proofs.Registers.{clash_put}
use Rattle.rhd_module.proofs.SamePairs.{Alone, alone_back, alone_all}

none_sorted : IsStrictlySortedBy (slice_cmp nat_cmp) []
unfolding IsStrictlySortedBy
none_sorted = tt

-- Merging.
module _ (passes : Passes) where
  -- the new modules of the sub-modules of another one, under their names
  abbrev made_subs : Seeds → Subs → Subs
  made_subs seeds no_subs = no_subs
  made_subs seeds (sub name own below later) = sub name (merged_own passes own (empty_module seeds).own) (merge_subs passes seeds below no_subs) (made_subs seeds later)

  subs_made : (seeds : Seeds) (others held : Subs) → merge_subs passes seeds others held ≡ put_subs (made_subs seeds others) held
  subs_made seeds no_subs held = refl
  subs_made seeds (sub name own below later) held = subs_made seeds later (put_subs (sub name (merged_own passes own (empty_module seeds).own) (merge_subs passes seeds below no_subs) no_subs) held)

  subs_gathered : (seeds : Seeds) (others held : Subs) → put_subs (merge_subs passes seeds others no_subs) held ≡ merge_subs passes seeds others held
  subs_gathered seeds others held =
      ap (λ (made : Subs). put_subs made held) (subs_made seeds others no_subs) ∙ sym (subs_through (made_subs seeds others) no_subs held none_sorted) ∙ sym (subs_made seeds others held)

  registered_gathered : (other own : Lists) → put_all (registered_over passes other (empty_module own.seeds).own) own.eager ≡ registered_over passes other own
  registered_gathered other own =
      let listed : Pairs = that_pass passes (map (entry_pair own.seeds) other.listed) in
      let declared : Pairs = that_pass passes other.eager in
      sym (all_through declared (put_back listed []) own.eager (alone_back listed [] tt)) ∙ ap (put_all declared) (back_through listed own.eager)

  module _ (other m : ModuleTree) where
    abbrev gathered : ModuleTree
    gathered = merged_with passes other (empty_module m.own.seeds)

    pub merged_gathered : combined_with (merged_with passes other (empty_module m.own.seeds)) m ≡ merged_with passes other m
    merged_gathered = λ i. record {
      own = record m.own {
        doc = joined_doc m.own.doc other.own.doc;
        vars = sym (vars_through other.own.vars [] m.own.vars none_sorted) i;
        eager = registered_gathered other.own m.own i;
        manifests = append-nil m.own.manifests i;
        indexed = false;
      };
      subs = subs_gathered m.own.seeds other.subs m.subs i;
    }

    -- a clash in what is gathered is one in what is joined
    pub merged_clash : (fault : DeclFault) → SomeClash (merged_all passes other (empty_module m.own.seeds)) fault → SomeClash (merged_all passes other m) fault
    merged_clash fault c =
        let new : List ModuleTree = rebuilt passes m.own.seeds other.subs in
        subst (λ (t : ModuleTree). SomeClash (t ∷ new) fault) merged_gathered (by fault c)
      where
        head : (fault : DeclFault) → IsClash m.own.seeds (keys_of gathered.own.eager) fault → SomeClash (combined_with gathered m ∷ rebuilt passes m.own.seeds other.subs) fault
        head fault c = clash_first (combined_with gathered m) (rebuilt passes m.own.seeds other.subs) fault (clash_put m.own.seeds gathered.own.eager m.own.eager fault c)

        by : (fault : DeclFault) → SomeClash (gathered ∷ rebuilt passes m.own.seeds other.subs) fault → SomeClash (combined_with gathered m ∷ rebuilt passes m.own.seeds other.subs) fault
        by (HashCollision held new) (t, (zero, within, is), clash) = head (HashCollision held new) (subst (λ (u : ModuleTree). IsClash u.own.seeds (keys_of u.own.eager) (HashCollision held new)) (sym is) clash)
        by (HashCollision held new) (t, (suc k, within, is), clash) =
            let there : Contains (rebuilt passes m.own.seeds other.subs) t = (k, omega (arith, within), is) in
            (t, Contains-append_right (combined_with gathered m ∷ []) (rebuilt passes m.own.seeds other.subs) t there, clash)
        by (IndexerNotAllowed key) c = c
        by NotCallable c = c
        by (UnknownNumber n l) c = c
        by OutOfMemory c = c

    -- so what combining it answers is what merging answers
    pub merged_joins : {A : Type 0} (made new : ModuleTree) (r : Result A DeclFault) → made ≡ merged_with passes other (empty_module m.own.seeds) → AllByRecursion HasOwnTable (merged_all passes other (empty_module m.own.seeds))
        → Combines made m r new → Merges passes other m r new
    merged_joins made new r is tables joins = by r (subst (λ (t : ModuleTree). Joins (t ∷ []) t m r new) (ap (λ (t : ModuleTree). combined_with t m) is ∙ merged_gathered) joins)
      where
        by : {A : Type 0} (r : Result A DeclFault) → Joins (merged_with passes other m ∷ []) (merged_with passes other m) m r new → Merges passes other m r new
        by (Ok a) h = ((h.0.0, tables.1), h.1)
        by (Err fault) h = (clash_in (merged_with passes other m ∷ []) (merged_all passes other m) fault (λ t there. Contains-append_left (merged_with passes other m ∷ []) (rebuilt passes m.own.seeds other.subs) t there) h.0, h.1)

-- Flattening.
-- keys that differ, and variables in order
abbrev IsReady : Lists → Type 0
IsReady own = Alone own.eager × IsStrictlySortedBy (slice_cmp nat_cmp) (keys_of own.vars)

ready_over : (other own : Lists) → IsReady own → IsReady (over other own)
ready_over other own ready = (alone_all other.eager own.eager ready.0, vars_sorted other.vars own.vars ready.1)

ready_all : (others : Subs) (own : Lists) → IsReady own → IsReady (over_all others own)
ready_all no_subs own ready = ready
ready_all (sub name other below later) own ready = ready_all later (over other (over_all below own)) (ready_over other (over_all below own) (ready_all below own ready))

-- the lists of a module over those of one whose documentation they already have
abbrev over_same : Lists → Lists → Lists
over_same made own = record (over made own) { doc = made.doc }

abbrev unindexed : Lists → Lists
unindexed own = record own { indexed = false }

over_gathered : (other made own done : Lists) → IsReady made → over_same made own ≡ unindexed done → over_same (over other made) own ≡ over other done
over_gathered other made own done ready is =
    let later : over_same (over other made) own ≡ over other (over_same made own) = λ i. record own {
      doc = joined_doc made.doc other.doc;
      vars = sym (vars_through other.vars made.vars own.vars ready.1) i;
      eager = sym (all_through other.eager made.eager own.eager ready.0) i;
      manifests = sym (append_assoc own.manifests made.manifests other.manifests) i;
      listed = append_assoc other.listed made.listed own.listed i;
      indexed = false;
    } in
    later ∙ ap (over other) is

all_gathered : (others : Subs) (made own done : Lists) → IsReady made → over_same made own ≡ unindexed done → over_same (over_all others made) own ≡ unindexed (over_all others done)
all_gathered no_subs made own done ready is = is
all_gathered (sub name other below later) made own done ready is =
    let under : Lists = over_all below made in
    all_gathered later (over other under) own (over other (over_all below done)) (ready_over other under (ready_all below made ready))
    (over_gathered other under own (over_all below done) (ready_all below made ready) (all_gathered below made own done ready is))

module _ (other m : ModuleTree) where
  abbrev gathered_flat : ModuleTree
  gathered_flat = flattened_with other (with_doc m.own.doc (empty_module m.own.seeds))

  pub flattened_gathered : let made : ModuleTree = flattened_with other (with_doc m.own.doc (empty_module m.own.seeds)) in
      let joined : ModuleTree = record { own = record (over made.own m.own) { doc = made.own.doc }; subs = put_subs made.subs m.subs } in joined ≡ flattened_with other m
  flattened_gathered =
      let base : Lists = (with_doc m.own.doc (empty_module m.own.seeds)).own in
      let ready : IsReady base = (tt, none_sorted) in
      let start : over_same base m.own ≡ unindexed m.own = λ i. record m.own { manifests = append-nil m.own.manifests i; indexed = false } in
      let whole : over_same (over other.own (over_all other.subs base)) m.own ≡ over other.own (over_all other.subs m.own) =
      over_gathered other.own (over_all other.subs base) m.own (over_all other.subs m.own) (ready_all other.subs base ready) (all_gathered other.subs base m.own m.own ready start) in
      λ i. record m { own = whole i }

  pub flattened_clash : (fault : DeclFault) → IsClash m.own.seeds (keys_of (flattened_with other (with_doc m.own.doc (empty_module m.own.seeds))).own.eager) fault → SomeClash (flattened_with other m ∷ []) fault
  flattened_clash fault c =
      let joined : ModuleTree = record { own = record (over gathered_flat.own m.own) { doc = gathered_flat.own.doc }; subs = put_subs gathered_flat.subs m.subs } in
      subst (λ (t : ModuleTree). SomeClash (t ∷ []) fault) flattened_gathered (clash_first joined [] fault (clash_put m.own.seeds gathered_flat.own.eager m.own.eager fault c))

  -- so what combining it answers is what flattening answers
  pub flattened_joins : {A : Type 0} (made new : ModuleTree) (doc : Bytes) (r : Result A DeclFault) → made ≡ flattened_with other (with_doc m.own.doc (empty_module m.own.seeds)) → doc ≡ made.own.doc
      → Joins (with_doc doc (combined_with made m) ∷ []) (with_doc doc (combined_with made m)) m r new → Flattens other m r new
  flattened_joins made new doc r is same joins =
      let done : with_doc doc (combined_with made m) ≡ flattened_with other m = (λ i. with_doc ((same ∙ ap (λ (t : ModuleTree). t.own.doc) is) i) (combined_with (is i) m)) ∙ flattened_gathered in
      subst (λ (t : ModuleTree). Joins (t ∷ []) t m r new) done joins
