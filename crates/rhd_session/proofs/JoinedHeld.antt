-- What two modules hold is all that a module holds in which they are joined.
use Rattle.std.proofs.Common.{◌≡◌, ℕ, Bool, true, false, cond, ◌&&◌, List, ◌++◌, map, refl, ap, ◌∙◌}
use Rattle.std.specs.Prelude.{Result, Ok, Err, nat_lt, is_some}
use Rattle.std.specs.List.{filter}
use Rattle.std.proofs.lemmas.List.Folds.{list_all-append, list_all-map}
use Rattle.rhd_value.specs.Tree.{Bytes}
use Rattle.rhd_hash.specs.declared.key.Key.{Key}
use Rattle.rhd_hash.specs.declared.mixer.Seeds.{Seeds}
use Rattle.rhd_decl.specs.declared.declaration.Declaration.{Declaration}
use Rattle.rhd_decl.specs.declared.fault.DeclFault.{DeclFault}
use Rattle.rhd_manifest.specs.Entry.{Entry, entry_pair}
use Rattle.rhd_module.specs.Algebra.{Passes, Joins, that_pass, registered_over, over, over_all, put_subs, new_subs, fill_subs, merge_subs, merged_own, filled_with}
use Rattle.rhd_module.specs.Contents.{put_sub, find_sub}
use Rattle.rhd_table.specs.Pairs.{put_all, put_back, without, Pairs}
use Rattle.rhd_module.specs.Shown.{shown}
use Rattle.rhd_module.specs.Tree.{ModuleTree, Lists, Subs, no_subs, sub, empty_module}
use Rattle.rhd_engine.specs.Held.{own_held, below_held, names_held}
use Rattle.rhd_layers.proofs.Bools.{both, parts}
use Rattle.rhd_engine.proofs.HeldLaws.{is_held, kept_held, listed_held, pairs_held}
use Rattle.rhd_engine.proofs.HeldLazy.{put_all_held, put_back_held}
use Rattle.rhd_engine.proofs.HeldTrees.{put_sub_held}
use Rattle.rhd_session.specs.declared.joining.Join.{Join}
use Rattle.rhd_session.specs.declared.joining.Join.TheVariants as joins
use Rattle.rhd_session.specs.Changing.{joined_by, all_joined_by}

module _ (n : ℕ) where
  -- Declarations and what is listed.

  passing_held : (kept : Key × Declaration → Bool) (ps : Pairs) → pairs_held n ps ≡ true → pairs_held n (filter kept ps) ≡ true
  passing_held kept ps all = kept_held (λ p. is_held n p.1) kept ps all

  listed_append : (es ds : List Entry) → listed_held n es ≡ true → listed_held n ds ≡ true → listed_held n (es ++ ds) ≡ true
  listed_append es ds h k = list_all-append (λ e. nat_lt e.func.0 n) es ds ∙ both (listed_held n es) (listed_held n ds) h k

  own_parts : (own : Lists) → own_held n own ≡ true → (pairs_held n own.eager ≡ true) × (listed_held n own.listed ≡ true)
  own_parts own all = parts (pairs_held n own.eager) (listed_held n own.listed) all

  over_held : (other own : Lists) → own_held n other ≡ true → own_held n own ≡ true → own_held n (over other own) ≡ true
  over_held other own h all =
      let o = own_parts other h in
      let p = own_parts own all in
      both (pairs_held n (put_all other.eager own.eager)) (listed_held n (other.listed ++ own.listed)) (put_all_held n other.eager own.eager o.0 p.0) (listed_append other.listed own.listed o.1 p.1)

  merged_own_held : (passes : Passes) (other own : Lists) → own_held n other ≡ true → own_held n own ≡ true → own_held n (merged_own passes other own) ≡ true
  merged_own_held passes other own h all =
      let o = own_parts other h in
      let p = own_parts own all in
      let listed = map (entry_pair own.seeds) other.listed in
      let lazily : pairs_held n listed ≡ true = list_all-map (λ q. is_held n q.1) (entry_pair own.seeds) other.listed ∙ o.1 in
      let below = put_back_held n (that_pass passes listed) own.eager (passing_held (λ q. passes q.1) listed lazily) p.0 in
      both (pairs_held n (registered_over passes other own)) (listed_held n own.listed) (put_all_held n (that_pass passes other.eager) (put_back (that_pass passes listed) own.eager) (passing_held (λ q. passes q.1) other.eager o.0) below) p.1

  -- Sub-modules.

  -- the first of some sub-modules, and the others
  first_held : (name : Bytes) (own : Lists) (inner later : Subs) → below_held n (sub name own inner later) ≡ true → (own_held n own ≡ true) × (below_held n inner ≡ true) × (below_held n later ≡ true)
  first_held name own inner later all =
      let p = parts (own_held n own) (below_held n inner && below_held n later) all in
      let q = parts (below_held n inner) (below_held n later) p.1 in
      (p.0, q.0, q.1)

  put_subs_held : (others held : Subs) → below_held n others ≡ true → below_held n held ≡ true → below_held n (put_subs others held) ≡ true
  put_subs_held no_subs held h all = all
  put_subs_held (sub name own inner later) held h all =
      let p = first_held name own inner later h in put_subs_held later (put_sub name (record { own = own; subs = inner }) held) p.2 (put_sub_held n name (record { own = own; subs = inner }) held (both (own_held n own) (below_held n inner) p.0 p.1) all)

  over_all_held : (others : Subs) (own : Lists) → below_held n others ≡ true → own_held n own ≡ true → own_held n (over_all others own) ≡ true
  over_all_held no_subs own h all = all
  over_all_held (sub name other inner later) own h all =
      let p = first_held name other inner later h in over_all_held later (over other (over_all inner own)) p.2 (over_held other (over_all inner own) p.0 (over_all_held inner own p.1 all))

  new_subs_held : (held others : Subs) → below_held n others ≡ true → below_held n (new_subs held others) ≡ true
  new_subs_held held no_subs h = refl
  new_subs_held held (sub name own inner later) h = let p = first_held name own inner later h in by (is_some (find_sub name held)) p.0 p.1 (new_subs_held held later p.2)
    where
      by : (b : Bool) → own_held n own ≡ true → below_held n inner ≡ true → below_held n (new_subs held later) ≡ true → below_held n (cond b (new_subs held later) (sub name own inner (new_subs held later))) ≡ true
      by true here under rest = rest
      by false here under rest = both (own_held n own) (below_held n inner && below_held n (new_subs held later)) here (both (below_held n inner) (below_held n (new_subs held later)) under rest)

  merge_subs_held : (passes : Passes) (seeds : Seeds) (others held : Subs) → below_held n others ≡ true → below_held n held ≡ true → below_held n (merge_subs passes seeds others held) ≡ true
  merge_subs_held passes seeds no_subs held h all = all
  merge_subs_held passes seeds (sub name own inner later) held h all =
      let p = first_held name own inner later h in
      let new = merged_own passes own (empty_module seeds).own in
      let under = merge_subs passes seeds inner no_subs in
      merge_subs_held passes seeds later (put_sub name (record { own = new; subs = under }) held) p.2
      (put_sub_held n name (record { own = new; subs = under }) held
      (both (own_held n new) (below_held n under) (merged_own_held passes own (empty_module seeds).own p.0 refl) (merge_subs_held passes seeds inner no_subs p.1 refl)) all)

  -- Modules.

  module_parts : (m : ModuleTree) → names_held n m ≡ true → (own_held n m.own ≡ true) × (below_held n m.subs ≡ true)
  module_parts m all = parts (own_held n m.own) (below_held n m.subs) all

  filled_own_held : (other m : ModuleTree) → own_held n other.own ≡ true → own_held n m.own ≡ true → own_held n (filled_with other m).own ≡ true
  filled_own_held other m h all =
      let o = own_parts other.own h in
      let p = own_parts m.own all in
      let new = without (shown m.own) other.own.eager in
      both (pairs_held n (put_all new m.own.eager)) (listed_held n (m.own.listed ++ other.own.listed)) (put_all_held n new m.own.eager (passing_held _ other.own.eager o.0) p.0) (listed_append m.own.listed other.own.listed p.1 o.1)

  done_held : (join : Join) (other m : ModuleTree) → names_held n other ≡ true → names_held n m ≡ true → names_held n (joined_by join other m) ≡ true
  done_held joins.Combine other m h all =
      let o = module_parts other h in
      let p = module_parts m all in
      both (own_held n (over other.own m.own)) (below_held n (put_subs other.subs m.subs)) (over_held other.own m.own o.0 p.0) (put_subs_held other.subs m.subs o.1 p.1)
  done_held joins.CombineFlatten other m h all =
      let o = module_parts other h in
      let p = module_parts m all in
      let under = over_all other.subs m.own in
      both (own_held n (over other.own under)) (below_held n m.subs) (over_held other.own under o.0 (over_all_held other.subs m.own o.1 p.0)) p.1
  done_held joins.Fill other m h all =
      let o = module_parts other h in
      let p = module_parts m all in
      both (own_held n (filled_with other m).own) (below_held n (fill_subs other.subs m.subs)) (filled_own_held other m o.0 p.0) (put_subs_held (new_subs m.subs other.subs) m.subs (new_subs_held m.subs other.subs o.1) p.1)
  done_held joins.Merge other m h all =
      let o = module_parts other h in
      let p = module_parts m all in
      let every : Passes = λ d. true in
      both (own_held n (merged_own every other.own m.own)) (below_held n (merge_subs every m.own.seeds other.subs m.subs))
      (merged_own_held every other.own m.own o.0 p.0) (merge_subs_held every m.own.seeds other.subs m.subs o.1 p.1)

  -- whether or not two modules are joined
  pub joined_held : (join : Join) (other old new : ModuleTree) (r : Result (Unit {0}) DeclFault) → Joins (all_joined_by join other old) (joined_by join other old) old r new
      → names_held n other ≡ true → names_held n old ≡ true → names_held n new ≡ true
  joined_held join other old new (Ok u) is h all = ap (names_held n) is.1 ∙ done_held join other old h all
  joined_held join other old new (Err fault) is h all = ap (names_held n) is.1 ∙ all
