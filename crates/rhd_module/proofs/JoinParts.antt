-- What one module puts into another, one thing after the other.
use Rattle.std.proofs.Common.{◌≡◌, ◌||◌, ℕ, Bool, true, false, cond, List, [], ◌∷◌, ◌++◌, map, reverse, is_some, arith, true≢false, ◌+◌, ◌≤◌, refl, sym, ap, subst, append_assoc, append-nil, ◌∙◌}
use Rattle.std.specs.BTreeMap.{insert_entry}
use Rattle.std.specs.Cmp.Lexicographic.{slice_cmp}
use Rattle.std.specs.Map.{keys_of}
use Rattle.std.specs.Ordering.{nat_cmp}
use Rattle.std.specs.Prelude.{Result, Ok, Err, IsErr, IsErrAnd}
use Rattle.std.specs.declared.rc.Rc.{Rc}
use Rattle.std.specs.List.{filter, list_any, IsDistinct, AllByRecursion, Contains}
use Rattle.std.proofs.lemmas.List.Elements.{filter-append, Contains-append_left, Contains-append_right}
use Rattle.std.proofs.lemmas.List.{map-append, reverse-append}
use Rattle.rhd_value.specs.Tree.{Bytes}
use Rattle.rhd_hash.specs.declared.key.Key.{Key}
use Rattle.rhd_hash.specs.declared.mixer.Seeds.{Seeds}
use Rattle.rhd_hash.specs.Filter.{is_marked}
use Rattle.rhd_hash.specs.Keys.{key_eq}
use Rattle.rhd_hash.specs.Table.{HasOwnHashes}
use Rattle.rhd_decl.specs.declared.declaration.Declaration.{Declaration}
use Rattle.rhd_decl.specs.declared.fault.DeclFault.{DeclFault}
use Rattle.rhd_decl.specs.declared.fault.DeclFault.TheVariants.{HashCollision, IndexerNotAllowed, NotCallable, UnknownNumber, OutOfMemory}
use Rattle.rhd_manifest.specs.Entry.{Entry, entry_pair}
use Rattle.rhd_manifest.specs.Listing.{listed_in}
use Rattle.rhd_manifest.proofs.Firsts.{listed_append, listed_last}
use Rattle.rhd_module.specs.Algebra.{SomeClash, Joins, IsJoined, put_subs, new_subs, over, over_all, flattened_with, Passes, merge_subs, merged_with, merged_all, rebuilt}
use Rattle.rhd_module.specs.Contents.{put_sub, find_sub}
use Rattle.rhd_table.specs.Marks.{may_be_dynamic, lists_dynamic}
use Rattle.rhd_table.specs.Indexed.{IsClash}
use Rattle.rhd_module.specs.Index.{IsFilter}
use Rattle.rhd_table.specs.Pairs.{put_back, put_all, put, Pairs}
use Rattle.rhd_module.specs.Tree.{ModuleTree, Lists, Subs, no_subs, sub, subs_of, depth, empty_module}
use Rattle.rhd_map.specs.Puts.{put_entries}
use Rattle.rhd_module.proofs.SubModules.{subs_put}
use Rattle.rhd_table.proofs.Puts.{put_next, distinct_own}
use Rattle.rhd_table.proofs.Registers.{all_append, all_keeps, clash_all}
use Rattle.rhd_module.proofs.Registers.{back_append, clash_back}
use Rattle.rhd_table.proofs.Filled.{has_key, clash_among}
use Rattle.rhd_module.proofs.LazyParts.{all_append as all_by}

-- Sub-modules as they stand in a map.
abbrev behind : Subs → Subs → Subs
behind no_subs more = more
behind (sub name own below later) more = sub name own below (behind later more)

behind_none : (s : Subs) → behind s no_subs ≡ s
behind_none no_subs = refl
behind_none (sub name own below later) = ap (sub name own below) (behind_none later)

new_behind : (held s more : Subs) → new_subs held (behind s more) ≡ behind (new_subs held s) (new_subs held more)
new_behind held no_subs more = refl
new_behind held (sub name own below later) more = by (is_some (find_sub name held)) (new_behind held later more)
  where
    by : (b : Bool) → new_subs held (behind later more) ≡ behind (new_subs held later) (new_subs held more)
        → cond b (new_subs held (behind later more)) (sub name own below (new_subs held (behind later more))) ≡ behind (cond b (new_subs held later) (sub name own below (new_subs held later))) (new_subs held more)
    by true ih = ih
    by false ih = ap (sub name own below) ih

module _ {Z : Type 0} where
  abbrev alone : Bytes × Rc ModuleTree Z → Subs
  alone x = sub x.0 x.1.value.own x.1.value.subs no_subs

  behind_of : (xs : List (Bytes × Rc ModuleTree Z)) (x : Bytes × Rc ModuleTree Z) → subs_of (xs ++ x ∷ []) ≡ behind (subs_of xs) (alone x)
  behind_of [] x = refl
  behind_of (y ∷ xs) x = ap (sub y.0 y.1.value.own y.1.value.subs) (behind_of xs x)

  -- one sub-module more
  pub subs_last : (xs ys : List (Bytes × Rc ModuleTree Z)) (x y : Bytes × Rc ModuleTree Z) → subs_of xs ≡ subs_of ys → x.0 ≡ y.0 → x.1.value ≡ y.1.value → subs_of (xs ++ x ∷ []) ≡ subs_of (ys ++ y ∷ [])
  subs_last xs ys x y is name child = behind_of xs x ∙ (λ i. behind (is i) (sub (name i) (child i).own (child i).subs no_subs)) ∙ sym (behind_of ys y)

  pub new_last : (held : Subs) (xs front : List (Bytes × Rc ModuleTree Z)) (x y : Bytes × Rc ModuleTree Z) → subs_of xs ≡ new_subs held (subs_of front) → x.0 ≡ y.0 → x.1.value ≡ y.1.value → is_some (find_sub y.0 held) ≡ false
      → subs_of (xs ++ x ∷ []) ≡ new_subs held (subs_of (front ++ y ∷ []))
  new_last held xs front x y is name child new =
      behind_of xs x ∙ (λ i. behind (is i) (sub (name i) (child i).own (child i).subs no_subs)) ∙ (λ i. behind (new_subs held (subs_of front)) (cond (sym new i) no_subs (alone y)))
      ∙ sym (new_behind held (subs_of front) (alone y)) ∙ sym (ap (new_subs held) (behind_of front y))

  pub new_left : (held : Subs) (xs front : List (Bytes × Rc ModuleTree Z)) (y : Bytes × Rc ModuleTree Z) → subs_of xs ≡ new_subs held (subs_of front) → is_some (find_sub y.0 held) ≡ true → subs_of xs ≡ new_subs held (subs_of (front ++ y ∷ []))
  new_left held xs front y is there =
      is ∙ sym (behind_none (new_subs held (subs_of front))) ∙ (λ i. behind (new_subs held (subs_of front)) (cond (sym there i) no_subs (alone y)))
      ∙ sym (new_behind held (subs_of front) (alone y)) ∙ sym (ap (new_subs held) (behind_of front y))

  -- all of a list put in
  pub subs_put_all : (ps es : List (Bytes × Rc ModuleTree Z)) → subs_of (put_entries ps es) ≡ put_subs (subs_of ps) (subs_of es)
  subs_put_all [] es = refl
  subs_put_all (p ∷ ps) es = subs_put_all ps (insert_entry (slice_cmp nat_cmp) es p.0 p.1) ∙ ap (put_subs (subs_of ps)) (subs_put es p.0 p.1)

-- declarations of distinct keys that are put in one after the other go last
put_apart : (ps front : Pairs) → IsDistinct key_eq (keys_of (front ++ ps)) → put_all ps front ≡ front ++ ps
put_apart [] front distinct = sym (append-nil front)
put_apart (p ∷ ps) front distinct =
    let next : put p.0 p.1 front ≡ front ++ p ∷ [] = put_next p.0 p.1 front ps distinct in
    let D : Pairs → Type 0 = λ qs. IsDistinct key_eq (keys_of qs) in
    ap (λ qs. put_all ps qs) next ∙ put_apart ps (front ++ p ∷ []) (subst D (sym (append_assoc front (p ∷ []) ps)) distinct) ∙ append_assoc front (p ∷ []) ps

all_filter : (test : Key × Declaration → Bool) (P : Key → Type 0) (ps : Pairs) → AllByRecursion P (keys_of ps) → AllByRecursion P (keys_of (filter test ps))
all_filter test P [] all = tt
all_filter test P (p ∷ ps) all = by (test p) (all_filter test P ps all.1)
  where
    by : (b : Bool) → AllByRecursion P (keys_of (filter test ps)) → AllByRecursion P (keys_of (cond b (p ∷ filter test ps) (filter test ps)))
    by true more = (all.0, more)
    by false more = more

distinct_filter : (test : Key × Declaration → Bool) (ps : Pairs) → IsDistinct key_eq (keys_of ps) → IsDistinct key_eq (keys_of (filter test ps))
unfolding IsDistinct
distinct_filter test [] distinct = tt
distinct_filter test (p ∷ ps) distinct = by (test p) (all_filter test (λ k. key_eq p.0 k ≡ false) ps distinct.0) (distinct_filter test ps distinct.1)
  where
    by : (b : Bool) → AllByRecursion (λ k. key_eq p.0 k ≡ false) (keys_of (filter test ps)) → IsDistinct key_eq (keys_of (filter test ps)) → IsDistinct key_eq (keys_of (cond b (p ∷ filter test ps) (filter test ps)))
    by true others more = (others, more)
    by false others more = more

-- those of a module that pass, put into an empty one, are these
pub kept_alone : (test : Key × Declaration → Bool) (s : Seeds) (ps : Pairs) → HasOwnHashes s (keys_of ps) → put_all (filter test ps) [] ≡ filter test ps
kept_alone test s ps own = put_apart (filter test ps) [] (distinct_filter test ps (distinct_own s (keys_of ps) own))

-- Declarations that pass a test, one after the other.
module _ (test : Key × Declaration → Bool) where
  passing_next : (front : Pairs) (p : Key × Declaration) (ps : Pairs) → put_all (filter test (front ++ p ∷ [])) ps ≡ put_all (filter test (p ∷ [])) (put_all (filter test front) ps)
  passing_next front p ps = ap (λ qs. put_all qs ps) (filter-append test front (p ∷ [])) ∙ all_append (filter test front) (filter test (p ∷ [])) ps

  pub passed_next : (front : Pairs) (p : Key × Declaration) (ps : Pairs) → put_all (filter test (p ∷ [])) (put_all (filter test front) ps) ≡ put_all (filter test (front ++ p ∷ [])) ps
  passed_next front p ps = sym (passing_next front p ps)

  whole_passed : (front later all : Pairs) (p : Key × Declaration) (ps : Pairs) → all ≡ front ++ p ∷ later → put_all (filter test later) (put_all (filter test (front ++ p ∷ [])) ps) ≡ put_all (filter test all) ps
  whole_passed front later all p ps is =
      sym (all_append (filter test (front ++ p ∷ [])) (filter test later) ps) ∙ ap (λ qs. put_all qs ps) (sym (filter-append test (front ++ p ∷ []) later)) ∙ ap (λ qs. put_all (filter test qs) ps) (append_assoc front (p ∷ []) later ∙ sym is)

  pub clash_passed : (s : Seeds) (front later all : Pairs) (p : Key × Declaration) (ps : Pairs) (fault : DeclFault) → all ≡ front ++ p ∷ later
      → IsClash s (keys_of (put_all (filter test (p ∷ [])) (put_all (filter test front) ps))) fault → IsClash s (keys_of (put_all (filter test all) ps)) fault
  clash_passed s front later all p ps fault is c =
      let P : Pairs → Type 0 = λ qs. IsClash s (keys_of qs) fault in
      subst P (whole_passed front later all p ps is) (clash_all s (filter test later) (put_all (filter test (front ++ p ∷ [])) ps) fault (subst P (passed_next front p ps) c))

  back_split : (xs ys ps : Pairs) → put_back (filter test (xs ++ ys)) ps ≡ put_back (filter test xs) (put_back (filter test ys) ps)
  back_split xs ys ps = ap (λ qs. put_back qs ps) (filter-append test xs ys) ∙ back_append (filter test xs) (filter test ys) ps

  -- listed functions, one after the other
  module _ (seeds : Seeds) where
    abbrev pairs : List Entry → Pairs
    pairs es = map (entry_pair seeds) es

    pub entry_next : (front : List Entry) (e : Entry) (ps : Pairs) → put_back (filter test (pairs (e ∷ []))) (put_back (filter test (pairs (reverse front))) ps) ≡ put_back (filter test (pairs (reverse (front ++ e ∷ [])))) ps
    entry_next front e ps = sym (ap (λ es. put_back (filter test (pairs es)) ps) (reverse-append front (e ∷ [])) ∙ back_split (pairs (e ∷ [])) (pairs (reverse front)) ps)

    pub clash_entry : (front later es : List Entry) (e : Entry) (ps : Pairs) (fault : DeclFault) → es ≡ front ++ e ∷ later
        → IsClash seeds (keys_of (put_back (filter test (pairs (e ∷ []))) (put_back (filter test (pairs (reverse front))) ps))) fault → IsClash seeds (keys_of (put_back (filter test (pairs (reverse es))) ps)) fault
    clash_entry front later es e ps fault is c =
        let P : Pairs → Type 0 = λ qs. IsClash seeds (keys_of qs) fault in
        let here = put_back (filter test (pairs (reverse (front ++ e ∷ [])))) ps in
        let parts : reverse es ≡ reverse later ++ reverse (front ++ e ∷ []) = ap reverse (is ∙ sym (append_assoc front (e ∷ []) later)) ∙ reverse-append (front ++ e ∷ []) later in
        let whole : put_back (filter test (pairs (reverse es))) ps ≡ put_back (filter test (pairs (reverse later))) here =
        ap (λ xs. put_back (filter test (pairs xs)) ps) parts ∙ ap (λ xs. put_back (filter test xs) ps) (map-append (entry_pair seeds) (reverse later) (reverse (front ++ e ∷ [])))
        ∙ back_split (pairs (reverse later)) (pairs (reverse (front ++ e ∷ []))) ps in
        subst P (sym whole) (clash_back seeds (filter test (pairs (reverse later))) here fault (subst P (entry_next front e ps) c))

    module _ {Z : Type 0} where
      pub part_next : (front : List (Rc (List Entry) Z)) (x : Rc (List Entry) Z) (ps : Pairs)
          → put_back (filter test (pairs (reverse x.value))) (put_back (filter test (pairs (listed_in front))) ps) ≡ put_back (filter test (pairs (listed_in (front ++ x ∷ [])))) ps
      part_next front x ps =
          sym (ap (λ es. put_back (filter test (pairs es)) ps) (listed_last front x) ∙ ap (λ xs. put_back (filter test xs) ps) (map-append (entry_pair seeds) (reverse x.value) (listed_in front))
          ∙ back_split (pairs (reverse x.value)) (pairs (listed_in front)) ps)

      pub clash_part : (front later all : List (Rc (List Entry) Z)) (x : Rc (List Entry) Z) (ps : Pairs) (fault : DeclFault) → all ≡ front ++ x ∷ later
          → IsClash seeds (keys_of (put_back (filter test (pairs (reverse x.value))) (put_back (filter test (pairs (listed_in front))) ps))) fault → IsClash seeds (keys_of (put_back (filter test (pairs (listed_in all))) ps)) fault
      clash_part front later all x ps fault is c =
          let P : Pairs → Type 0 = λ qs. IsClash seeds (keys_of qs) fault in
          let here = put_back (filter test (pairs (listed_in (front ++ x ∷ [])))) ps in
          let parts : listed_in all ≡ listed_in later ++ listed_in (front ++ x ∷ []) = ap listed_in (is ∙ sym (append_assoc front (x ∷ []) later)) ∙ listed_append (front ++ x ∷ []) later in
          let whole : put_back (filter test (pairs (listed_in all))) ps ≡ put_back (filter test (pairs (listed_in later))) here =
          ap (λ xs. put_back (filter test (pairs xs)) ps) parts ∙ ap (λ xs. put_back (filter test xs) ps) (map-append (entry_pair seeds) (listed_in later) (listed_in (front ++ x ∷ [])))
          ∙ back_split (pairs (listed_in later)) (pairs (listed_in (front ++ x ∷ []))) ps in
          subst P (sym whole) (clash_back seeds (filter test (pairs (listed_in later))) here fault (subst P (part_next front x ps) c))

-- Modules put over one after the other.
pub over_seeds : (subs : Subs) (own : Lists) → (over_all subs own).seeds ≡ own.seeds
over_seeds no_subs own = refl
over_seeds (sub name other below later) own = over_seeds later (over other (over_all below own)) ∙ over_seeds below own

over_keeps : (subs : Subs) (own : Lists) (q : Key) → has_key q (keys_of own.eager) ≡ true → has_key q (keys_of (over_all subs own).eager) ≡ true
over_keeps no_subs own q h = h
over_keeps (sub name other below later) own q h = over_keeps later (over other (over_all below own)) q (all_keeps other.eager (over_all below own).eager q (over_keeps below own q h))

all_parts : (P : ModuleTree → Type 0) (xs ys : List ModuleTree) → AllByRecursion P (xs ++ ys) → AllByRecursion P xs × AllByRecursion P ys
all_parts P [] ys all = (tt, all)
all_parts P (x ∷ xs) ys all = let parts = all_parts P xs ys all.1 in ((all.0, parts.0), parts.1)

-- a clash in one of some modules is one in one of more
pub clash_in : (ms ns : List ModuleTree) (fault : DeclFault) → ((t : ModuleTree) → Contains ms t → Contains ns t) → SomeClash ms fault → SomeClash ns fault
clash_in ms ns (HashCollision held new) more (m, there, clash) = (m, more m there, clash)
clash_in ms ns (IndexerNotAllowed key) more c = c
clash_in ms ns NotCallable more c = c
clash_in ms ns (UnknownNumber n l) more c = c
clash_in ms ns OutOfMemory more c = c

pub clash_first : (m : ModuleTree) (ms : List ModuleTree) (fault : DeclFault) → IsClash m.own.seeds (keys_of m.own.eager) fault → SomeClash (m ∷ ms) fault
clash_first m ms (HashCollision held new) c = (m, (0, omega arith, refl), c)
clash_first m ms (IndexerNotAllowed key) c = c
clash_first m ms NotCallable c = c
clash_first m ms (UnknownNumber n l) c = c
clash_first m ms OutOfMemory c = tt

or_assoc : (a b c : Bool) → ((a || b) || c) ≡ (a || (b || c))
or_assoc true b c = refl
or_assoc false b c = refl

-- the filter of a module that lists besides what another one lists, which is marked
pub filters_listed : (marks more : List ℕ) (own : Lists) (listed others : List Entry) → IsFilter marks own → ((v : ℕ) → is_marked 8 more v ≡ (is_marked 8 marks v || lists_dynamic own.seeds v others))
    → ((v : ℕ) → lists_dynamic own.seeds v listed ≡ (lists_dynamic own.seeds v own.listed || lists_dynamic own.seeds v others)) → (v : ℕ) → is_marked 8 more v ≡ (list_any (λ p. may_be_dynamic own.seeds v p.0) own.eager || lists_dynamic own.seeds v listed)
filters_listed marks more own listed others is marked all v =
    let declared : Bool = list_any (λ p. may_be_dynamic own.seeds v p.0) own.eager in
    marked v ∙ ap (λ b. b || lists_dynamic own.seeds v others) (is v) ∙ or_assoc declared (lists_dynamic own.seeds v own.listed) (lists_dynamic own.seeds v others) ∙ ap (λ b. declared || b) (sym (all v))

-- what refuses a join
pub refused_join : {A : Type 0} (r : Result A DeclFault) (e : DeclFault) (changed : List ModuleTree) (done old : ModuleTree) → IsErr r × IsErrAnd r (λ f. f ≡ e) → SomeClash changed e → Joins changed done old r old
refused_join (Ok a) e changed done old h c = absurd (true≢false (sym h.0))
refused_join (Err f) e changed done old h c = (subst (SomeClash changed) (sym h.1) c, refl)

pub refused_copy : (r : Result ModuleTree DeclFault) (e : DeclFault) (changed : List ModuleTree) (done : ModuleTree) → IsErr r × IsErrAnd r (λ f. f ≡ e) → SomeClash changed e → IsJoined changed done r
refused_copy (Ok a) e changed done h c = absurd (true≢false (sym h.0))
refused_copy (Err f) e changed done h c = subst (SomeClash changed) (sym h.1) c

module _ {Z : Type 0} where
  over_split : (front later : List (Bytes × Rc ModuleTree Z)) (own : Lists) → over_all (subs_of (front ++ later)) own ≡ over_all (subs_of later) (over_all (subs_of front) own)
  over_split [] later own = refl
  over_split (f ∷ front) later own = over_split front later (over f.1.value.own (over_all f.1.value.subs own))

  -- one sub-module more, with all below it
  pub over_next : (front : List (Bytes × Rc ModuleTree Z)) (x : Bytes × Rc ModuleTree Z) (m : ModuleTree)
      → flattened_with x.1.value (record m { own = over_all (subs_of front) m.own }) ≡ record m { own = over_all (subs_of (front ++ x ∷ [])) m.own }
  over_next [] x m = refl
  over_next (f ∷ front) x m = over_next front x (record m { own = over f.1.value.own (over_all f.1.value.subs m.own) })

  -- a clash below is one of all
  pub clash_over : (s : Seeds) (front later all : List (Bytes × Rc ModuleTree Z)) (x : Bytes × Rc ModuleTree Z) (other : Lists) (m : ModuleTree) (fault : DeclFault) → all ≡ front ++ x ∷ later
      → IsClash s (keys_of (flattened_with x.1.value (record m { own = over_all (subs_of front) m.own })).own.eager) fault → IsClash s (keys_of (over other (over_all (subs_of all) m.own)).eager) fault
  clash_over s front later all x other m fault is c =
      let here : Lists = over_all (subs_of (front ++ x ∷ [])) m.own in
      let whole : over_all (subs_of all) m.own ≡ over_all (subs_of later) here =
      ap (λ (es : List (Bytes × Rc ModuleTree Z)). over_all (subs_of es) m.own) (is ∙ sym (append_assoc front (x ∷ []) later)) ∙ over_split (front ++ x ∷ []) later m.own in
      let at : IsClash s (keys_of here.eager) fault = subst (λ (t : ModuleTree). IsClash s (keys_of t.own.eager) fault) (over_next front x m) c in
      let below : IsClash s (keys_of (over_all (subs_of later) here).eager) fault = clash_among s s (keys_of here.eager) (keys_of (over_all (subs_of later) here).eager) fault refl (over_keeps (subs_of later) here) at in
      subst (λ (own : Lists). IsClash s (keys_of (over other own).eager) fault) (sym whole) (clash_all s other.eager (over_all (subs_of later) here).eager fault below)

  -- a sub-module goes less deep than the module
  pub depth_at : (front later : List (Bytes × Rc ModuleTree Z)) (x : Bytes × Rc ModuleTree Z) → depth x.1.value.subs + 1 ≤ depth (subs_of (front ++ x ∷ later))
  depth_at [] later x = omega arith
  depth_at (f ∷ front) later x = omega (arith, depth_at front later x)

  merged_next : (tells : Passes) (s : Seeds) (front : List (Bytes × Rc ModuleTree Z)) (x : Bytes × Rc ModuleTree Z) (held : Subs)
      → put_sub x.0 (merged_with tells x.1.value (empty_module s)) (merge_subs tells s (subs_of front) held) ≡ merge_subs tells s (subs_of (front ++ x ∷ [])) held
  merged_next tells s [] x held = refl
  merged_next tells s (f ∷ front) x held = merged_next tells s front x (put_sub f.0 (merged_with tells f.1.value (empty_module s)) held)

  pub merged_more : (tells : Passes) (s : Seeds) (front : List (Bytes × Rc ModuleTree Z)) (x : Bytes × Rc ModuleTree Z) (v : ModuleTree) (held : Subs) → v ≡ merged_with tells x.1.value (empty_module s)
      → put_sub x.0 v (merge_subs tells s (subs_of front) held) ≡ merge_subs tells s (subs_of (front ++ x ∷ [])) held
  merged_more tells s front x v held is = ap (λ (u : ModuleTree). put_sub x.0 u (merge_subs tells s (subs_of front) held)) is ∙ merged_next tells s front x held

  -- what holds of all rebuilt ones
  pub rebuilt_more : (P : ModuleTree → Type 0) (tells : Passes) (s : Seeds) (front : List (Bytes × Rc ModuleTree Z)) (x : Bytes × Rc ModuleTree Z) → AllByRecursion P (rebuilt tells s (subs_of front)) → AllByRecursion P (merged_all tells x.1.value (empty_module s))
      → AllByRecursion P (rebuilt tells s (subs_of (front ++ x ∷ [])))
  rebuilt_more P tells s [] x all more = (more.0, all_by P (rebuilt tells s x.1.value.subs) [] more.1 tt)
  rebuilt_more P tells s (f ∷ front) x all more =
      let below = rebuilt tells s f.1.value.subs in
      let parts = all_parts P below (rebuilt tells s (subs_of front)) all.1 in
      (all.0, all_by P below (rebuilt tells s (subs_of (front ++ x ∷ []))) parts.0 (rebuilt_more P tells s front x parts.1 more))

  -- those of one sub-module are among those of all
  pub rebuilt_at : (tells : Passes) (s : Seeds) (front later : List (Bytes × Rc ModuleTree Z)) (x : Bytes × Rc ModuleTree Z) (t : ModuleTree) → Contains (merged_all tells x.1.value (empty_module s)) t → Contains (rebuilt tells s (subs_of (front ++ x ∷ later))) t
  rebuilt_at tells s [] later x t h = Contains-append_left (merged_all tells x.1.value (empty_module s)) (rebuilt tells s (subs_of later)) t h
  rebuilt_at tells s (f ∷ front) later x t h = Contains-append_right (merged_all tells f.1.value (empty_module s)) (rebuilt tells s (subs_of (front ++ x ∷ later))) t (rebuilt_at tells s front later x t h)
