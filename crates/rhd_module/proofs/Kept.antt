-- What a module keeps of its own declarations and of its tree, after a declaration is put or its comments are set.
use Rattle.std.proofs.Common.{◌≡◌, ℕ, ◌&&◌, ◌||◌, not, Bool, true, false, cond, List, [], ◌∷◌, ◌++◌, map, Option, Some, is_none, refl, sym, ap, subst, ◌∙◌}
use Rattle.std.specs.Option.{option_map}
use Rattle.std.specs.List.{list_any, filter}
use Rattle.std.proofs.lemmas.List.Folds.{list_any-append}
use Rattle.std.proofs.lemmas.Grind.{flat_map-append}
use Rattle.std.specs.Map.{lookup, keys_of}
use Rattle.rhd_value.specs.Tree.{Bytes}
use Rattle.rhd_hash.specs.declared.key.Key.{Key}
use Rattle.rhd_hash.specs.declared.mixer.Seeds.{Seeds}
use Rattle.rhd_hash.specs.Keys.{key_eq, with_path, is_typed_key}
use Rattle.rhd_func.specs.declared.func.RhaiFunc.{RhaiFunc}
use Rattle.rhd_func.specs.Access.{is_private, is_global_namespace}
use Rattle.rhd_decl.specs.declared.declaration.Declaration.{Declaration}
use Rattle.rhd_manifest.specs.Entry.{entry_pair}
use Rattle.rhd_manifest.specs.Rank.{firsts}
use Rattle.rhd_module.specs.Tree.{ModuleTree, Lists}
use Rattle.rhd_table.specs.Pairs.{Pairs, without}
use Rattle.rhd_module.specs.Shown.{shown_of, shown}
use Rattle.rhd_table.specs.Found.{commented, comment_on}
use Rattle.rhd_table.specs.Paths.{unpathed, pathed, pairs_at}
use Rattle.rhd_module.specs.Walk.{below, tree}
use Rattle.rhd_module.specs.Below.{some_below, declares_global, declares_dynamic}
use Rattle.rhd_table.specs.Marks.{may_be_dynamic, lists_dynamic}
use Rattle.rhd_table.specs.Indexed.{Indexed, NoneClash}
use Rattle.rhd_module.specs.Index.{IsFilter, IsIndexOf}

-- the functions of declarations
abbrev funcs : Pairs → List (Key × RhaiFunc)
funcs [] = []
funcs (p ∷ ps) = (p.0, p.1.func) ∷ funcs ps

keys_funcs : (ps : Pairs) → keys_of (funcs ps) ≡ keys_of ps
keys_funcs [] = refl
keys_funcs (p ∷ ps) = ap (λ (ks : List Key). p.0 ∷ ks) (keys_funcs ps)

cond_func : (b : Bool) (d : Declaration) (o : Option Declaration) → cond b (Some d.func) (option_map (λ (x : Declaration). x.func) o) ≡ option_map (λ (x : Declaration). x.func) (cond b (Some d) o)
cond_func true d o = refl
cond_func false d o = refl

lookup_funcs : (k : Key) (ps : Pairs) → lookup (key_eq k) (funcs ps) ≡ option_map (λ (x : Declaration). x.func) (lookup (key_eq k) ps)
lookup_funcs k [] = refl
lookup_funcs k (p ∷ ps) = ap (λ (o : Option RhaiFunc). cond (key_eq k p.0) (Some p.1.func) o) (lookup_funcs k ps) ∙ cond_func (key_eq k p.0) p.1 (lookup (key_eq k) ps)

funcs_append : (xs ys : Pairs) → funcs (xs ++ ys) ≡ funcs xs ++ funcs ys
funcs_append [] ys = refl
funcs_append (x ∷ xs) ys = ap (λ (fs : List (Key × RhaiFunc)). (x.0, x.1.func) ∷ fs) (funcs_append xs ys)

module _ (k : Key) (comments : List Bytes) where
  either : (b : Bool) (q : Key) (d : Declaration) → funcs (cond b ((q, commented comments d) ∷ []) []) ≡ funcs (cond b ((q, d) ∷ []) [])
  either true q d = refl
  either false q d = refl

  neither : (b : Bool) (q : Key) (d : Declaration) → funcs (cond b [] ((q, commented comments d) ∷ [])) ≡ funcs (cond b [] ((q, d) ∷ []))
  neither true q d = refl
  neither false q d = refl

  one_commented : (path : List Bytes) (p : Key × Declaration) → funcs (unpathed (p.0, commented comments p.1) ++ pathed path (p.0, commented comments p.1)) ≡ funcs (unpathed p ++ pathed path p)
  one_commented path p =
      funcs_append (unpathed (p.0, commented comments p.1)) (pathed path (p.0, commented comments p.1))
      ∙ (λ i. either (is_global_namespace p.1.metadata.namespace && (not (is_private p.1.metadata.access) || is_typed_key p.0)) p.0 p.1 i ++ neither (is_private p.1.metadata.access) (with_path path p.0) p.1 i)
      ∙ sym (funcs_append (unpathed p) (pathed path p))

  pairs_step : (path : List Bytes) (p : Key × Declaration) (ps : Pairs) (same : Bool) → funcs (pairs_at path (comment_on k comments ps)) ≡ funcs (pairs_at path ps)
      → funcs (pairs_at path (cond same ((p.0, commented comments p.1) ∷ ps) (p ∷ comment_on k comments ps))) ≡ funcs (pairs_at path (p ∷ ps))
  pairs_step path p ps true ih =
      funcs_append (unpathed (p.0, commented comments p.1) ++ pathed path (p.0, commented comments p.1)) (pairs_at path ps)
      ∙ ap (λ (fs : List (Key × RhaiFunc)). fs ++ funcs (pairs_at path ps)) (one_commented path p)
      ∙ sym (funcs_append (unpathed p ++ pathed path p) (pairs_at path ps))
  pairs_step path p ps false ih =
      funcs_append (unpathed p ++ pathed path p) (pairs_at path (comment_on k comments ps))
      ∙ ap (λ (fs : List (Key × RhaiFunc)). funcs (unpathed p ++ pathed path p) ++ fs) ih
      ∙ sym (funcs_append (unpathed p ++ pathed path p) (pairs_at path ps))

  -- comments change no function of the pairs of a module
  pairs_commented : (path : List Bytes) (ps : Pairs) → funcs (pairs_at path (comment_on k comments ps)) ≡ funcs (pairs_at path ps)
  pairs_commented path [] = refl
  pairs_commented path (p ∷ ps) = pairs_step path p ps (key_eq k p.0) (pairs_commented path ps)

  any_step : (test : Key × Declaration → Bool) → ((p : Key × Declaration) → test (p.0, commented comments p.1) ≡ test p) → (p : Key × Declaration) (ps : Pairs) (same : Bool)
      → list_any test (comment_on k comments ps) ≡ list_any test ps → list_any test (cond same ((p.0, commented comments p.1) ∷ ps) (p ∷ comment_on k comments ps)) ≡ (test p || list_any test ps)
  any_step test still p ps true ih = ap (λ (b : Bool). b || list_any test ps) (still p)
  any_step test still p ps false ih = ap (λ (b : Bool). test p || b) ih

  any_commented : (test : Key × Declaration → Bool) → ((p : Key × Declaration) → test (p.0, commented comments p.1) ≡ test p) → (ps : Pairs) → list_any test (comment_on k comments ps) ≡ list_any test ps
  any_commented test still [] = refl
  any_commented test still (p ∷ ps) = any_step test still p ps (key_eq k p.0) (any_commented test still ps)

  -- what is hidden stays so
  hidden_commented : (q : Key) (ps : Pairs) → is_none (lookup (key_eq q) (comment_on k comments ps)) ≡ is_none (lookup (key_eq q) ps)
  hidden_commented q [] = refl
  hidden_commented q (p ∷ ps) = by (key_eq k p.0) (hidden_commented q ps)
    where
      alike : (b : Bool) (d e : Declaration) (o r : Option Declaration) → is_none o ≡ is_none r → is_none (cond b (Some d) o) ≡ is_none (cond b (Some e) r)
      alike true d e o r ih = refl
      alike false d e o r ih = ih

      by : (same : Bool) → is_none (lookup (key_eq q) (comment_on k comments ps)) ≡ is_none (lookup (key_eq q) ps)
          → is_none (lookup (key_eq q) (cond same ((p.0, commented comments p.1) ∷ ps) (p ∷ comment_on k comments ps))) ≡ is_none (lookup (key_eq q) (p ∷ ps))
      by true ih = alike (key_eq q p.0) (commented comments p.1) p.1 (lookup (key_eq q) ps) (lookup (key_eq q) ps) refl
      by false ih = alike (key_eq q p.0) p.1 p.1 (lookup (key_eq q) (comment_on k comments ps)) (lookup (key_eq q) ps) ih

  without_commented : (eager ps : Pairs) → without (comment_on k comments eager) ps ≡ without eager ps
  without_commented eager ps = ap (λ (test : Key × Declaration → Bool). filter test ps) (λ i p. hidden_commented p.0 eager i)

  shown_commented : (old new : Lists) → new.eager ≡ comment_on k comments old.eager → new.seeds ≡ old.seeds → new.listed ≡ old.listed
      → shown new ≡ comment_on k comments old.eager ++ without old.eager (map (entry_pair old.seeds) (firsts old.listed))
  shown_commented old new is same listed =
      (λ i. shown_of (same i) (is i) (listed i)) ∙ ap (λ ps. comment_on k comments old.eager ++ ps) (without_commented old.eager (map (entry_pair old.seeds) (firsts old.listed)))

  any_shown_commented : (test : Key × Declaration → Bool) → ((p : Key × Declaration) → test (p.0, commented comments p.1) ≡ test p) → (old new : Lists) → new.eager ≡ comment_on k comments old.eager → new.seeds ≡ old.seeds → new.listed ≡ old.listed
      → list_any test (shown new) ≡ list_any test (shown old)
  any_shown_commented test still old new is same listed =
      let others = without old.eager (map (entry_pair old.seeds) (firsts old.listed)) in
      ap (list_any test) (shown_commented old new is same listed) ∙ list_any-append test (comment_on k comments old.eager) others ∙ ap (λ b. b || list_any test others) (any_commented test still old.eager) ∙ sym (list_any-append test old.eager others)

  dynamic_commented : (v : ℕ) (old new : Lists) → new.eager ≡ comment_on k comments old.eager → new.seeds ≡ old.seeds → new.listed ≡ old.listed → declares_dynamic new.seeds v new ≡ declares_dynamic old.seeds v old
  dynamic_commented v old new is same listed =
      ap (λ (s : Seeds). declares_dynamic s v new) same ∙ any_shown_commented (λ p. may_be_dynamic old.seeds v p.0) (λ p. refl) old new is same listed

  global_commented : (old new : Lists) → new.eager ≡ comment_on k comments old.eager → new.seeds ≡ old.seeds → new.listed ≡ old.listed → declares_global new ≡ declares_global old
  global_commented old new is same listed = any_shown_commented (λ p. is_global_namespace p.1.metadata.namespace) (λ p. refl) old new is same listed

  pub filter_commented : (marks : List ℕ) (old new : Lists) → new.eager ≡ comment_on k comments old.eager → new.seeds ≡ old.seeds → new.listed ≡ old.listed → IsFilter marks old → IsFilter marks new
  filter_commented marks old new is same listed right v =
      right v ∙ ap (λ b. b || lists_dynamic old.seeds v old.listed) (sym (any_commented (λ p. may_be_dynamic old.seeds v p.0) (λ p. refl) old.eager))
      ∙ (λ i. list_any (λ p. may_be_dynamic (sym same i) v p.0) (sym is i) || lists_dynamic (sym same i) v (sym listed i))

  own_commented : (path : List Bytes) (old new : Lists) → new.eager ≡ comment_on k comments old.eager → new.seeds ≡ old.seeds → new.listed ≡ old.listed → funcs (pairs_at path (shown new)) ≡ funcs (pairs_at path (shown old))
  own_commented path old new is same listed =
      let others = without old.eager (map (entry_pair old.seeds) (firsts old.listed)) in
      let parts : (xs ys : Pairs) → funcs (pairs_at path (xs ++ ys)) ≡ funcs (pairs_at path xs) ++ funcs (pairs_at path ys) =
      λ xs ys. ap funcs (flat_map-append (λ (q : Key × Declaration). unpathed q ++ pathed path q) xs ys) ∙ funcs_append (pairs_at path xs) (pairs_at path ys) in
      ap (λ ps. funcs (pairs_at path ps)) (shown_commented old new is same listed) ∙ parts (comment_on k comments old.eager) others
      ∙ ap (λ (fs : List (Key × RhaiFunc)). fs ++ funcs (pairs_at path others)) (pairs_commented path old.eager) ∙ sym (parts old.eager others)

  tree_commented : (old new : ModuleTree) → new.own.eager ≡ comment_on k comments old.own.eager → new.own.seeds ≡ old.own.seeds → new.own.listed ≡ old.own.listed → new.subs ≡ old.subs → funcs (tree new) ≡ funcs (tree old)
  tree_commented old new is same listed subs =
      ap (λ s. funcs (pairs_at [] (shown new.own) ++ below [] s)) subs
      ∙ funcs_append (pairs_at [] (shown new.own)) (below [] old.subs)
      ∙ ap (λ (fs : List (Key × RhaiFunc)). fs ++ funcs (below [] old.subs)) (own_commented [] old.own new.own is same listed)
      ∙ sym (funcs_append (pairs_at [] (shown old.own)) (below [] old.subs))

  -- the index of a tree is that of the tree with comments
  pub index_commented : (index : Indexed) (old new : ModuleTree) → new.own.eager ≡ comment_on k comments old.own.eager → new.own.seeds ≡ old.own.seeds → new.own.listed ≡ old.own.listed → new.subs ≡ old.subs → IsIndexOf index old → IsIndexOf index new
  index_commented index old new is same listed subs it =
      let alike : funcs (tree old) ≡ funcs (tree new) = sym (tree_commented old new is same listed subs) in
      let keys : keys_of (tree old) ≡ keys_of (tree new) = sym (keys_funcs (tree old)) ∙ ap (λ (fs : List (Key × RhaiFunc)). keys_of fs) alike ∙ keys_funcs (tree new) in (
        it.0 ∙ sym same,
        subst (λ (p : Seeds × List Key). NoneClash p.0 p.1) (λ i. (sym same i, keys i)) it.1,
        λ key. it.2 key ∙ sym (lookup_funcs key (tree old)) ∙ ap (λ (fs : List (Key × RhaiFunc)). lookup (key_eq key) fs) alike ∙ lookup_funcs key (tree new),
        λ v. it.3 v ∙ (λ i. sym (dynamic_commented v old.own new.own is same listed) i || some_below (declares_dynamic (sym same i) v) (sym subs i)),
        it.4 ∙ (λ i. sym (global_commented old.own new.own is same listed) i || some_below declares_global (sym subs i)),
      )
