-- Registering what is listed in a tree changes neither what a key finds in each module of it, nor what it finds first in all of it.
use Rattle.std.proofs.Common.{◌≡◌, Bool, true, false, cond, ◌||◌, List, [], ◌∷◌, ◌++◌, append-nil, Option, None, Some, refl, sym, ap, subst, ◌∙◌}
use Rattle.std.specs.Option.{option_map, option_and_then}
use Rattle.rhd_value.specs.Tree.{Bytes}
use Rattle.rhd_value.specs.Same.{text_eq}
use Rattle.rhd_hash.specs.declared.key.Key.{Key}
use Rattle.rhd_module.specs.Below.{lists_any, some_below, some_in, module_at}
use Rattle.rhd_module.specs.Contents.{find_sub}
use Rattle.rhd_module.specs.Index.{indexed}
use Rattle.rhd_module.specs.Lazy.{with_registered, registered_subs, registered_tree}
use Rattle.rhd_module.specs.Manifests.{registered, registered_pairs}
use Rattle.rhd_module.specs.OwnKeys.{DeclaresOwn, HaveOwnKeys, HasOwnKeys, own_at}
use Rattle.rhd_module.specs.Shown.{shown, own_decl}
use Rattle.rhd_module.specs.Tree.{ModuleTree, Lists, Subs, no_subs, sub}
use Rattle.rhd_table.specs.Paths.{pairs_at}
use Rattle.rhd_module.specs.Walk.{below, tree, qualified}
use Rattle.rhd_module.proofs.LazyParts.{renewed, after}
use Rattle.rhd_table.proofs.Lookups.{first}
use Rattle.rhd_module.proofs.Lookups.{joined, first_registered}
use Rattle.rhd_module.proofs.SamePairs.{apart_declared, pairs_registered}

-- a module's own declarations once what it lists is registered
abbrev own_registered : Lists → Lists
own_registered own = (registered (record { own = own; subs = no_subs })).own

-- it shows what it showed, and gives at a path what it gave
shows : (own : Lists) (k : Key) → DeclaresOwn own → first k (shown (own_registered own)) ≡ first k (shown own)
shows own k declares = ap (first k) (append-nil (registered_pairs own)) ∙ first_registered own k (apart_declared own declares)

gives : (path : List Bytes) (own : Lists) (k : Key) → DeclaresOwn own → first k (pairs_at path (shown (own_registered own))) ≡ first k (pairs_at path (shown own))
gives path own k declares = ap (λ ps. first k (pairs_at path ps)) (append-nil (registered_pairs own)) ∙ pairs_registered path own k (apart_declared own declares)

-- the pairs of the modules below
gives_below : (path : List Bytes) (subs : Subs) (k : Key) → HaveOwnKeys subs → first k (below path (registered_subs subs)) ≡ first k (below path subs)
gives_below path no_subs k have = refl
gives_below path (sub name own subs later) k have = by (gives_below here subs k have.1) (gives_below path later k have.2) (lists_any own || some_below lists_any subs)
  where
    here : List Bytes
    here = path ++ name ∷ []

    m : ModuleTree
    m = record { own = own; subs = subs }

    by : first k (below here (registered_subs subs)) ≡ first k (below here subs) → first k (below path (registered_subs later)) ≡ first k (below path later)
        → (b : Bool) → first k (below path (cond b (sub name (renewed m).own (renewed m).subs (registered_subs later)) (sub name own subs (registered_subs later)))) ≡ first k (below path (sub name own subs later))
    by in_it next true = joined k _ _ _ _ next (joined k _ _ _ _ (gives here own k have.0) in_it)
    by in_it next false = joined k _ _ _ _ next refl

-- the pairs of the whole tree
pub keeps_qualified : (m : ModuleTree) (k : Key) → HasOwnKeys m → qualified (registered_tree m) k ≡ qualified m k
unfolding qualified
keeps_qualified m k has = by (some_in lists_any m)
  where
    by : (b : Bool) → first k (tree (cond b (with_registered m (registered_subs m.subs)) m)) ≡ first k (tree m)
    by true = joined k _ _ _ _ (gives [] m.own k has.0) (gives_below [] m.subs k has.1)
    by false = refl

map_cond : {A B : Type 0} (f : A → B) (b : Bool) (x : A) (o : Option A) → option_map f (cond b (Some x) o) ≡ cond b (Some (f x)) (option_map f o)
map_cond f true x o = refl
map_cond f false x o = refl

-- the sub-module of a name is what it is after
finds_after : (name : Bytes) (subs : Subs) → find_sub name (registered_subs subs) ≡ option_map (λ m. after m) (find_sub name subs)
finds_after name no_subs = refl
finds_after name (sub n own subs later) = by (finds_after name later) (lists_any own || some_below lists_any subs) ∙ sym (map_cond (λ m. after m) (text_eq name n) old (find_sub name later))
  where
    old : ModuleTree
    old = record { own = own; subs = subs }

    by : find_sub name (registered_subs later) ≡ option_map (λ m. after m) (find_sub name later)
        → (b : Bool) → find_sub name (cond b (sub n (renewed old).own (renewed old).subs (registered_subs later)) (sub n own subs (registered_subs later)))
        ≡ cond (text_eq name n) (Some (cond b (renewed old) old)) (option_map (λ m. after m) (find_sub name later))
    by next true = ap (λ o. cond (text_eq name n) (Some (renewed old)) o) next
    by next false = ap (λ o. cond (text_eq name n) (Some old) o) next

-- a sub-module that is found has own keys
found_has : (name : Bytes) (subs : Subs) (m : ModuleTree) → HaveOwnKeys subs → find_sub name subs ≡ Some m → HasOwnKeys m
found_has name no_subs m have is = absurd cc
found_has name (sub n own subs later) m have is = by (text_eq name n) (found_has name later m have.2) is
  where
    here : ModuleTree
    here = record { own = own; subs = subs }

    by : (b : Bool) → (find_sub name later ≡ Some m → HasOwnKeys m) → cond b (Some here) (find_sub name later) ≡ Some m → HasOwnKeys m
    by true next is = let same : here ≡ m = cc in subst (λ (n : ModuleTree). HasOwnKeys n) same (have.0, have.1)
    by false next is = next is

-- what the modules under a path have, where those below each sub-module have what they had
below_after : (path : List Bytes) (k : Key) (subs : Subs) (name : Bytes) → ((m : ModuleTree) → HasOwnKeys m → own_at path k (after m) ≡ own_at path k m) → HaveOwnKeys subs
    → option_map (λ at. own_decl at k) (option_and_then (module_at path) (find_sub name (registered_subs subs))) ≡ option_map (λ at. own_decl at k) (option_and_then (module_at path) (find_sub name subs))
below_after path k subs name same have = ap (λ o. option_map (λ at. own_decl at k) (option_and_then (module_at path) o)) (finds_after name subs) ∙ by (find_sub name subs) refl
  where
    by : (o : Option ModuleTree) → find_sub name subs ≡ o
        → option_map (λ at. own_decl at k) (option_and_then (module_at path) (option_map (λ m. after m) o)) ≡ option_map (λ at. own_decl at k) (option_and_then (module_at path) o)
    by None is = refl
    by (Some m) is = same m (found_has name subs m have is)

-- whether a module is indexed doesn't matter
indexed_at : (path : List Bytes) (k : Key) (m : ModuleTree) → own_at path k (indexed m) ≡ own_at path k m
unfolding own_decl
indexed_at [] k m = refl
indexed_at (name ∷ path) k m = refl

after_at : (path : List Bytes) (k : Key) (m : ModuleTree) → own_at path k (with_registered m (registered_subs m.subs)) ≡ own_at path k m → own_at path k (after m) ≡ own_at path k m
after_at path k m same = by (some_in lists_any m)
  where
    by : (b : Bool) → own_at path k (cond b (renewed m) m) ≡ own_at path k m
    by true = indexed_at path k (with_registered m (registered_subs m.subs)) ∙ same
    by false = refl

registered_at : (path : List Bytes) (k : Key) (m : ModuleTree) → HasOwnKeys m → own_at path k (with_registered m (registered_subs m.subs)) ≡ own_at path k m
unfolding own_decl
registered_at [] k m has = ap Some (shows m.own k has.0)
registered_at (name ∷ path) k m has = below_after path k m.subs name (λ n h. after_at path k n (registered_at path k n h)) has.1

pub keeps_own : (m : ModuleTree) (path : List Bytes) (k : Key) → HasOwnKeys m → own_at path k (registered_tree m) ≡ own_at path k m
keeps_own m path k has = by (some_in lists_any m)
  where
    by : (b : Bool) → own_at path k (cond b (with_registered m (registered_subs m.subs)) m) ≡ own_at path k m
    by true = registered_at path k m has
    by false = refl
