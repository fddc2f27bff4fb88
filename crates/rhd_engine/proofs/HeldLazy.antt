-- What a module lists stays held when it is registered, in it and below it.
use Rattle.std.proofs.Common.{◌≡◌, ℕ, Bool, true, false, ◌&&◌, [], ◌∷◌, refl, ◌∙◌}
use Rattle.std.specs.Prelude.{◌||◌, if◌then◌else◌}
use Rattle.std.proofs.lemmas.List.Folds.{list_all-map}
use Rattle.rhd_manifest.specs.Entry.{entry_pair}
use Rattle.rhd_module.specs.Below.{some_below, some_in, lists_any}
use Rattle.rhd_module.specs.Index.{indexed}
use Rattle.rhd_module.specs.Lazy.{with_registered, registered_subs, registered_tree}
use Rattle.rhd_module.specs.Manifests.{lazy, registered, registered_pairs}
use Rattle.rhd_table.specs.Pairs.{put_back, put_all, put, Pairs}
use Rattle.rhd_module.specs.Tree.{ModuleTree, Subs, no_subs, sub}
use Rattle.rhd_layers.proofs.Bools.{both, parts}
use Rattle.rhd_engine.specs.Held.{own_held, below_held, names_held}
use Rattle.rhd_engine.proofs.HeldLaws.{is_held, listed_held, pairs_held, put_held}
use Rattle.rhd_engine.proofs.HeldTrees.{three}

pub put_back_held : (n : ℕ) (ps qs : Pairs) → pairs_held n ps ≡ true → pairs_held n qs ≡ true → pairs_held n (put_back ps qs) ≡ true
put_back_held n [] qs all rest = rest
put_back_held n (p ∷ ps) qs all rest = let h = parts (is_held n p.1) (pairs_held n ps) all in put_held n p.0 p.1 (put_back ps qs) h.0 (put_back_held n ps qs h.1 rest)

pub put_all_held : (n : ℕ) (ps qs : Pairs) → pairs_held n ps ≡ true → pairs_held n qs ≡ true → pairs_held n (put_all ps qs) ≡ true
put_all_held n [] qs all rest = rest
put_all_held n (p ∷ ps) qs all rest = let h = parts (is_held n p.1) (pairs_held n ps) all in put_all_held n ps (put p.0 p.1 qs) h.1 (put_held n p.0 p.1 qs h.0 rest)

registered_held : (n : ℕ) (m : ModuleTree) → own_held n m.own ≡ true → own_held n (registered m).own ≡ true
registered_held n m all =
    let h = parts (pairs_held n m.own.eager) (listed_held n m.own.listed) all in
    let lazily = list_all-map (λ q. is_held n q.1) (entry_pair m.own.seeds) m.own.listed ∙ h.1 in
    both (pairs_held n (registered_pairs m.own)) true (put_all_held n m.own.eager (put_back (lazy m.own) []) h.0 (put_back_held n (lazy m.own) [] lazily refl)) refl

registered_subs_held : (n : ℕ) (s : Subs) → below_held n s ≡ true → below_held n (registered_subs s) ≡ true
registered_subs_held n no_subs all = refl
registered_subs_held n (sub name own inner later) all =
    by (lists_any own || some_below lists_any inner) (registered_held n (record { own = own; subs = inner }) p.0) (registered_subs_held n inner q.0) (registered_subs_held n later q.1)
  where
    p : (own_held n own ≡ true) × ((below_held n inner && below_held n later) ≡ true)
    p = parts (own_held n own) (below_held n inner && below_held n later) all

    q : (below_held n inner ≡ true) × (below_held n later ≡ true)
    q = parts (below_held n inner) (below_held n later) p.1

    by : (b : Bool) → own_held n (registered (record { own = own; subs = inner })).own ≡ true → below_held n (registered_subs inner) ≡ true → below_held n (registered_subs later) ≡ true
        → below_held n (if b then sub name (indexed (registered (record { own = own; subs = inner }))).own (registered_subs inner) (registered_subs later) else sub name own inner (registered_subs later)) ≡ true
    by true a b c = three (own_held n (registered (record { own = own; subs = inner })).own) (below_held n (registered_subs inner)) (below_held n (registered_subs later)) a b c
    by false a b c = three (own_held n own) (below_held n inner) (below_held n (registered_subs later)) p.0 q.0 c

-- a held module in whose tree what is listed is registered
pub registered_tree_held : (n : ℕ) (m : ModuleTree) → names_held n m ≡ true → names_held n (registered_tree m) ≡ true
registered_tree_held n m all = by (some_in lists_any m)
  where
    p : (own_held n m.own ≡ true) × (below_held n m.subs ≡ true)
    p = parts (own_held n m.own) (below_held n m.subs) all

    by : (b : Bool) → names_held n (if b then with_registered m (registered_subs m.subs) else m) ≡ true
    by true = both (own_held n (registered m).own) (below_held n (registered_subs m.subs)) (registered_held n m p.0) (registered_subs_held n m.subs p.1)
    by false = all
