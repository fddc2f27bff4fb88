-- What a module and all below it name stays held, and what a tree has for a key is held.
use Rattle.std.proofs.Common.{arith, length, ◌<◌, ◌≡◌, ℕ, Bool, true, false, cond, ◌&&◌, List, [], ◌∷◌, ◌++◌, Some, refl, sym, ap, subst, ◌∙◌}
use Rattle.std.specs.Prelude.{not, ◌||◌, Result, Ok, Err, OnOk, OnErr}
use Rattle.std.specs.Map.{lookup}
use Rattle.std.specs.Ordering.{match_ordering, nat_cmp}
use Rattle.std.specs.declared.cmp.Ordering.{Ordering}
use Rattle.std.specs.declared.cmp.Ordering.TheVariants.{Less, Equal, Greater}
use Rattle.std.specs.Cmp.Lexicographic.{slice_cmp}
use Rattle.std.proofs.lemmas.List.Folds.{list_all-append}
use Rattle.rhd_value.specs.Tree.{Bytes}
use Rattle.rhd_value.specs.Same.{text_eq}
use Rattle.rhd_hash.specs.declared.key.Key.{Key}
use Rattle.rhd_hash.specs.Keys.{key_eq, with_path, is_typed_key}
use Rattle.rhd_func.specs.Access.{is_private, is_global_namespace}
use Rattle.rhd_decl.specs.declared.declaration.Declaration.{Declaration}
use Rattle.rhd_module.specs.Tree.{ModuleTree, Lists, Subs, no_subs, sub}
use Rattle.rhd_table.specs.Pairs.{Pairs}
use Rattle.rhd_module.specs.Shown.{shown}
use Rattle.rhd_module.specs.Contents.{with_sub, put_sub, find_sub}
use Rattle.rhd_table.specs.Paths.{unpathed, pathed, pairs_at}
use Rattle.rhd_module.specs.Walk.{below as pairs_below, tree}
use Rattle.rhd_layers.specs.Lists.{Imports, module_of, put_module, second}
use Rattle.rhd_layers.proofs.Bools.{both, parts}
use Rattle.rhd_layers.proofs.Indexed.{all_put, all_found}
use Rattle.rhd_engine.specs.Held.{func_held, own_held, below_held, names_held, all_held, named_held}
use Rattle.rhd_engine.proofs.HeldLaws.{is_held, pairs_held, found_held, shown_held}

pub three : (a b c : Bool) → a ≡ true → b ≡ true → c ≡ true → (a && (b && c)) ≡ true
three a b c p q r = both a (b && c) p (both b c q r)

-- Modules.

pub put_sub_held : (n : ℕ) (name : Bytes) (child : ModuleTree) (s : Subs) → names_held n child ≡ true → below_held n s ≡ true → below_held n (put_sub name child s) ≡ true
put_sub_held n name child no_subs h all =
    let c = parts (own_held n child.own) (below_held n child.subs) h in
    three (own_held n child.own) (below_held n child.subs) true c.0 c.1 refl
put_sub_held n name child (sub k own inner later) h all =
    by (parts (own_held n child.own) (below_held n child.subs) h) p q (put_sub_held n name child later h q.1) (slice_cmp nat_cmp name k)
  where
    p : (own_held n own ≡ true) × ((below_held n inner && below_held n later) ≡ true)
    p = parts (own_held n own) (below_held n inner && below_held n later) all

    q : (below_held n inner ≡ true) × (below_held n later ≡ true)
    q = parts (below_held n inner) (below_held n later) p.1

    by : (own_held n child.own ≡ true) × (below_held n child.subs ≡ true) → (own_held n own ≡ true) × ((below_held n inner && below_held n later) ≡ true) → (below_held n inner ≡ true) × (below_held n later ≡ true) → below_held n (put_sub name child later) ≡ true → (o : Ordering)
        → below_held n (match_ordering o (sub name child.own child.subs (sub k own inner later)) (sub k child.own child.subs later) (sub k own inner (put_sub name child later))) ≡ true
    by c p q deeper Less = three (own_held n child.own) (below_held n child.subs) (below_held n (sub k own inner later)) c.0 c.1 all
    by c p q deeper Equal = three (own_held n child.own) (below_held n child.subs) (below_held n later) c.0 c.1 q.1
    by c p q deeper Greater = three (own_held n own) (below_held n inner) (below_held n (put_sub name child later)) p.0 q.0 deeper

-- a held sub-module that is put into a held module
pub sub_held : (n : ℕ) (name : Bytes) (child m : ModuleTree) → names_held n child ≡ true → names_held n m ≡ true → names_held n (with_sub name child m) ≡ true
sub_held n name child m h all =
    let p = parts (own_held n m.own) (below_held n m.subs) all in
    both (own_held n m.own) (below_held n (put_sub name child m.subs)) p.0 (put_sub_held n name child m.subs h p.1)

find_step : (n : ℕ) (name : Bytes) (own : Lists) (inner later : Subs) (m : ModuleTree) (same : Bool) → below_held n (sub name own inner later) ≡ true → (find_sub name later ≡ Some m → names_held n m ≡ true)
    → cond same (Some (record { own = own; subs = inner })) (find_sub name later) ≡ Some m → names_held n m ≡ true
find_step n name own inner later m true all ih is =
    let p = parts (own_held n own) (below_held n inner && below_held n later) all in
    let q = parts (below_held n inner) (below_held n later) p.1 in
    let child : ModuleTree = record { own = own; subs = inner } in
    let e : child ≡ m = cc in
    ap (names_held n) (sym e) ∙ both (own_held n own) (below_held n inner) p.0 q.0
find_step n name own inner later m false all ih is = ih is

find_held : (n : ℕ) (name : Bytes) (s : Subs) (m : ModuleTree) → below_held n s ≡ true → find_sub name s ≡ Some m → names_held n m ≡ true
find_held n name no_subs m all is = absurd cc
find_held n name (sub k own inner later) m all is =
    let p = parts (own_held n own) (below_held n inner && below_held n later) all in
    let q = parts (below_held n inner) (below_held n later) p.1 in
    find_step n name own inner later m (text_eq name k) all (find_held n name later m q.1) is

-- a sub-module of a held module is held
pub found_sub_held : (n : ℕ) (name : Bytes) (m child : ModuleTree) → names_held n m ≡ true → find_sub name m.subs ≡ Some child → names_held n child ≡ true
found_sub_held n name m child all is = find_held n name m.subs child (parts (own_held n m.own) (below_held n m.subs) all).1 is

-- What a tree has for a key.

pairs_append : (n : ℕ) (ps qs : Pairs) → pairs_held n ps ≡ true → pairs_held n qs ≡ true → pairs_held n (ps ++ qs) ≡ true
pairs_append n ps qs h k = list_all-append (λ p. is_held n p.1) ps qs ∙ both (pairs_held n ps) (pairs_held n qs) h k

one_if : (n : ℕ) (p : Key × Declaration) (b : Bool) → is_held n p.1 ≡ true → pairs_held n (cond b (p ∷ []) []) ≡ true
one_if n p true h = both (is_held n p.1) true h refl
one_if n p false h = refl

one_unless : (n : ℕ) (p : Key × Declaration) (b : Bool) → is_held n p.1 ≡ true → pairs_held n (cond b [] (p ∷ [])) ≡ true
one_unless n p true h = refl
one_unless n p false h = both (is_held n p.1) true h refl

pairs_at_held : (n : ℕ) (path : List Bytes) (declared : Pairs) → pairs_held n declared ≡ true → pairs_held n (pairs_at path declared) ≡ true
pairs_at_held n path [] all = refl
pairs_at_held n path (p ∷ ps) all =
    let h = parts (is_held n p.1) (pairs_held n ps) all in
    let bare = one_if n p (is_global_namespace p.1.metadata.namespace && (not (is_private p.1.metadata.access) || is_typed_key p.0)) h.0 in
    let under = one_unless n (with_path path p.0, p.1) (is_private p.1.metadata.access) h.0 in
    pairs_append n (unpathed p ++ pathed path p) (pairs_at path ps) (pairs_append n (unpathed p) (pathed path p) bare under) (pairs_at_held n path ps h.1)

below_pairs_held : (n : ℕ) (path : List Bytes) (s : Subs) → below_held n s ≡ true → pairs_held n (pairs_below path s) ≡ true
below_pairs_held n path no_subs all = refl
below_pairs_held n path (sub name own inner later) all =
    let p = parts (own_held n own) (below_held n inner && below_held n later) all in
    let q = parts (below_held n inner) (below_held n later) p.1 in
    let under = path ++ name ∷ [] in
    pairs_append n (pairs_below path later) (pairs_at under (shown own) ++ pairs_below under inner) (below_pairs_held n path later q.1)
    (pairs_append n (pairs_at under (shown own)) (pairs_below under inner) (pairs_at_held n under (shown own) (shown_held n own p.0)) (below_pairs_held n under inner q.0))

pub tree_held : (n : ℕ) (m : ModuleTree) → names_held n m ≡ true → pairs_held n (tree m) ≡ true
tree_held n m all =
    let p = parts (own_held n m.own) (below_held n m.subs) all in
    pairs_append n (pairs_at [] (shown m.own)) (pairs_below [] m.subs) (pairs_at_held n [] (shown m.own) (shown_held n m.own p.0)) (below_pairs_held n [] m.subs p.1)

pub looked_up_held : (n : ℕ) (m : ModuleTree) (key : Key) (d : Declaration) → names_held n m ≡ true → lookup (key_eq key) (tree m) ≡ Some d → func_held n d.func ≡ true
looked_up_held n m key d all is = found_held n key (tree m) d (tree_held n m all) is

-- Modules behind the first.

pub second_held : (n : ℕ) (added : ModuleTree) (ms : List ModuleTree) → names_held n added ≡ true → all_held n ms ≡ true → all_held n (second added ms) ≡ true
second_held n added [] h all = both (names_held n added) true h refl
second_held n added (m ∷ ms) h all =
    let p = parts (names_held n m) (all_held n ms) all in
    three (names_held n m) (names_held n added) (all_held n ms) p.0 h p.1

pub second_count : (added : ModuleTree) (ms : List ModuleTree) → 0 < length (second added ms)
second_count added [] = omega arith
second_count added (m ∷ ms) = omega arith

-- what holds where it is put and where it isn't
pub second_or_not : {A E : Type 0} (P : List ModuleTree → Type 0) (added : ModuleTree) (old new : List ModuleTree) (r : Result A E) → OnOk r (new ≡ second added old) → OnErr r (new ≡ old) → P (second added old) → P old → P new
second_or_not P added old new (Ok answer) ok err put kept = subst P (sym ok) put
second_or_not P added old new (Err fault) ok err put kept = subst P (sym err) kept

-- Modules with their names.

pub put_held_module : (n : ℕ) (es : Imports) (name : Bytes) (m : ModuleTree) → names_held n m ≡ true → named_held n es ≡ true → named_held n (put_module name m es) ≡ true
put_held_module n es name m h all = all_put (names_held n) es name m h all

pub module_held : (n : ℕ) (es : Imports) (name : Bytes) (m : ModuleTree) → named_held n es ≡ true → module_of name es ≡ Some m → names_held n m ≡ true
module_held n es name m all is = all_found (names_held n) es name m all is
