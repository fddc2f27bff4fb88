-- A key that a filter doesn't tell of is found nowhere in a tree.
use Rattle.std.proofs.Common.{◌≡◌, ℕ, Bool, true, false, ◌&&◌, ◌||◌, ◌==◌, cond, List, [], ◌∷◌, ◌++◌, Option, None, Some, refl, sym, ap, ◌∙◌, eq-eqb, true≢false}
use Rattle.std.specs.Prelude.{not, if◌then◌else◌}
use Rattle.std.specs.List.{list_any}
use Rattle.std.specs.Map.{lookup}
use Rattle.rhd_value.specs.Tree.{Bytes}
use Rattle.rhd_hash.specs.declared.key.Key.{Key}
use Rattle.rhd_hash.specs.declared.key.Key.TheVariants.{Script, Typed, Native}
use Rattle.rhd_hash.specs.declared.mixer.Seeds.{Seeds}
use Rattle.rhd_hash.specs.Keys.{key_eq, key_eq-Decides, has_dynamic, with_path, is_typed_key}
use Rattle.rhd_hash.specs.Parts.{untyped_key}
use Rattle.rhd_hash.specs.Filter.{slot}
use Rattle.rhd_func.specs.Access.{is_private, is_global_namespace}
use Rattle.rhd_decl.specs.declared.declaration.Declaration.{Declaration}
use Rattle.rhd_module.specs.Tree.{ModuleTree, Subs, no_subs, sub}
use Rattle.rhd_table.specs.Pairs.{Pairs}
use Rattle.rhd_module.specs.Shown.{shown}
use Rattle.rhd_table.specs.Paths.{unpathed, pathed, pairs_at}
use Rattle.rhd_module.specs.Walk.{below, tree}
use Rattle.rhd_module.specs.Below.{some_below, some_in, declares_dynamic, may_contain}
use Rattle.rhd_table.specs.Marks.{may_be_dynamic}

-- neither of two that aren't both
left_false : (a b : Bool) → (a || b) ≡ false → a ≡ false
left_false true b e = e
left_false false b e = refl

right_false : (a b : Bool) → (a || b) ≡ false → b ≡ false
right_false true b e = absurd (true≢false e)
right_false false b e = e

append_step : (d : Declaration) (b : Bool) (o r : Option Declaration) → (o ≡ None → r ≡ None) → cond b (Some d) o ≡ None → cond b (Some d) r ≡ None
append_step d true o r ih e = absurd cc
append_step d false o r ih e = ih e

append_none : (test : Key → Bool) (ps qs : Pairs) → lookup test ps ≡ None → lookup test qs ≡ None → lookup test (ps ++ qs) ≡ None
append_none test [] qs p q = q
append_none test (x ∷ ps) qs p q = append_step x.1 (test x.0) (lookup test ps) (lookup test (ps ++ qs)) (λ e. append_none test ps qs e q) p

one_none : (test : Key → Bool) (b : Bool) (p : Key × Declaration) → test p.0 ≡ false → lookup test (cond b (p ∷ []) []) ≡ None
one_none test true p e = ap (λ (c : Bool). cond c (Some p.1) None) e
one_none test false p e = refl

none_one : (test : Key → Bool) (b : Bool) (p : Key × Declaration) → test p.0 ≡ false → lookup test (cond b [] (p ∷ [])) ≡ None
none_one test true p e = refl
none_one test false p e = ap (λ (c : Bool). cond c (Some p.1) None) e

module _ (seeds : Seeds) (hash : ℕ) (key : Key) (dynamic : has_dynamic key ≡ true) (is : untyped_key seeds key ≡ hash) where
  abbrev told : Key → Bool
  told k = may_be_dynamic seeds hash k

  itself : told key ≡ true
  itself = ap (λ (b : Bool). b && (slot 8 hash == slot 8 (untyped_key seeds key))) dynamic ∙ eq-eqb (slot 8 hash) (slot 8 (untyped_key seeds key)) (ap (slot 8) (sym is))

  another : (q : Key) (same : Bool) → key_eq key q ≡ same → told q ≡ false → same ≡ false
  another q true e free = let one : key ≡ q = (key_eq-Decides key q).0 e in absurd (true≢false (sym itself ∙ ap told one ∙ free))
  another q false e free = refl

  other : (q : Key) → told q ≡ false → key_eq key q ≡ false
  other q free = another q (key_eq key q) refl free

  with_path_told : (path : List Bytes) (k : Key) → told (with_path path k) ≡ told k
  with_path_told path (Script p name params) = refl
  with_path_told path (Typed p name params this_type) = refl
  with_path_told path (Native p name types) = refl

  pairs_none : (path : List Bytes) (declared : Pairs) → list_any (λ p. told p.0) declared ≡ false → lookup (key_eq key) (pairs_at path declared) ≡ None
  pairs_none path [] none = refl
  pairs_none path (p ∷ ps) none =
      let here = left_false (told p.0) (list_any (λ q. told q.0) ps) none in
      let rest = right_false (told p.0) (list_any (λ q. told q.0) ps) none in
      let bare = one_none (key_eq key) (is_global_namespace p.1.metadata.namespace && (not (is_private p.1.metadata.access) || is_typed_key p.0)) p (other p.0 here) in
      let under = none_one (key_eq key) (is_private p.1.metadata.access) (with_path path p.0, p.1) (other (with_path path p.0) (with_path_told path p.0 ∙ here)) in
      append_none (key_eq key) (unpathed p ++ pathed path p) (pairs_at path ps) (append_none (key_eq key) (unpathed p) (pathed path p) bare under) (pairs_none path ps rest)

  below_none : (path : List Bytes) (s : Subs) → some_below (declares_dynamic seeds hash) s ≡ false → lookup (key_eq key) (below path s) ≡ None
  below_none path no_subs none = refl
  below_none path (sub name own inner later) none =
      let deeper = some_below (declares_dynamic seeds hash) inner in
      let others = some_below (declares_dynamic seeds hash) later in
      let here = left_false (declares_dynamic seeds hash own) (deeper || others) none in
      let rest = right_false (declares_dynamic seeds hash own) (deeper || others) none in
      let path' = path ++ name ∷ [] in
      append_none (key_eq key) (below path later) (pairs_at path' (shown own) ++ below path' inner) (below_none path later (right_false deeper others rest))
      (append_none (key_eq key) (pairs_at path' (shown own)) (below path' inner) (pairs_none path' (shown own) here) (below_none path' inner (left_false deeper others rest)))

  tree_none : (m : ModuleTree) → some_in (declares_dynamic seeds hash) m ≡ false → lookup (key_eq key) (tree m) ≡ None
  tree_none m none =
      let here = left_false (declares_dynamic seeds hash m.own) (some_below (declares_dynamic seeds hash) m.subs) none in
      let rest = right_false (declares_dynamic seeds hash m.own) (some_below (declares_dynamic seeds hash) m.subs) none in
      append_none (key_eq key) (pairs_at [] (shown m.own)) (below [] m.subs) (pairs_none [] (shown m.own) here) (below_none [] m.subs rest)

pub absent_qualified : (m : ModuleTree) (key : Key) (hash : ℕ) → m.own.indexed ≡ true → may_contain m hash ≡ false → has_dynamic key ≡ true → untyped_key m.own.seeds key ≡ hash → lookup (key_eq key) (tree m) ≡ None
absent_qualified m key hash indexed none dynamic is =
    tree_none m.own.seeds hash key dynamic is m (sym (ap (λ (b : Bool). if b then some_in (declares_dynamic m.own.seeds hash) m else declares_dynamic m.own.seeds hash m.own) indexed) ∙ none)
