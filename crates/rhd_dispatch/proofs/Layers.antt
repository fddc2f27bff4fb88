-- The search over the four layers, one after another.
use Rattle.std.proofs.Common.{◌≡◌, ◌≤◌, ℕ, ◌+◌, true, List, ◌++◌, length, ap, ◌∙◌}
use Rattle.std.specs.Prelude.{Option, None, is_some}
use Rattle.rhd_value.specs.Firsts.{first_of}
use Rattle.rhd_hash.specs.declared.key.Key.{Key}
use Rattle.rhd_module.specs.Tree.{ModuleTree}
use Rattle.rhd_call.specs.declared.pick.Layer.TheVariants.{Library, Global, Import, Static}
use Rattle.rhd_call.specs.declared.pick.Pick.{Pick}
use Rattle.rhd_engine.specs.Engine.{Imports}
use Rattle.rhd_dispatch.specs.Searched.{Place, pick_at}
use Rattle.rhd_dispatch.specs.Walks.{numbered, latest, global_places, import_trees, static_trees, all_places, found_in, place_of, place_of_tree, in_own, in_tree}
use Rattle.rhd_dispatch.proofs.Passes.{Passed, latest_steps, numbered_steps, passed_none, part_miss, part_found, part_steps, last_found, last_steps}

module _ (libs globals : List ModuleTree) (imports statics : Imports) (key : Key) (s0 : ℕ) where
  abbrev Left : List Place → ℕ → Type 0
  Left rest now = Passed (pick_at key) (all_places libs globals imports statics) rest s0 now

  abbrev after_libraries : List Place
  after_libraries = global_places globals ++ (import_trees imports ++ static_trees statics)

  abbrev after_globals : List Place
  after_globals = import_trees imports ++ static_trees statics

  module _ (same : List ModuleTree) (l : same ≡ libs) (o : Option Pick) (s1 : ℕ) (is : o ≡ first_of (in_own Library key) (latest same)) (step : s1 ≤ s0 + length same) where
    is1 : o ≡ first_of (in_own Library key) (latest libs)
    is1 = is ∙ ap (λ (ms : List ModuleTree). first_of (in_own Library key) (latest ms)) l

    step1 : s1 ≤ s0 + length (latest libs)
    step1 = latest_steps same libs l s0 s1 step

    pub libraries_passed : o ≡ None → Left after_libraries s1
    libraries_passed = part_miss (pick_at key) (place_of Library) (all_places libs globals imports statics) after_libraries (latest libs) s0 s0 s1 o (passed_none (pick_at key) (all_places libs globals imports statics) s0) is1 step1

    pub library_found : is_some o ≡ true → o ≡ found_in libs globals imports statics key
    library_found = part_found (pick_at key) (place_of Library) (all_places libs globals imports statics) after_libraries (latest libs) s0 s0 s1 o (passed_none (pick_at key) (all_places libs globals imports statics) s0) is1 step1

    pub library_steps : s1 ≤ s0 + length (all_places libs globals imports statics)
    library_steps = part_steps (pick_at key) (place_of Library) (all_places libs globals imports statics) after_libraries (latest libs) s0 s0 s1 o (passed_none (pick_at key) (all_places libs globals imports statics) s0) is1 step1

  module _ (now : ℕ) (left : Left after_libraries now) (same : List ModuleTree) (l : same ≡ globals) (o : Option Pick) (next : ℕ) (is : o ≡ first_of (in_own Global key) (numbered same)) (step : next ≤ now + length same) where
    is2 : o ≡ first_of (in_own Global key) (numbered globals)
    is2 = is ∙ ap (λ (ms : List ModuleTree). first_of (in_own Global key) (numbered ms)) l

    step2 : next ≤ now + length (numbered globals)
    step2 = numbered_steps same globals l now next step

    pub globals_passed : o ≡ None → Left after_globals next
    globals_passed = part_miss (pick_at key) (place_of Global) (all_places libs globals imports statics) after_globals (numbered globals) s0 now next o left is2 step2

    pub global_found : is_some o ≡ true → o ≡ found_in libs globals imports statics key
    global_found = part_found (pick_at key) (place_of Global) (all_places libs globals imports statics) after_globals (numbered globals) s0 now next o left is2 step2

    pub global_steps : next ≤ s0 + length (all_places libs globals imports statics)
    global_steps = part_steps (pick_at key) (place_of Global) (all_places libs globals imports statics) after_globals (numbered globals) s0 now next o left is2 step2

  module _ (now : ℕ) (left : Left after_globals now) (same : Imports) (l : same ≡ imports) (o : Option Pick) (next : ℕ) (is : o ≡ first_of (in_tree Import key) (latest same)) (step : next ≤ now + length same) where
    is3 : o ≡ first_of (in_tree Import key) (latest imports)
    is3 = is ∙ ap (λ (ms : Imports). first_of (in_tree Import key) (latest ms)) l

    step3 : next ≤ now + length (latest imports)
    step3 = latest_steps same imports l now next step

    pub imports_passed : o ≡ None → Left (static_trees statics) next
    imports_passed = part_miss (pick_at key) (place_of_tree Import) (all_places libs globals imports statics) (static_trees statics) (latest imports) s0 now next o left is3 step3

    pub import_found : is_some o ≡ true → o ≡ found_in libs globals imports statics key
    import_found = part_found (pick_at key) (place_of_tree Import) (all_places libs globals imports statics) (static_trees statics) (latest imports) s0 now next o left is3 step3

    pub import_steps : next ≤ s0 + length (all_places libs globals imports statics)
    import_steps = part_steps (pick_at key) (place_of_tree Import) (all_places libs globals imports statics) (static_trees statics) (latest imports) s0 now next o left is3 step3

  module _ (now : ℕ) (left : Left (static_trees statics) now) (same : Imports) (l : same ≡ statics) (o : Option Pick) (next : ℕ) (is : o ≡ first_of (in_tree Static key) (numbered same)) (step : next ≤ now + length same) where
    is4 : o ≡ first_of (in_tree Static key) (numbered statics)
    is4 = is ∙ ap (λ (ms : Imports). first_of (in_tree Static key) (numbered ms)) l

    step4 : next ≤ now + length (numbered statics)
    step4 = numbered_steps same statics l now next step

    pub static_found : o ≡ found_in libs globals imports statics key
    static_found = last_found (pick_at key) (place_of_tree Static) (all_places libs globals imports statics) (numbered statics) s0 now next o left is4 step4

    pub static_steps : next ≤ s0 + length (all_places libs globals imports statics)
    static_steps = last_steps (pick_at key) (place_of_tree Static) (all_places libs globals imports statics) (numbered statics) s0 now next o left is4 step4
