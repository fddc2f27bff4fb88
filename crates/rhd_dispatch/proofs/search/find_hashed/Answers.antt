use Rattle.std.proofs.Common.{refl}
use Rattle.rhd_dispatch.specs.Walks.{picked}
use Rattle.rhd_dispatch.proofs.Looks.{in_all}
use Rattle.rhd_dispatch.proofs.Passes.{map_some, map_none}
use Rattle.rhd_dispatch.proofs.Layers.{libraries_passed, library_found, library_steps, globals_passed, global_found, global_steps, imports_passed, import_found, import_steps, static_found, static_steps}
use Rattle.rhd_dispatch.proofs.search.find_hashed.Goals as goal

pub returns-then-is_some-clause-found : goal.returns-then-is_some-clause-found
returns-then-is_some-clause-found c =
    library_found c.args.modules.state.now.lib c.args.modules.globals.now c.args.modules.state.now.imports c.args.modules.statics.now c.args.key.now c.args.steps.now _ refl _ _ c.search_libraries-in_library.ensures.found c.search_libraries-in_library.ensures.steps (map_some (λ f. picked f.layer f.func.now f.place.now) c.search_libraries-in_library.result _ c.is_some.ensures c.if-is_some.true)

pub returns-then-is_some-clause-steps : goal.returns-then-is_some-clause-steps
returns-then-is_some-clause-steps c =
    in_all c.args.modules.state.now.lib c.args.modules.globals.now c.args.modules.state.now.imports c.args.modules.statics.now _ _ (library_steps c.args.modules.state.now.lib c.args.modules.globals.now c.args.modules.state.now.imports c.args.modules.statics.now c.args.key.now c.args.steps.now _ refl _ _ c.search_libraries-in_library.ensures.found c.search_libraries-in_library.ensures.steps)

pub returns-then-is_some-2-clause-found : goal.returns-then-is_some-2-clause-found
returns-then-is_some-2-clause-found c =
    let l1 = libraries_passed c.args.modules.state.now.lib c.args.modules.globals.now c.args.modules.state.now.imports c.args.modules.statics.now c.args.key.now c.args.steps.now _ refl _ _ c.search_libraries-in_library.ensures.found c.search_libraries-in_library.ensures.steps (map_none (λ f. picked f.layer f.func.now f.place.now) c.search_libraries-in_library.result _ c.is_some.ensures c.if-is_some.false) in
    global_found c.args.modules.state.now.lib c.args.modules.globals.now c.args.modules.state.now.imports c.args.modules.statics.now c.args.key.now c.args.steps.now _ l1 _ refl _ _ c.search_globals-in_global.ensures.found c.search_globals-in_global.ensures.steps (map_some (λ f. picked f.layer f.func.now f.place.now) c.search_globals-in_global.result _ c.is_some-2.ensures c.if-is_some-2.true)

pub returns-then-is_some-2-clause-steps : goal.returns-then-is_some-2-clause-steps
returns-then-is_some-2-clause-steps c =
    let l1 = libraries_passed c.args.modules.state.now.lib c.args.modules.globals.now c.args.modules.state.now.imports c.args.modules.statics.now c.args.key.now c.args.steps.now _ refl _ _ c.search_libraries-in_library.ensures.found c.search_libraries-in_library.ensures.steps (map_none (λ f. picked f.layer f.func.now f.place.now) c.search_libraries-in_library.result _ c.is_some.ensures c.if-is_some.false) in
    in_all c.args.modules.state.now.lib c.args.modules.globals.now c.args.modules.state.now.imports c.args.modules.statics.now _ _ (global_steps c.args.modules.state.now.lib c.args.modules.globals.now c.args.modules.state.now.imports c.args.modules.statics.now c.args.key.now c.args.steps.now _ l1 _ refl _ _ c.search_globals-in_global.ensures.found c.search_globals-in_global.ensures.steps)

pub returns-then-is_some-3-clause-found : goal.returns-then-is_some-3-clause-found
returns-then-is_some-3-clause-found c =
    let l1 = libraries_passed c.args.modules.state.now.lib c.args.modules.globals.now c.args.modules.state.now.imports c.args.modules.statics.now c.args.key.now c.args.steps.now _ refl _ _ c.search_libraries-in_library.ensures.found c.search_libraries-in_library.ensures.steps (map_none (λ f. picked f.layer f.func.now f.place.now) c.search_libraries-in_library.result _ c.is_some.ensures c.if-is_some.false) in
    let l2 = globals_passed c.args.modules.state.now.lib c.args.modules.globals.now c.args.modules.state.now.imports c.args.modules.statics.now c.args.key.now c.args.steps.now _ l1 _ refl _ _ c.search_globals-in_global.ensures.found c.search_globals-in_global.ensures.steps (map_none (λ f. picked f.layer f.func.now f.place.now) c.search_globals-in_global.result _ c.is_some-2.ensures c.if-is_some-2.false) in
    import_found c.args.modules.state.now.lib c.args.modules.globals.now c.args.modules.state.now.imports c.args.modules.statics.now c.args.key.now c.args.steps.now _ l2 _ refl _ _ c.search_imports-in_import.ensures.found c.search_imports-in_import.ensures.steps (map_some (λ f. picked f.layer f.func.now f.place.now) c.search_imports-in_import.result _ c.is_some-3.ensures c.if-is_some-3.true)

pub returns-then-is_some-3-clause-steps : goal.returns-then-is_some-3-clause-steps
returns-then-is_some-3-clause-steps c =
    let l1 = libraries_passed c.args.modules.state.now.lib c.args.modules.globals.now c.args.modules.state.now.imports c.args.modules.statics.now c.args.key.now c.args.steps.now _ refl _ _ c.search_libraries-in_library.ensures.found c.search_libraries-in_library.ensures.steps (map_none (λ f. picked f.layer f.func.now f.place.now) c.search_libraries-in_library.result _ c.is_some.ensures c.if-is_some.false) in
    let l2 = globals_passed c.args.modules.state.now.lib c.args.modules.globals.now c.args.modules.state.now.imports c.args.modules.statics.now c.args.key.now c.args.steps.now _ l1 _ refl _ _ c.search_globals-in_global.ensures.found c.search_globals-in_global.ensures.steps (map_none (λ f. picked f.layer f.func.now f.place.now) c.search_globals-in_global.result _ c.is_some-2.ensures c.if-is_some-2.false) in
    in_all c.args.modules.state.now.lib c.args.modules.globals.now c.args.modules.state.now.imports c.args.modules.statics.now _ _ (import_steps c.args.modules.state.now.lib c.args.modules.globals.now c.args.modules.state.now.imports c.args.modules.statics.now c.args.key.now c.args.steps.now _ l2 _ refl _ _ c.search_imports-in_import.ensures.found c.search_imports-in_import.ensures.steps)

pub returns-clause-found : goal.returns-clause-found
returns-clause-found c =
    let l1 = libraries_passed c.args.modules.state.now.lib c.args.modules.globals.now c.args.modules.state.now.imports c.args.modules.statics.now c.args.key.now c.args.steps.now _ refl _ _ c.search_libraries-in_library.ensures.found c.search_libraries-in_library.ensures.steps (map_none (λ f. picked f.layer f.func.now f.place.now) c.search_libraries-in_library.result _ c.is_some.ensures c.if-is_some.false) in
    let l2 = globals_passed c.args.modules.state.now.lib c.args.modules.globals.now c.args.modules.state.now.imports c.args.modules.statics.now c.args.key.now c.args.steps.now _ l1 _ refl _ _ c.search_globals-in_global.ensures.found c.search_globals-in_global.ensures.steps (map_none (λ f. picked f.layer f.func.now f.place.now) c.search_globals-in_global.result _ c.is_some-2.ensures c.if-is_some-2.false) in
    let l3 = imports_passed c.args.modules.state.now.lib c.args.modules.globals.now c.args.modules.state.now.imports c.args.modules.statics.now c.args.key.now c.args.steps.now _ l2 _ refl _ _ c.search_imports-in_import.ensures.found c.search_imports-in_import.ensures.steps (map_none (λ f. picked f.layer f.func.now f.place.now) c.search_imports-in_import.result _ c.is_some-3.ensures c.if-is_some-3.false) in
    static_found c.args.modules.state.now.lib c.args.modules.globals.now c.args.modules.state.now.imports c.args.modules.statics.now c.args.key.now c.args.steps.now _ l3 _ refl _ _ c.search_statics.ensures.found c.search_statics.ensures.steps

pub returns-clause-steps : goal.returns-clause-steps
returns-clause-steps c =
    let l1 = libraries_passed c.args.modules.state.now.lib c.args.modules.globals.now c.args.modules.state.now.imports c.args.modules.statics.now c.args.key.now c.args.steps.now _ refl _ _ c.search_libraries-in_library.ensures.found c.search_libraries-in_library.ensures.steps (map_none (λ f. picked f.layer f.func.now f.place.now) c.search_libraries-in_library.result _ c.is_some.ensures c.if-is_some.false) in
    let l2 = globals_passed c.args.modules.state.now.lib c.args.modules.globals.now c.args.modules.state.now.imports c.args.modules.statics.now c.args.key.now c.args.steps.now _ l1 _ refl _ _ c.search_globals-in_global.ensures.found c.search_globals-in_global.ensures.steps (map_none (λ f. picked f.layer f.func.now f.place.now) c.search_globals-in_global.result _ c.is_some-2.ensures c.if-is_some-2.false) in
    let l3 = imports_passed c.args.modules.state.now.lib c.args.modules.globals.now c.args.modules.state.now.imports c.args.modules.statics.now c.args.key.now c.args.steps.now _ l2 _ refl _ _ c.search_imports-in_import.ensures.found c.search_imports-in_import.ensures.steps (map_none (λ f. picked f.layer f.func.now f.place.now) c.search_imports-in_import.result _ c.is_some-3.ensures c.if-is_some-3.false) in
    in_all c.args.modules.state.now.lib c.args.modules.globals.now c.args.modules.state.now.imports c.args.modules.statics.now _ _ (static_steps c.args.modules.state.now.lib c.args.modules.globals.now c.args.modules.state.now.imports c.args.modules.statics.now c.args.key.now c.args.steps.now _ l3 _ refl _ _ c.search_statics.ensures.found c.search_statics.ensures.steps)
