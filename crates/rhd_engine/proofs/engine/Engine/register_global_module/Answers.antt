use Rattle.std.proofs.Common.{◌≡◌, ◌<◌, List, length, true, refl}
use Rattle.rhd_module.specs.Tree.{ModuleTree}
use Rattle.rhd_engine.specs.Held.{all_held}
use Rattle.rhd_engine.specs.Of.{lists_of}
use Rattle.rhd_engine.proofs.HeldTrees.{second_held, second_count, second_or_not}
use Rattle.rhd_engine.proofs.engine.Engine.register_global_module.Goals as goal

pub invariant_of-self : goal.invariant_of-self
invariant_of-self g c =
    let engine = c.args.self.now in
    let n = length engine.natives.items.items in
    let put = c.insert_second.ensures in
    let held = second_or_not (λ (ms : List ModuleTree). all_held n ms ≡ true) c.args.added engine.globals c.insert_second.new.self c.insert_second.result put.ok put.err (second_held n c.args.added engine.globals c.requires engine.globals_held) engine.globals_held in
    let count = second_or_not (λ (ms : List ModuleTree). 0 < length ms) c.args.added engine.globals c.insert_second.new.self c.insert_second.result put.ok put.err (second_count c.args.added engine.globals) engine.has_namespace in
    record { manifests_held = engine.manifests_held; globals_held = held; statics_held = engine.statics_held; has_namespace = count; builtins_held = engine.builtins_held; limited = engine.limited }

pub returns-clause-kept : goal.returns-clause-kept
unfolding lists_of
returns-clause-kept g c = refl
