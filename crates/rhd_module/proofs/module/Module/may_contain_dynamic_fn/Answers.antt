use Rattle.std.proofs.Common.{not, sym, ap, ◌∙◌}
use Rattle.std.specs.Prelude.{if◌then◌else◌}
use Rattle.rhd_module.specs.Tree.{ModuleTree}
use Rattle.rhd_module.specs.Below.{some_in, declares_dynamic, may_contain}
use Rattle.rhd_table.specs.Marks.{may_be_dynamic}
use Rattle.rhd_module.specs.contracts.module.Module.{the_view}
use Rattle.rhd_module.proofs.Listed.{any_shown, twice}
use Rattle.rhd_module.proofs.module.Module.may_contain_dynamic_fn.Goals as goal

pub returns : goal.returns
returns c =
    let hash = c.args.hash in
    let m = the_view c.self.inside in
    ap not c.is_absent.ensures ∙ twice _ ∙ c.self.invariant.0 hash ∙ sym (any_shown (may_be_dynamic m.own.seeds hash) m.own.seeds m.own.eager m.own.listed)
    ∙ ap (λ b. if b then some_in (declares_dynamic m.own.seeds hash) m else declares_dynamic m.own.seeds hash m.own) c.if-is_indexed.ensures
    ∙ ap (λ (t : ModuleTree). may_contain t hash) c.self.view_is
