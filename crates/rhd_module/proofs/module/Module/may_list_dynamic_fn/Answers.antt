use Rattle.std.proofs.Common.{◌≡◌, ◌&&◌, Bool, false, not, sym, ap, ◌∙◌}
use Rattle.rhd_manifest.specs.Listing.{is_none_of}
use Rattle.rhd_module.specs.Tree.{ModuleTree}
use Rattle.rhd_table.specs.Marks.{may_be_dynamic}
use Rattle.rhd_module.specs.Below.{declares_dynamic, may_list_dynamic}
use Rattle.rhd_module.specs.contracts.module.Module.{the_view}
use Rattle.rhd_module.proofs.Listed.{any_shown, twice}
use Rattle.rhd_module.proofs.module.Module.may_list_dynamic_fn.Goals as goal

pub returns-then-not-is_empty : goal.returns-then-not-is_empty
returns-then-not-is_empty c =
    let hash = c.args.hash in
    let m = the_view c.self.inside in
    let some : is_none_of m.own.listed ≡ false = sym c.is_empty.ensures ∙ c.if-not-is_empty.true in
    ap not c.is_absent.ensures ∙ twice _ ∙ c.self.invariant.0 hash ∙ sym (any_shown (may_be_dynamic m.own.seeds hash) m.own.seeds m.own.eager m.own.listed)
    ∙ ap (λ (b : Bool). not b && declares_dynamic m.own.seeds hash m.own) (sym some) ∙ ap (λ (t : ModuleTree). may_list_dynamic t.own.seeds hash t.own) c.self.view_is
