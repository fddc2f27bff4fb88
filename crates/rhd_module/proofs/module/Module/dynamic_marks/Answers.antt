use Rattle.std.proofs.Common.{◌≡◌, true, sym, ap, ◌∙◌}
use Rattle.std.specs.Prelude.{if◌then◌else◌}
use Rattle.rhd_hash.specs.Filter.{is_marked}
use Rattle.rhd_module.specs.Below.{some_in, declares_dynamic, may_contain}
use Rattle.rhd_module.specs.Tree.{ModuleTree}
use Rattle.rhd_table.specs.Marks.{may_be_dynamic}
use Rattle.rhd_module.specs.contracts.module.Module.{the_view}
use Rattle.rhd_module.proofs.Covered.{index_of}
use Rattle.rhd_module.proofs.Listed.{any_shown}
use Rattle.rhd_module.proofs.module.Module.dynamic_marks.Goals as goal

pub returns-then-is_indexed : goal.returns-then-is_indexed
returns-then-is_indexed c = λ hash.
    let m = c.args.self.now in
    let indexed : m.own.indexed ≡ true = ap (λ (t : ModuleTree). t.own.indexed) (sym c.self.view_is) ∙ sym c.is_indexed.ensures ∙ c.if-is_indexed.true in
    let is = index_of c.self.inside.index.value c.deref.result.now (the_view c.self.inside) m c.self.invariant.1 c.self.view_is c.deref.ensures indexed in
    ap (λ marks. is_marked 8 marks hash) c.dynamic_marks.ensures ∙ is.3 hash
    ∙ ap (λ b. if b then some_in (declares_dynamic m.own.seeds hash) m else declares_dynamic m.own.seeds hash m.own) (sym indexed)

pub returns : goal.returns
returns c = λ hash.
    let m = the_view c.self.inside in
    c.self.invariant.0 hash ∙ sym (any_shown (may_be_dynamic m.own.seeds hash) m.own.seeds m.own.eager m.own.listed)
    ∙ ap (λ b. if b then some_in (declares_dynamic m.own.seeds hash) m else declares_dynamic m.own.seeds hash m.own) c.if-is_indexed.ensures
    ∙ ap (λ (t : ModuleTree). may_contain t hash) c.self.view_is
