use Rattle.std.proofs.Common.{◌≡◌, true, sym, subst, ◌∙◌}
use Rattle.rhd_module.specs.Tree.{ModuleTree}
use Rattle.rhd_module.specs.Index.{IsIndexOf}
use Rattle.rhd_module.proofs.module.Module.build_index.Goals as goal

pub returns-then-has_index : goal.returns-then-has_index
returns-then-has_index c =
    let m : ModuleTree = c.args.self.now in
    let is : m.own.indexed ≡ true = sym c.has_index.ensures.indexed ∙ c.if-has_index.true in
    (c.has_index.ensures.apart is, λ i. record m { own = record m.own { indexed = is i } })

pub invariant_of-self : goal.invariant_of-self
invariant_of-self c =
    (c.self.invariant.0, λ _. subst (λ (m : ModuleTree). IsIndexOf c.in_ok-index.index.value m) (sym c.self.view_is) c.in_ok-index.ensures.index)
