use Rattle.std.proofs.Common.{ap, subst, ◌∙◌}
use Rattle.std.specs.Map.{keys_of}
use Rattle.rhd_module.specs.Tree.{ModuleTree}
use Rattle.rhd_module.specs.Walk.{tree}
use Rattle.rhd_table.specs.Indexed.{NoneClash}
use Rattle.rhd_module.proofs.module.Module.has_index.Goals as goal

pub returns-clause-apart : goal.returns-clause-apart
returns-clause-apart c = λ is.
    let P : ModuleTree → Type 0 = λ m. NoneClash m.own.seeds (keys_of (tree m)) in
    subst P c.self.view_is (c.self.invariant.1 (ap (λ (m : ModuleTree). m.own.indexed) c.self.view_is ∙ is)).1
