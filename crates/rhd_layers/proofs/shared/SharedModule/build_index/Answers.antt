use Rattle.std.proofs.Common.{◌≡◌, true, sym, subst, ◌∙◌}
use Rattle.std.specs.Map.{keys_of}
use Rattle.rhd_module.specs.Tree.{ModuleTree}
use Rattle.rhd_module.specs.Walk.{tree}
use Rattle.rhd_table.specs.Indexed.{NoneClash}
use Rattle.rhd_module.specs.Index.{indexed}
use Rattle.rhd_layers.proofs.shared.SharedModule.build_index.Goals as goal

pub returns-then-has_index : goal.returns-then-has_index
returns-then-has_index c =
    let at : ModuleTree = c.deref.result.now in
    let is : at.own.indexed ≡ true = sym c.has_index.ensures.indexed ∙ c.if-has_index.true in
    let P : ModuleTree → Type 0 = λ m. NoneClash m.own.seeds (keys_of (tree m)) × (m ≡ indexed m) in
    subst P (c.deref.ensures ∙ c.self.view_is) (c.has_index.ensures.apart is, λ i. record at { own = record at.own { indexed = is i } })
