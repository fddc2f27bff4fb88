use Rattle.std.proofs.Common.{sym, subst, List}
use Rattle.rhd_module.specs.Tree.{ModuleTree}
use Rattle.rhd_layers.specs.Marks.{Tells, itself, lacks}
use Rattle.rhd_layers.proofs.Told.{left_told, take_leaves}
use Rattle.rhd_layers.proofs.lists.ModuleList.truncate.Goals as goal

pub invariant_of-self : goal.invariant_of-self
invariant_of-self c =
    let P : List ModuleTree → Type 0 = λ ms. Tells itself lacks 128 c.self.inside.marks c.self.inside.keys ms in
    subst P (sym c.truncate.ensures.items) (left_told itself lacks 128 c.self.inside.marks c.self.inside.keys c.self.inside.items.items _ (take_leaves itself c.self.inside.items.items c.args.len) c.self.invariant)
