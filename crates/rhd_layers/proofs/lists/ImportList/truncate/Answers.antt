use Rattle.std.proofs.Common.{◌≡◌, true, sym, subst}
use Rattle.rhd_layers.specs.Lists.{Imports, all_indexed}
use Rattle.rhd_layers.specs.Marks.{Tells, named_one, lacks_below}
use Rattle.rhd_layers.proofs.Indexed.{taken}
use Rattle.rhd_layers.proofs.Told.{left_told, take_leaves}
use Rattle.rhd_layers.proofs.lists.ImportList.truncate.Goals as goal

pub invariant_of-self : goal.invariant_of-self
invariant_of-self c =
    let es = c.self.inside.items.items in
    let P : Imports → Type 0 = λ es. (all_indexed es ≡ true) × Tells named_one lacks_below 128 c.self.inside.marks c.self.inside.keys es in
    subst P (sym c.truncate.ensures.items) (taken es c.args.len c.self.invariant.0, left_told named_one lacks_below 128 c.self.inside.marks c.self.inside.keys es _ (take_leaves named_one es c.args.len) c.self.invariant.1)
