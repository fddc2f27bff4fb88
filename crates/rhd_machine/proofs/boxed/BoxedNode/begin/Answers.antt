use Rattle.std.proofs.Common.{◌∙◌}
use Rattle.rhd_machine.proofs.boxed.BoxedNode.begin.Goals as goal

pub returns : goal.returns
returns g c = λ modules environs begun begins within.
    let same = c.deref_mut.ensures.value ∙ c.self.view_is in
    (rw same at (c.begin.ensures modules environs begun)) begins within
