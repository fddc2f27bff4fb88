use Rattle.std.proofs.Common.{◌∙◌, ap}
use Rattle.rhd_decl.specs.Flags.{flags_of}
use Rattle.rhd_decl.proofs.Marks.{flags_standard}
use Rattle.rhd_decl.proofs.flags.Switches.set_standard.Goals as goal

pub returns : goal.returns
returns c = rw (← c.self.view_is) (ap flags_of (c.set.ensures tt) ∙ flags_standard c.args.value c.self.inside.bits.0)
