use Rattle.std.proofs.Common.{length}
use Rattle.rhd_module.proofs.module.Module.+get_qualified_var.Given as goal

abbrev pub decreases-get_qualified_var : goal.decreases-get_qualified_var
decreases-get_qualified_var l = length l.path.now
