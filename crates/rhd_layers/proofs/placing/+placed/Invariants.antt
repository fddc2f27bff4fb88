use Rattle.std.proofs.Common.{length}
use Rattle.rhd_layers.proofs.placing.+placed.Given as goal

abbrev pub decreases-placed : goal.decreases-placed
decreases-placed l = length l.more.now
