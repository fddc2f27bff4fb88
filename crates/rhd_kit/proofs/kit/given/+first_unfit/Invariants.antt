use Rattle.std.proofs.Common.{length}
use Rattle.rhd_kit.proofs.kit.given.+first_unfit.Given as goal

abbrev pub decreases-first_unfit : goal.decreases-first_unfit
decreases-first_unfit l = length l.types.now
