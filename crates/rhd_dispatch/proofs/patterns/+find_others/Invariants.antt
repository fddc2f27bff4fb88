use Rattle.std.proofs.Common.{◌-◌}
use Rattle.rhd_dispatch.proofs.patterns.+find_others.Given as goal

abbrev pub decreases-find_others : goal.decreases-find_others
decreases-find_others g l = 16 - l.place
