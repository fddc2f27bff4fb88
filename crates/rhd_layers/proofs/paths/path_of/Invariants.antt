use Rattle.std.proofs.Common.{◌≡◌, ◌++◌, length, IsUtf8}
use Rattle.rhd_layers.specs.Paths.{path_of}
use Rattle.rhd_layers.proofs.paths.path_of.Given as goal

abbrev pub invariant-parts : goal.invariant-parts
invariant-parts l = (l.names ++ path_of l.rest ≡ path_of l.path) × IsUtf8 l.rest

abbrev pub decreases-parts : goal.decreases-parts
decreases-parts l = length l.rest
