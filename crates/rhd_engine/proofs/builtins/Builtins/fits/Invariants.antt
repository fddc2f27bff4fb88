use Rattle.std.proofs.Common.{◌≡◌, length}
use Rattle.rhd_engine.specs.Held.{builtins_held}
use Rattle.rhd_engine.proofs.builtins.Builtins.fits.Given as goal

abbrev pub invariant-loop-operator : goal.invariant-loop-operator
invariant-loop-operator g l = builtins_held (length l.natives.items.items) l._operator-iterator ≡ builtins_held (length l.natives.items.items) l.self
