use Rattle.std.proofs.Common.{◌≡◌, drop}
use Rattle.rhd_value.specs.Firsts.{first_of}
use Rattle.rhd_engine.specs.Display.{display_in}
use Rattle.rhd_engine.proofs.display.shown_in.Given as goal

abbrev pub invariant-loop-shared : goal.invariant-loop-shared
invariant-loop-shared l = first_of (display_in l.name) (drop l.shared-index l.modules) ≡ first_of (display_in l.name) l.modules
