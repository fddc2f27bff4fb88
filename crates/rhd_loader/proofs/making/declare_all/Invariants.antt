use Rattle.std.proofs.Common.{◌≡◌, None, take}
use Rattle.rhd_resolve.specs.Loading.{with_scripts}
use Rattle.rhd_loader.proofs.making.declare_all.Given as goal

abbrev pub invariant-loop-def : goal.invariant-loop-def
invariant-loop-def l = l.target ≡ with_scripts None (take l.def-index l.defs) l.initial.target
