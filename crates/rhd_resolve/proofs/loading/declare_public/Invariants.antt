use Rattle.std.proofs.Common.{◌≡◌, Some, take}
use Rattle.rhd_resolve.specs.Loading.{with_scripts, public_functions}
use Rattle.rhd_resolve.proofs.loading.declare_public.Given as goal

abbrev pub invariant-loop-def : goal.invariant-loop-def
invariant-loop-def l = l.target ≡ with_scripts (Some l.env) (public_functions (take l.def-index l.functions)) l.initial.target
