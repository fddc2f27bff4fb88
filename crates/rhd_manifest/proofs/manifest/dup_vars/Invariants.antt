use Rattle.std.proofs.Common.{◌≡◌, take}
use Rattle.rhd_manifest.proofs.manifest.dup_vars.Given as goal

abbrev pub invariant-loop-var : goal.invariant-loop-var
invariant-loop-var l = l.copy.items ≡ take l.var-index l.vars
