use Rattle.std.proofs.Common.{◌≡◌, take}
use Rattle.rhd_value.specs.Firsts.{first_of}
use Rattle.rhd_call.specs.declared.pick.Layer.TheVariants.{Import}
use Rattle.rhd_dispatch.specs.Walks.{named_at, latest}
use Rattle.rhd_dispatch.proofs.root.import_root.Given as goal

abbrev pub invariant-loop-number : goal.invariant-loop-number
invariant-loop-number l = first_of (named_at Import l.name) (latest (take l.number l.imports)) ≡ first_of (named_at Import l.name) (latest l.imports)
