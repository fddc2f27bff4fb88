use Rattle.std.proofs.Common.{◌≡◌, ◌+◌, true, length}
use Rattle.std.specs.List.{enumerate_from}
use Rattle.rhd_value.specs.Firsts.{first_of}
use Rattle.rhd_call.specs.declared.pick.Layer.TheVariants.{Static}
use Rattle.rhd_layers.specs.Lists.{all_indexed}
use Rattle.rhd_dispatch.specs.Walks.{named_at, numbered}
use Rattle.rhd_dispatch.proofs.root.static_root.Given as goal

abbrev pub invariant-loop-own : goal.invariant-loop-own
invariant-loop-own l = (l.number + length l.own-iterator ≡ length l.statics) × (all_indexed l.own-iterator ≡ true) × (first_of (named_at Static l.name) (enumerate_from l.number l.own-iterator) ≡ first_of (named_at Static l.name) (numbered l.statics))
