use Rattle.std.proofs.Common.{◌≡◌}
use Rattle.rhd_table.specs.Pairs.{put_all}
use Rattle.rhd_table.proofs.growing.replace_all.Given as goal

abbrev pub invariant-loop-key : goal.invariant-loop-key
invariant-loop-key l = l.table ≡ record l.fn.table { pairs = put_all l.yielded l.fn.table.pairs }
