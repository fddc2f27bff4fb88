use Rattle.std.proofs.Common.{◌≡◌, ◌++◌}
use Rattle.rhd_table.specs.Pairs.{put_all, Pairs}
use Rattle.rhd_table.proofs.growing.insert_all.Given as goal

abbrev pub invariant-loop-key : goal.invariant-loop-key
invariant-loop-key l =
    (more : Pairs) × (l.table ≡ record l.fn.table { pairs = l.fn.table.pairs ++ more }) × (l.table.pairs ≡ put_all l.yielded l.fn.table.pairs)
