use Rattle.std.proofs.Common.{◌≡◌, List, reverse}
use Rattle.rhd_value.specs.Tree.{Bytes}
use Rattle.rhd_map.specs.Puts.{IsPut}
use Rattle.rhd_map.proofs.puts.take_back.Given as goal

abbrev pub invariant-loop-name : goal.invariant-loop-name
invariant-loop-name g l = (es : List (Bytes × _)) → IsPut (reverse l.initial.replaced.items) es l.initial.map.entries → IsPut (reverse l.replaced.items) es l.map.entries

abbrev pub decreases-loop-name : goal.decreases-loop-name
decreases-loop-name g l = goal.left-loop-name g l
