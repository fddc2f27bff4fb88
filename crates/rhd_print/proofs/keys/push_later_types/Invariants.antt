use Rattle.std.proofs.Common.{◌≡◌, ◌++◌, drop}
use Rattle.std.specs.List.{flat_map}
use Rattle.rhd_print.specs.PrintedKeys.{later_type}
use Rattle.rhd_print.proofs.keys.push_later_types.Given as goal

abbrev pub invariant-loop-tag : goal.invariant-loop-tag
invariant-loop-tag l = l.out.items ++ flat_map later_type (drop l.tag-index l.tags) ≡ l.fn.out.items ++ flat_map later_type l.tags
