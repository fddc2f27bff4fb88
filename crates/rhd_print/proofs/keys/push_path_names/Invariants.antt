use Rattle.std.proofs.Common.{◌≡◌, ◌++◌, drop}
use Rattle.std.specs.List.{flat_map}
use Rattle.rhd_print.specs.PrintedKeys.{path_name}
use Rattle.rhd_print.proofs.keys.push_path_names.Given as goal

abbrev pub invariant-loop-name : goal.invariant-loop-name
invariant-loop-name l = l.out.items ++ flat_map path_name (drop l.name-index l.names) ≡ l.fn.out.items ++ flat_map path_name l.names
