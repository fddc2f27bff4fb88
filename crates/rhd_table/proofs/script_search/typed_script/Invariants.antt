use Rattle.std.proofs.Common.{◌≡◌, None, if◌then◌else◌}
use Rattle.rhd_value.specs.Firsts.{first_of}
use Rattle.rhd_table.specs.Found.{is_typed_of}
use Rattle.rhd_func.specs.Funcs.{script_def_of}
use Rattle.rhd_table.proofs.script_search.typed_script.Given as goal

abbrev pub invariant-loop-key : goal.invariant-loop-key
invariant-loop-key l = first_of (λ p. if is_typed_of l.name l.params p.0 then script_def_of p.1.func else None) l.key-iterator ≡ first_of (λ p. if is_typed_of l.name l.params p.0 then script_def_of p.1.func else None) l.table.pairs
