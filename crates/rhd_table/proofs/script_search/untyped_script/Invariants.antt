use Rattle.std.proofs.Common.{◌≡◌, None, if◌then◌else◌}
use Rattle.rhd_value.specs.Firsts.{first_of}
use Rattle.rhd_hash.specs.declared.key.Key.TheVariants.{Script}
use Rattle.rhd_hash.specs.Keys.{key_eq}
use Rattle.rhd_func.specs.Funcs.{script_def_of}
use Rattle.rhd_table.proofs.script_search.untyped_script.Given as goal

abbrev pub invariant-loop-key : goal.invariant-loop-key
invariant-loop-key l =
    first_of (λ p. if key_eq (Script None l.name l.params) p.0 then script_def_of p.1.func else None) l.key-iterator
    ≡ first_of (λ p. if key_eq (Script None l.name l.params) p.0 then script_def_of p.1.func else None) l.table.pairs
