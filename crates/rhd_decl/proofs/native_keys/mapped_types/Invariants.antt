use Rattle.std.proofs.Common.{◌≡◌, ◌++◌, take, map, true}
use Rattle.rhd_value.specs.Kinds.{map_type}
use Rattle.rhd_decl.proofs.native_keys.mapped_types.Given as goal

abbrev pub invariant-loop-tag : goal.invariant-loop-tag
invariant-loop-tag l = l.mapped ≡ l.initial.mapped ++ map (map_type true) (take l.tag-index l.others)
