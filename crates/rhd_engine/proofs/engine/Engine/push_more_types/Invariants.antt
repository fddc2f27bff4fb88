use Rattle.std.proofs.Common.{◌≡◌, ◌++◌, take, codes, string_bytes}
use Rattle.std.specs.List.{flat_map}
use Rattle.rhd_engine.specs.Display.{in_signature}
use Rattle.rhd_engine.specs.Of.{lists_of}
use Rattle.rhd_engine.proofs.engine.Engine.push_more_types.Given as goal

abbrev pub invariant-loop-value : goal.invariant-loop-value
invariant-loop-value g l = string_bytes l.out ≡ string_bytes l.fn.out ++ flat_map (λ v. codes ", " ++ in_signature (lists_of (λ b. (goal.PluginFunc-dyn g b).info b.1) l.self) v) (take l.value-index l.values)
