use Rattle.std.proofs.Common.{◌≡◌, ◌++◌, take, map}
use Rattle.rhd_engine.specs.Display.{display}
use Rattle.rhd_engine.specs.Of.{lists_of}
use Rattle.rhd_engine.proofs.engine.Engine.push_display_types.Given as goal

abbrev pub invariant-loop-value : goal.invariant-loop-value
invariant-loop-value g l = l.types ≡ l.fn.types ++ map (display (lists_of (λ b. (goal.PluginFunc-dyn g b).info b.1) l.self)) (take l.value-index l.values)
