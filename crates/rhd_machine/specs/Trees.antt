-- In which frame, at which level and between which moments each call of a tree runs.
use Rattle.std.specs.Prelude.{Bool, Option, None, Some}
use Rattle.rhd_call.specs.declared.node.CallNode.{CallNode}
use Rattle.rhd_call.specs.Seen.{Seen, seen}
use Rattle.rhd_call.specs.Trees.{InTree, is_root, is_below}
use Rattle.rhd_call.specs.declared.pick.Pick.{Pick}
use Rattle.rhd_engine.specs.Engine.{Frame}
use Rattle.rhd_machine.specs.World.{World, Objects, Moment}
use Rattle.rhd_machine.specs.Entered.{entered}
use Rattle.rhd_machine.specs.Runs.{Runs}

-- the frame that the function of a node enters, if it has one
abbrev pub frame_inside : World → Frame → Seen → Option Pick → Frame
frame_inside w f s None = f
frame_inside w f s (Some pick) = entered w.environs f s.level pick

-- the frame in which a call of a tree is asked for, where the root is asked for in this one
abbrev pub frame_at : {node root : CallNode} → World → Frame → InTree node root → Frame
frame_at w f is_root = f
frame_at w f (is_below {root = root} among inner) = frame_at w (frame_inside w f (seen root) (seen root).pick) inner

-- the node's call runs in this frame at its level, between some moments
abbrev pub RunsAt : {H B : Type 0} → Objects H B → World → Frame → CallNode → Type 0
RunsAt {H} {B} o w f node = (before : Moment H B) × (after : Moment H B) × (cut : Bool) × Runs o w f (seen node).level (seen node).call node before after cut
