-- Which replies answer a call.
use Rattle.std.specs.Prelude.{Bool}
use Rattle.rhd_func.specs.declared.request.CallRequest.{CallRequest}
use Rattle.rhd_call.specs.declared.reply.Reply.{Reply}
use Rattle.rhd_call.specs.declared.reply.Reply.TheVariants.{Called}
use Rattle.rhd_engine.specs.Engine.{Frame}
use Rattle.rhd_machine.specs.World.{World, Objects, Moment}
use Rattle.rhd_machine.specs.Runs.{Runs}
use Rattle.rhd_machine.specs.Setting.{Setting}

-- a call is answered by a tree that runs at level 1
abbrev pub CallReplied : {H B : Type 0} → Objects H B → World → Frame → Moment H B → CallRequest → Reply → Moment H B → Type 0
CallReplied o w f before request (Called node) after = (cut : Bool) × Runs o w f 1 request node before after cut
CallReplied o w f before request reply after = ⊥

-- the same in a setting
abbrev pub CallRepliedIn : {H B : Type 0} → Setting H B → Moment H B → CallRequest → Reply → Moment H B → Type 0
CallRepliedIn s before request reply after = CallReplied s.objects s.world s.frame before request reply after
