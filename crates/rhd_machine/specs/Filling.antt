-- THE MACHINE'S OWN WORDS, not to be believed: how it fills a node.
use Rattle.std.specs.Prelude.{◌≡◌, ℕ, false, [], ◌∷◌, ◌++◌, Option, Some, None}
use Rattle.rhd_value.specs.Tree.{Tree}
use Rattle.rhd_func.specs.declared.request.CallRequest.{CallRequest}
use Rattle.rhd_func.specs.declared.request.Carry.{Carry}
use Rattle.rhd_func.specs.declared.request.HostAnswer.{HostAnswer}
use Rattle.rhd_call.specs.declared.pick.Pick.{Pick}
use Rattle.rhd_call.specs.declared.node.CallNode.{CallNode}
use Rattle.rhd_call.specs.declared.reply.Reply.{Reply}
use Rattle.rhd_call.specs.declared.reply.Reply.TheVariants.{Called}
use Rattle.rhd_call.specs.End.{End}
use Rattle.rhd_call.specs.Seen.{Seen, seen, begun_node, cut_end}
use Rattle.rhd_engine.specs.Engine.{EngineLists}
use Rattle.rhd_machine.specs.Plans.{plan_of}
use Rattle.rhd_machine.specs.Ends.{missing_end, host_end}

-- a call that is begun and not yet ended: its node shows what it shows where the budget is spent within the call
abbrev pub begun_call : CallRequest → ℕ → Seen
begun_call call level = begun_node call level None [] [] (cut_end call)

-- a call that is begun, of which nothing is known yet
abbrev pub is_begun : Seen → Type 0
is_begun s = s ≡ begun_call s.call s.level

-- the same call, not begun
abbrev pub unbegun_as : Seen → Option Tree → Seen
unbegun_as s first = record s { begun = false; end = record s.end { first_after = first } }

-- the same call, ended
abbrev pub with_end : Seen → End → Seen
with_end s end = record s { end = end }

-- the same call, ended where no function is found and the host isn't asked
abbrev pub ended_unfound : EngineLists → Seen → Seen
ended_unfound e s = with_end s (missing_end e (plan_of s.call))

-- the same call, ended by what the host answers
abbrev pub ended_by_host : EngineLists → Seen → HostAnswer → Seen
ended_by_host e s answer = with_end s (host_end e (plan_of s.call) answer)

-- the same call, which shows its pick
abbrev pub picking : Seen → Pick → Seen
picking s pick = record s { pick = Some pick }

-- the same call, with the answer to one more request
abbrev pub joined : Seen → Carry → CallNode → Seen
joined s carry child = record s { carries = s.carries ++ carry ∷ []; children = s.children ++ child ∷ [] }

-- the same call, closed where the budget was spent within the child that it waits for
abbrev pub closed : Seen → Pick → Carry → CallNode → Seen
closed s pick carry child = picking (joined s carry child) pick

-- the node of this call is begun at level 1, and nothing more
abbrev pub IsBegunFor : CallRequest → Reply → Type 0
IsBegunFor request (Called node) = seen node ≡ begun_call request 1
IsBegunFor request reply = ⊥
