-- Which calls natives and bodies ask for, one after the other.
use Rattle.std.specs.Prelude.{◌≡◌, ℕ, zero, suc, pos, List, [], ◌∷◌, Option, Some, Result, Ok}
use Rattle.rhd_value.specs.Tree.{Tree, Bytes, text, integer}
use Rattle.rhd_value.specs.declared.fault.EvalAltResult.{EvalAltResult}
use Rattle.rhd_value.specs.declared.tag.Marks.{Marks}
use Rattle.rhd_func.specs.declared.request.Carry.{Carry}
use Rattle.rhd_func.specs.declared.request.CallRequest.{CallRequest}
use Rattle.rhd_func.specs.declared.request.NativeStep.{NativeStep}
use Rattle.rhd_func.specs.declared.request.NativeStep.TheVariants.{Done, Ask}
use Rattle.rhd_plan.specs.declared.body.BodyEnd.{BodyEnd}
use Rattle.rhd_plan.specs.declared.body.CallPlan.{CallPlan}
use Rattle.rhd_kit.specs.PlanBodies.{Scope, call_with, ends}

-- the step after a call that was asked, by what was kept and what came of it
abbrev pub Next : Type 0
Next = Carry → Result Tree EvalAltResult → NativeStep

-- it answers, and asks nothing more
abbrev pub IsDone : NativeStep → Type 0
IsDone step = (answer : Tree) × (first : Option Tree) × (step ≡ Done answer first)

-- from this step on the same call is asked so many times, whatever each is answered, and no more
abbrev pub AsksTimes : Next → CallRequest → ℕ → NativeStep → Type 0
AsksTimes next call zero step = IsDone step
AsksTimes next call (suc times) step = (carry : Carry) × (step ≡ Ask call carry) × ((answer : Tree) → AsksTimes next call times (next carry (Ok answer)))

-- from this step on these calls are asked once each, in order, each with what the body is given when it asks, whatever each is answered; and then the body ends
abbrev pub AsksInOrder : Next → List CallPlan → Option BodyEnd → Scope → NativeStep → Type 0
AsksInOrder next [] end scope step = step ≡ ends scope end
AsksInOrder next (call ∷ calls) end scope step =
    (carry : Carry) × (step ≡ Ask (call_with scope call.places call.request) carry) × ((answer : Tree) → AsksInOrder next calls end (record scope { latest = Some answer }) (next carry (Ok answer)))

-- a text and an integer, with any marks
abbrev pub name_and_times : Bytes → Marks → ℕ → Marks → List Tree
name_and_times name marks times others = (record { kind = text name; marks = marks }) ∷ (record { kind = integer (pos times); marks = others }) ∷ []
