-- What the bodies of a session text do.
use Rattle.std.specs.Prelude.{◌≡◌, ℕ, ◌+◌, ◌&&◌, nat_le, ℤ, pos, List, [], ◌∷◌, length, drop, slice_get, slice_set, Option, None, Some, unwrap_or, Result, Ok, Err, if◌then◌else◌}
use Rattle.rhd_value.specs.Tree.{Tree, unit, integer, array, items_of}
use Rattle.rhd_value.specs.Kinds.{plain, int_in}
use Rattle.rhd_value.specs.declared.fault.EvalAltResult.{EvalAltResult}
use Rattle.rhd_func.specs.declared.func.ScriptFuncDef.{ScriptFuncDef}
use Rattle.rhd_func.specs.declared.request.Carry.{Carry}
use Rattle.rhd_func.specs.declared.request.CallDone.{CallDone}
use Rattle.rhd_func.specs.declared.request.NativeCallContext.{NativeCallContext}
use Rattle.rhd_func.specs.declared.request.CallRequest.{CallRequest}
use Rattle.rhd_func.specs.declared.request.CallRequest.TheVariants.{Named, Qualified}
use Rattle.rhd_func.specs.declared.request.CallShape.{CallShape}
use Rattle.rhd_func.specs.declared.request.CallShape.TheVariants.{Plain, ByRef, Method}
use Rattle.rhd_func.specs.Shapes.{all_args}
use Rattle.rhd_func.specs.declared.request.NativeStep.{NativeStep}
use Rattle.rhd_func.specs.declared.request.NativeStep.TheVariants.{Done, Failed, Ask}
use Rattle.rhd_plan.specs.declared.body.BodyEnd.{BodyEnd}
use Rattle.rhd_plan.specs.declared.body.BodyEnd.TheVariants.{Ret, RetGiven, Fail}
use Rattle.rhd_plan.specs.declared.body.BodyPlan.{BodyPlan}
use Rattle.rhd_plan.specs.declared.body.CallPlan.{CallPlan}
use Rattle.rhd_syntax.specs.declared.given.Given.{Given}
use Rattle.rhd_syntax.specs.declared.given.Given.TheVariants.{This, Last, Arg}
use Rattle.rhd_syntax.specs.declared.given.GivenAt.{GivenAt}
use Rattle.rhd_kit.specs.Values.{argument_at, own_fault, bad_carry, values_in}

-- What a body is given.

-- the object of the call, the answer of the call made last, and the arguments
pub record Scope : Type 0 where
  pub object : Option Tree
  pub latest : Option Tree
  pub args : List Tree

-- the value that a body is given; unit where there is none
abbrev pub given_in : Scope → Given → Option Tree
given_in scope This = scope.object
given_in scope Last = scope.latest
given_in scope (Arg number) = slice_get scope.args number

abbrev pub value_given : Scope → Given → Tree
value_given scope given = unwrap_or (given_in scope given) (plain unit)

-- The calls and the end.

-- values with each given one in its place
abbrev pub with_given : Scope → List GivenAt → List Tree → List Tree
with_given scope [] values = values
with_given scope (p ∷ places) values = with_given scope places (slice_set values p.place (value_given scope p.given))

-- other arguments in the same shape: a first one by reference or an object stands first among them
abbrev pub with_args : CallShape → List Tree → CallShape
with_args (Plain _) values = Plain values
with_args (ByRef _ _) values = ByRef (argument_at values 0) (drop 1 values)
with_args (Method _ _) values = Method (argument_at values 0) (drop 1 values)

-- a call as it is asked; places count all arguments
abbrev pub call_with : Scope → List GivenAt → CallRequest → CallRequest
call_with scope places (Named name token native_only shape want position) = Named name token native_only (with_args shape (with_given scope places (all_args shape))) want position
call_with scope places (Qualified path name shape position) = Qualified path name (with_args shape (with_given scope places (all_args shape))) position

-- what a body keeps: the number of calls asked so far, and its arguments
abbrev pub with_count : ℕ → List Tree → List Tree
with_count asked args = plain (integer (pos asked)) ∷ args

-- asks a call, so many having been asked before
abbrev pub asks_call : ℕ → Scope → CallPlan → NativeStep
asks_call asked scope call = Ask (call_with scope call.places call.request) (record { first = scope.object; kept = plain (array (items_of (with_count (asked + 1) scope.args))) })

-- the end; a body without one answers unit
abbrev pub ends : Scope → Option BodyEnd → NativeStep
ends scope None = Done (plain unit) scope.object
ends scope (Some (Ret answer)) = Done answer scope.object
ends scope (Some (RetGiven given)) = Done (value_given scope given) scope.object
ends scope (Some (Fail text)) = own_fault text scope.object

-- the call, where there is one, else the end
abbrev pub asks_or_ends : Option CallPlan → Option BodyEnd → ℕ → Scope → NativeStep
asks_or_ends (Some call) end asked scope = asks_call asked scope call
asks_or_ends None end asked scope = ends scope end

-- the step of a body that has asked so many of its calls
abbrev pub step_after : BodyPlan → ℕ → Scope → NativeStep
step_after plan asked scope = asks_or_ends (slice_get plan.calls asked) plan.end asked scope

-- The steps.

-- the body of a number; where there is none, one without calls and end
abbrev pub plan_of : List BodyPlan → ScriptFuncDef → BodyPlan
plan_of plans def = unwrap_or (slice_get plans def.body.0) (record { calls = []; end = None })

-- the first step: no call was asked
abbrev pub body_step : List BodyPlan → ScriptFuncDef → Option Tree → List Tree → NativeStep
body_step plans def object args = step_after (plan_of plans def) 0 (record { object = object; latest = None; args = args })

-- the number of calls asked so far, of 1 to all of them; of another value, none
abbrev pub count_of : ℕ → Option ℤ → Option ℕ
count_of calls (Some (pos asked)) = if nat_le 1 asked && nat_le asked calls then Some asked else None
count_of calls _ = None

-- the same of the first of what is kept, whatever its marks
abbrev pub count_in : ℕ → List Tree → Option ℕ
count_in calls [] = None
count_in calls (count ∷ args) = count_of calls (int_in count.kind)

-- the next step of a body that asked so many calls: a fault at once, else the next call or the end
abbrev pub next_after : BodyPlan → Option ℕ → Option Tree → List Tree → Result Tree EvalAltResult → NativeStep
next_after plan None object args answer = bad_carry object
next_after plan (Some asked) object args (Err fault) = Failed fault object
next_after plan (Some asked) object args (Ok latest) = step_after plan asked (record { object = object; latest = Some latest; args = args })

-- the step after a call, by what the body kept and what came of the call
abbrev pub body_next : List BodyPlan → ScriptFuncDef → Carry → Result Tree EvalAltResult → NativeStep
body_next plans def carry answer =
    let kept = values_in carry.kept.kind in
    next_after (plan_of plans def) (count_in (length (plan_of plans def).calls) kept) carry.first (drop 1 kept) answer

-- The relations of bodies: each allows one step, and the bodies stay as they were.

abbrev pub plan_starts : List BodyPlan → ScriptFuncDef → NativeCallContext → Option Tree → List Tree → NativeStep → List BodyPlan → Type 0
plan_starts plans def ctx object args step after = (step ≡ body_step plans def object args) × (after ≡ plans)

abbrev pub plan_resumes : List BodyPlan → ScriptFuncDef → NativeCallContext → Carry → CallDone → NativeStep → List BodyPlan → Type 0
plan_resumes plans def ctx carry done step after = (step ≡ body_next plans def carry done.answer) × (after ≡ plans)
