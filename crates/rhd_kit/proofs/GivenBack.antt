-- Each step of the kit's natives and of the bodies of a text gives a first argument back exactly where one was given.
use Rattle.std.proofs.Common.{◌≡◌, ℕ, ℤ, Bool, true, false, List, refl, IfOk, subst, sym}
use Rattle.std.specs.Prelude.{◌==◌, ◌&&◌, pos, ◌-ℤ◌, int_lt, Option, None, Some, Result, Ok, Err, if◌then◌else◌, length}
use Rattle.std.specs.Option.{option_map}
use Rattle.rhd_value.specs.Tree.{Tree, unit}
use Rattle.rhd_value.specs.Kinds.{plain}
use Rattle.rhd_value.specs.declared.fault.EvalAltResult.{EvalAltResult}
use Rattle.rhd_func.specs.GivenBack.{GivesBack}
use Rattle.rhd_func.specs.declared.func.ScriptFuncDef.{ScriptFuncDef}
use Rattle.rhd_func.specs.declared.request.Carry.{Carry}
use Rattle.rhd_func.specs.declared.request.NativeStep.{NativeStep}
use Rattle.rhd_func.specs.declared.request.NativeStep.TheVariants.{Done}
use Rattle.rhd_func.specs.declared.request.NativeCallContext.{NativeCallContext}
use Rattle.rhd_plan.specs.declared.body.BodyEnd.{BodyEnd}
use Rattle.rhd_plan.specs.declared.body.BodyEnd.TheVariants.{Ret, RetGiven, Fail}
use Rattle.rhd_plan.specs.declared.body.BodyPlan.{BodyPlan}
use Rattle.rhd_plan.specs.declared.body.CallPlan.{CallPlan}
use Rattle.rhd_kit.specs.Kit.{int_at, text_at, answers, bytes_in, sum_of, changed_to, elements, last_of, without_last, payload_in, asks_once, asks_with_left, asks_often, kit_does, kit_next, passes_on, is_unit, is_name_with_left, goes_on}
use Rattle.rhd_kit.specs.Values.{argument_at, values_in, own_fault, bad_carry}
use Rattle.rhd_kit.specs.PlanBodies.{Scope, asks_or_ends, ends, next_after, body_step, body_next}

-- what holds of a step holds of the result that is this step
pub back_ok : {E : Type 0} (r : Result NativeStep E) (s : NativeStep) (first : Option Tree) → GivesBack first s → IfOk r (λ step. step ≡ s) → IfOk r (GivesBack first)
back_ok (Ok step) s first back e = subst (GivesBack first) (sym e) back
back_ok (Err e) s first back h = tt

-- one of two steps
pub back_if : (b : Bool) (s t : NativeStep) (first : Option Tree) → GivesBack first s → GivesBack first t → GivesBack first (if b then s else t)
back_if true s t first x y = x
back_if false s t first x y = y

-- one that is changed is there still
pub back_changed : (change : Tree → Tree) (answer : Tree) (first : Option Tree) → GivesBack first (Done answer (option_map change first))
back_changed change answer None = refl
back_changed change answer (Some x) = refl

-- The natives.

often_back : (ctx : Option NativeCallContext) (name : Tree) (times : ℤ) (first : Option Tree) → GivesBack first (asks_often ctx name times first)
often_back ctx name times first = back_if (int_lt times (pos 1)) (Done (plain unit) first) (asks_with_left ctx name (times -ℤ pos 1) first) first refl refl

pub does_back : (number : ℕ) (ctx : Option NativeCallContext) (first : Option Tree) (args : List Tree) → GivesBack first (kit_does number ctx first args)
unfolding kit_does
does_back number ctx first args =
    back_if (number == 6) (answers (bytes_in (text_at args 0)) first) _ first refl
    (back_if (number == 7) (answers (sum_of args) first) _ first refl
    (back_if (number == 8) (Done (last_of (elements args)) (option_map without_last first)) _ first (back_changed without_last (last_of (elements args)) first)
    (back_if (number == 9) (answers (pos (length (elements args))) first) _ first refl
    (back_if (number == 10) (Done (argument_at args 0) first) _ first refl
    (back_if (number == 11) (own_fault (text_at args 0) first) _ first refl
    (back_if (number == 12) (asks_once ctx (text_at args 0) first) _ first refl
    (back_if (number == 13) (asks_often ctx (argument_at args 0) (int_at args 1) first) _ first (often_back ctx (argument_at args 0) (int_at args 1) first)
    (back_if (number == 15) (answers (payload_in (argument_at args 0).kind) first) _ first refl
    (back_if (number == 19) (Done (plain unit) (option_map (changed_to (sum_of args)) first)) (answers (pos number) first) first (back_changed (changed_to (sum_of args)) (plain unit) first) refl)))))))))

passes_back : (answer : Result Tree EvalAltResult) (first : Option Tree) → GivesBack first (passes_on answer first)
passes_back (Ok answer) first = refl
passes_back (Err fault) first = refl

goes_back : (ctx : Option NativeCallContext) (name : Tree) (left : ℤ) (answer : Result Tree EvalAltResult) (first : Option Tree) → GivesBack first (goes_on ctx name left answer first)
goes_back ctx name left (Ok answer) first = back_if (int_lt left (pos 1)) (Done answer first) (asks_with_left ctx name (left -ℤ pos 1) first) first refl refl
goes_back ctx name left (Err fault) first = refl

pub kit_next_back : (number : ℕ) (ctx : Option NativeCallContext) (carry : Carry) (answer : Result Tree EvalAltResult) → GivesBack carry.first (kit_next number ctx carry answer)
kit_next_back number ctx carry answer =
    let kept = values_in carry.kept.kind in
    let goes = goes_on ctx (argument_at kept 0) (int_at kept 1) answer carry.first in
    let often = (number == 13) && is_name_with_left kept in
    back_if ((number == 12) && is_unit carry.kept) (passes_on answer carry.first) (if often then goes else bad_carry carry.first) carry.first (passes_back answer carry.first)
    (back_if often goes (bad_carry carry.first) carry.first (goes_back ctx (argument_at kept 0) (int_at kept 1) answer carry.first) refl)

-- The bodies.

ends_back : (scope : Scope) (end : Option BodyEnd) → GivesBack scope.object (ends scope end)
ends_back scope None = refl
ends_back scope (Some (Ret answer)) = refl
ends_back scope (Some (RetGiven given)) = refl
ends_back scope (Some (Fail text)) = refl

asks_back : (call : Option CallPlan) (end : Option BodyEnd) (asked : ℕ) (scope : Scope) → GivesBack scope.object (asks_or_ends call end asked scope)
asks_back None end asked scope = ends_back scope end
asks_back (Some call) end asked scope = refl

pub body_step_back : (plans : List BodyPlan) (def : ScriptFuncDef) (object : Option Tree) (args : List Tree) → GivesBack object (body_step plans def object args)
body_step_back plans def object args = asks_back _ _ 0 _

next_back : (plan : BodyPlan) (asked : Option ℕ) (object : Option Tree) (args : List Tree) (answer : Result Tree EvalAltResult) → GivesBack object (next_after plan asked object args answer)
next_back plan None object args answer = refl
next_back plan (Some asked) object args (Err fault) = refl
next_back plan (Some asked) object args (Ok latest) = asks_back _ _ asked _

pub body_next_back : (plans : List BodyPlan) (def : ScriptFuncDef) (carry : Carry) (answer : Result Tree EvalAltResult) → GivesBack carry.first (body_next plans def carry answer)
body_next_back plans def carry answer = next_back _ _ carry.first _ answer
