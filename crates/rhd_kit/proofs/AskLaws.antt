-- How often the native of number 13 asks, and which calls a body asks.
use Rattle.std.proofs.Common.{◌≡◌, ℕ, zero, suc, ◌+◌, ◌<◌, Bool, true, false, List, [], ◌∷◌, length, refl, sym, ap, ◌∙◌, subst, arith}
use Rattle.std.specs.Prelude.{pos, ◌-ℤ◌, int_le, int_lt, nat_le, ◌&&◌, slice_get, Option, None, Some, Ok, if◌then◌else◌}
use Rattle.std.proofs.lemmas.Option.{slice_get_within}
use Rattle.rhd_value.specs.Tree.{Tree, Bytes, unit, text, array, items_of}
use Rattle.rhd_value.specs.Kinds.{plain}
use Rattle.rhd_value.specs.declared.tag.Marks.{Marks}
use Rattle.rhd_func.specs.declared.func.ScriptFuncDef.{ScriptFuncDef}
use Rattle.rhd_func.specs.declared.request.Carry.{Carry}
use Rattle.rhd_func.specs.declared.request.NativeCallContext.{NativeCallContext}
use Rattle.rhd_func.specs.declared.request.NativeStep.{NativeStep}
use Rattle.rhd_func.specs.declared.request.NativeStep.TheVariants.{Done}
use Rattle.rhd_plan.specs.declared.body.BodyPlan.{BodyPlan}
use Rattle.rhd_plan.specs.declared.body.CallPlan.{CallPlan}
use Rattle.rhd_kit.specs.Asks.{AsksTimes, AsksInOrder, name_and_times}
use Rattle.rhd_kit.specs.Kit.{kit_info, kit_does, kit_takes, kit_step, kit_next, arguments, call_of, asks_with_left, asks_often, with_left, goes_on}
use Rattle.rhd_kit.specs.PlanBodies.{step_after, with_count, body_step, body_next}
use Rattle.rhd_kit.proofs.Arrays.{items_list}

-- The native.

-- what stands before and after a number
zero_le : (n : ℕ) → int_le (pos 0) (pos n) ≡ true
zero_le n = grind arith

not_below_one : (n : ℕ) → int_lt (pos (suc n)) (pos 1) ≡ false
not_below_one n = grind arith

one_less : (n : ℕ) → pos (suc n) -ℤ pos 1 ≡ pos n
one_less n = grind arith

-- the second of two steps
otherwise : (b : Bool) (s t : NativeStep) → b ≡ false → (if b then s else t) ≡ t
otherwise b s t e = rw e refl

-- what it keeps of a name with so many calls still to come
abbrev kept_of : Tree → ℕ → Option Tree → Carry
kept_of name left first = record { first = first; kept = plain (array (items_of (with_left name (pos left)))) }

abbrev named : Bytes → Marks → Tree
named w marks = record { kind = text w; marks = marks }

goes : (ctx : Option NativeCallContext) (w : Bytes) (marks : Marks) (first : Option Tree) (left : ℕ) (answer : Tree) → kit_next 13 ctx (kept_of (named w marks) left first) (Ok answer) ≡ goes_on ctx (named w marks) (pos left) (Ok answer) first
goes ctx w marks first left answer = rw (zero_le left) refl

-- it asks again where calls are still to come
goes_again : (ctx : Option NativeCallContext) (name : Tree) (first : Option Tree) (left : ℕ) (answer : Tree) → goes_on ctx name (pos (suc left)) (Ok answer) first ≡ asks_with_left ctx name (pos left) first
goes_again ctx name first left answer = otherwise (int_lt (pos (suc left)) (pos 1)) (Done answer first) (asks_with_left ctx name (pos (suc left) -ℤ pos 1) first) (not_below_one left) ∙ ap (λ z. asks_with_left ctx name z first) (one_less left)

asks_again : (ctx : Option NativeCallContext) (name : Tree) (first : Option Tree) (left : ℕ) → asks_often ctx name (pos (suc left)) first ≡ asks_with_left ctx name (pos left) first
asks_again ctx name first left = otherwise (int_lt (pos (suc left)) (pos 1)) (Done (plain unit) first) (asks_with_left ctx name (pos (suc left) -ℤ pos 1) first) (not_below_one left) ∙ ap (λ z. asks_with_left ctx name z first) (one_less left)

goes_left : (ctx : Option NativeCallContext) (w : Bytes) (marks : Marks) (first : Option Tree) (left : ℕ) (answer : Tree) → AsksTimes (kit_next 13 ctx) (call_of ctx w) left (goes_on ctx (named w marks) (pos left) (Ok answer) first)
goes_left ctx w marks first zero answer = (answer, first, refl)
goes_left ctx w marks first (suc left) answer =
    (kept_of (named w marks) left first, goes_again ctx (named w marks) first left answer, λ later. subst (AsksTimes (kit_next 13 ctx) (call_of ctx w) left) (sym (goes ctx w marks first left later)) (goes_left ctx w marks first left later))

asks_left : (ctx : Option NativeCallContext) (w : Bytes) (marks : Marks) (first : Option Tree) (left : ℕ) → AsksTimes (kit_next 13 ctx) (call_of ctx w) (suc left) (asks_with_left ctx (named w marks) (pos left) first)
asks_left ctx w marks first left = (kept_of (named w marks) left first, refl, λ answer. subst (AsksTimes (kit_next 13 ctx) (call_of ctx w) left) (sym (goes ctx w marks first left answer)) (goes_left ctx w marks first left answer))

takes_often : (ctx : Option NativeCallContext) (first : Option Tree) (w : Bytes) (times : ℕ) (marks others : Marks) → kit_takes 13 ctx first (name_and_times w marks times others) ≡ asks_often ctx (named w marks) (pos times) first
unfolding kit_info kit_does
takes_often ctx first w times marks others = refl

often : (ctx : Option NativeCallContext) (first : Option Tree) (w : Bytes) (marks : Marks) (times : ℕ) → AsksTimes (kit_next 13 ctx) (call_of ctx w) times (asks_often ctx (named w marks) (pos times) first)
often ctx first w marks zero = (plain unit, first, refl)
often ctx first w marks (suc times) = subst (AsksTimes (kit_next 13 ctx) (call_of ctx w) (suc times)) (sym (asks_again ctx (named w marks) first times)) (asks_left ctx w marks first times)

pub asks_as_told : (ctx : Option NativeCallContext) (first : Option Tree) (args : List Tree) (w : Bytes) (times : ℕ) (marks others : Marks) → arguments first args ≡ name_and_times w marks times others → AsksTimes (kit_next 13 ctx) (call_of ctx w) times (kit_step 13 ctx first args)
asks_as_told ctx first args w times marks others e =
    let step : kit_step 13 ctx first args ≡ asks_often ctx (named w marks) (pos times) first = ap (kit_takes 13 ctx first) e ∙ takes_often ctx first w times marks others in
    subst (AsksTimes (kit_next 13 ctx) (call_of ctx w) times) (sym step) (often ctx first w marks times)

-- The bodies.

-- the number that is kept is one of 1 to all
in_range : (calls asked : ℕ) → asked < calls → (nat_le 1 (asked + 1) && nat_le (asked + 1) calls) ≡ true
in_range calls asked within = grind arith

goes_on_body : (plans : List BodyPlan) (def : ScriptFuncDef) (plan : BodyPlan) (object : Option Tree) (args : List Tree) (asked : ℕ) (answer : Tree) → slice_get plans def.body.0 ≡ Some plan → asked < length plan.calls →
    body_next plans def (record { first = object; kept = plain (array (items_of (with_count (asked + 1) args))) }) (Ok answer) ≡ step_after plan (asked + 1) (record { object = object; latest = Some answer; args = args })
goes_on_body plans def plan object args asked answer held within =
    rw held (rw (items_list args) (rw (in_range (length plan.calls) asked within) refl))

no_more : (n : ℕ) → n + 0 ≡ n
no_more n = omega arith

-- from the call of a number on, the calls that are left are asked
in_order : (plans : List BodyPlan) (def : ScriptFuncDef) (plan : BodyPlan) (object latest : Option Tree) (args : List Tree) (asked : ℕ) (rest : List CallPlan) → slice_get plans def.body.0 ≡ Some plan → ((j : ℕ) → slice_get plan.calls (asked + j) ≡ slice_get rest j) →
    AsksInOrder (body_next plans def) rest plan.end (record { object = object; latest = latest; args = args }) (step_after plan asked (record { object = object; latest = latest; args = args }))
in_order plans def plan object latest args asked [] held left = let at : slice_get plan.calls asked ≡ None = subst (λ (n : ℕ). slice_get plan.calls n ≡ None) (no_more asked) (left 0) in rw at refl
in_order plans def plan object latest args asked (call ∷ rest) held left =
    let at : slice_get plan.calls asked ≡ Some call = subst (λ (n : ℕ). slice_get plan.calls n ≡ Some call) (no_more asked) (left 0) in
    let within = slice_get_within plan.calls asked call at in
    let later : (j : ℕ) → slice_get plan.calls (asked + 1 + j) ≡ slice_get rest j = λ j. subst (λ (n : ℕ). slice_get plan.calls n ≡ slice_get rest j) (let e : asked + suc j ≡ asked + 1 + j = omega arith in e) (left (suc j)) in
    rw at (record { first = object; kept = plain (array (items_of (with_count (asked + 1) args))) }, refl, λ answer. subst (AsksInOrder (body_next plans def) rest plan.end (record { object = object; latest = Some answer; args = args })) (sym (goes_on_body plans def plan object args asked answer held within)) (in_order plans def plan object (Some answer) args (asked + 1) rest held later))

pub asks_in_order : (plans : List BodyPlan) (def : ScriptFuncDef) (plan : BodyPlan) (object : Option Tree) (args : List Tree) → slice_get plans def.body.0 ≡ Some plan → AsksInOrder (body_next plans def) plan.calls plan.end (record { object = object; latest = None; args = args }) (body_step plans def object args)
asks_in_order plans def plan object args held = rw held (in_order plans def plan object None args 0 plan.calls held (λ j. let e : 0 + j ≡ j = omega arith in ap (slice_get plan.calls) e))
