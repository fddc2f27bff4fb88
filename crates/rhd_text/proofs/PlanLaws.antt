-- What is read of a call, in a line of its own and in a body; and of the definition of a script.
use Rattle.std.proofs.Common.{◌≡◌, ℕ, Bool, true, false, cond, List, [], ◌∷◌, Option, Some, None, refl}
use Rattle.std.specs.Option.{option_map}
use Rattle.rhd_value.specs.declared.tag.Position.{Position}
use Rattle.rhd_func.specs.declared.access.FnNamespace.TheVariants.{Internal}
use Rattle.rhd_func.specs.declared.func.RhaiFunc.TheVariants as funcs
use Rattle.rhd_call.specs.declared.command.Command.TheVariants as commands
use Rattle.rhd_text.specs.declared.keyword.Keyword.TheVariants as keywords
use Rattle.rhd_text.specs.declared.keyword.CallWord.{CallWord}
use Rattle.rhd_text.specs.declared.keyword.CallWord.TheVariants as words
use Rattle.rhd_text.specs.declared.requests.Handing.TheVariants as handings
use Rattle.rhd_plan.specs.declared.part.Part.TheVariants as parts
use Rattle.rhd_text.specs.declared.place.Place.{Place}
use Rattle.rhd_text.specs.Rows.{Operand, From, from_then, position, nowhere, script_operands, as_script, definition, defined, call_form, planned, called, step, form}
use Rattle.rhd_syntax.specs.Reading.{◌>>=◌, is_end, num_at}
use Rattle.rhd_text.specs.ReadRows.{operand_at, operands_at, row_at, scripted_at, definition_at, plan_at, named_at, qualified_at}

ended : {A B : Type 0} (f : A → B) (b : Bool) (o : Option A) → cond b (option_map f o) None ≡ option_map f (cond b o None)
ended f true o = refl
ended f false o = refl

bound : {A B C : Type 0} (f : A → B) (o : Option C) (g : C → Option A) (h : C → Option B) → ((c : C) → h c ≡ option_map f (g c)) → (o >>= h) ≡ option_map f (o >>= g)
bound f None g h e = refl
bound f (Some c) g h e = e c

bound_same : {B C : Type 0} (o : Option C) (g h : C → Option B) → ((c : C) → g c ≡ h c) → (o >>= g) ≡ (o >>= h)
bound_same None g h e = refl
bound_same (Some c) g h e = e c

-- what is made of what a row says is made of what is read
pub mapped : {A B : Type 0} (f : A → B) (os : List Operand) (says : From os (Option A)) (bytes : List ℕ) → operands_at os (from_then os says (option_map f)) bytes ≡ option_map f (operands_at os says bytes)
mapped f [] says bytes = ended f (is_end bytes) says
mapped f (o ∷ os) says bytes = bound f (operand_at o bytes) (λ x. operands_at os (says x.0) x.1) (λ x. operands_at os (from_then os (says x.0) (option_map f)) x.1) (λ x. mapped f os (says x.0) x.1)

pub call_row : (place : Place) (w : CallWord) (bytes : List ℕ) → row_at place (called w) bytes ≡ option_map (λ plan. parts.Command (commands.Call plan.request)) (plan_at false w (position place) bytes)
unfolding row_at plan_at
call_row place w bytes = mapped (λ plan. parts.Command (commands.Call plan.request)) ((call_form w).operands false) (planned (call_form w) false (position place)) bytes

pub step_row : (place : Place) (w : CallWord) (bytes : List ℕ) → row_at place (step w) bytes ≡ option_map (λ plan. parts.Do plan) (plan_at true w nowhere bytes)
unfolding row_at plan_at
step_row place w bytes = mapped (λ plan. parts.Do plan) ((call_form w).operands true) (planned (call_form w) true nowhere) bytes

-- ---- definitions of scripts

pub defined_row : (bytes : List ℕ) → definition_at bytes ≡ (num_at 32 bytes >>= λ m. option_map (λ def. (m.0, def)) (scripted_at m.1))
unfolding definition_at scripted_at
defined_row bytes =
    bound_same (num_at 32 bytes) (λ m. operands_at script_operands (defined m.0) m.1) (λ m. option_map (λ def. (m.0, def)) (operands_at script_operands as_script m.1)) (λ m. mapped (λ def. (m.0, def)) script_operands as_script m.1)

pub script_row : (place : Place) (bytes : List ℕ) → row_at place (form keywords.Script) bytes ≡ option_map (λ d. parts.Command (commands.Script (record { 0 = d.0 }) d.1)) (definition_at bytes)
unfolding row_at definition_at
script_row place bytes = mapped (λ d. parts.Command (commands.Script (record { 0 = d.0 }) d.1)) definition defined bytes

pub raw_script_row : (place : Place) (bytes : List ℕ) → row_at place (form keywords.RawScript) bytes ≡ option_map (λ d. parts.Command (commands.RawNative (record { 0 = d.0 }) d.1.name Internal [] (funcs.Script d.1 None))) (definition_at bytes)
unfolding row_at definition_at
raw_script_row place bytes = mapped (λ d. parts.Command (commands.RawNative (record { 0 = d.0 }) d.1.name Internal [] (funcs.Script d.1 None))) definition defined bytes

-- ---- what each word reads

pub call_plan : (given : Bool) (pos : Position) (bytes : List ℕ) → plan_at given words.Call pos bytes ≡ named_at given false handings.ByValue pos bytes
unfolding plan_at named_at
call_plan given pos bytes = refl

pub call_native_plan : (given : Bool) (pos : Position) (bytes : List ℕ) → plan_at given words.CallNative pos bytes ≡ named_at given true handings.ByValue pos bytes
unfolding plan_at named_at
call_native_plan given pos bytes = refl

pub ref_plan : (given : Bool) (pos : Position) (bytes : List ℕ) → plan_at given words.Ref pos bytes ≡ named_at given false handings.ByRef pos bytes
unfolding plan_at named_at
ref_plan given pos bytes = refl

pub ref_native_plan : (given : Bool) (pos : Position) (bytes : List ℕ) → plan_at given words.RefNative pos bytes ≡ named_at given true handings.ByRef pos bytes
unfolding plan_at named_at
ref_native_plan given pos bytes = refl

pub method_plan : (given : Bool) (pos : Position) (bytes : List ℕ) → plan_at given words.Method pos bytes ≡ named_at given false handings.AsObject pos bytes
unfolding plan_at named_at
method_plan given pos bytes = refl

pub method_native_plan : (given : Bool) (pos : Position) (bytes : List ℕ) → plan_at given words.MethodNative pos bytes ≡ named_at given true handings.AsObject pos bytes
unfolding plan_at named_at
method_native_plan given pos bytes = refl

pub qual_plan : (given : Bool) (pos : Position) (bytes : List ℕ) → plan_at given words.Qual pos bytes ≡ qualified_at given handings.ByValue pos bytes
unfolding plan_at qualified_at
qual_plan given pos bytes = refl

pub qual_ref_plan : (given : Bool) (pos : Position) (bytes : List ℕ) → plan_at given words.QualRef pos bytes ≡ qualified_at given handings.ByRef pos bytes
unfolding plan_at qualified_at
qual_ref_plan given pos bytes = refl
