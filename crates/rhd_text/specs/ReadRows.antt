-- How rows and lines are read.
use Rattle.std.specs.Prelude.{ℕ, Bool, true, not, List, [], ◌∷◌, length, filter, Option, Some, None, ◌==◌, nat_eq, codes, if◌then◌else◌}
use Rattle.std.specs.Str.{is_utf8, bytes_eq}
use Rattle.rhd_value.specs.declared.tag.Position.{Position}
use Rattle.rhd_func.specs.declared.request.CallRequest.{CallRequest}
use Rattle.rhd_func.specs.declared.func.ScriptFuncDef.{ScriptFuncDef}
use Rattle.rhd_call.specs.declared.command.Command.TheVariants as commands
use Rattle.rhd_plan.specs.declared.body.CallPlan.{CallPlan}
use Rattle.rhd_text.specs.declared.requests.Handing.{Handing}
use Rattle.rhd_plan.specs.declared.part.Part.{Part}
use Rattle.rhd_plan.specs.declared.part.Part.TheVariants as parts
use Rattle.rhd_text.specs.declared.place.Place.{Place}
use Rattle.rhd_text.specs.declared.keyword.CallWord.{CallWord}
use Rattle.rhd_text.specs.Rows.{Operand, NAME, WORD, WORDS, NUM, LONG, ARG, ARGS, OPTIONAL, WANT, THIS, PURITY, VALUE, KIND, KINDS, PRINTER}
use Rattle.rhd_text.specs.Rows.{Meaning, From, Form, Table, CallForm, script_operands, as_script, definition, defined, by_name, by_path, call_form, planned, line_forms, step_forms}
use Rattle.rhd_syntax.specs.Reading.{◌>>=◌, skip_blanks, is_end, word_at, name_at, wording_at, texts_at, flag_at, num_at, want_at, this_at, purity_at, value_at, value_kind_at, kinds_at, printer_at, argument_at, arguments_at}

-- how each kind of operand is read
abbrev pub operand_at : (o : Operand) → List ℕ → Option (Meaning o × List ℕ)
operand_at NAME bytes = name_at bytes
operand_at WORD bytes = wording_at bytes
operand_at WORDS bytes = texts_at bytes
operand_at NUM bytes = num_at 32 bytes
operand_at LONG bytes = num_at 64 bytes
operand_at (ARG given) bytes = argument_at given bytes
operand_at (ARGS given) bytes = arguments_at given bytes
operand_at (OPTIONAL w) bytes = Some (flag_at w bytes)
operand_at WANT bytes = want_at bytes
operand_at THIS bytes = this_at bytes
operand_at PURITY bytes = Some (purity_at bytes)
operand_at VALUE bytes = value_at bytes
operand_at KIND bytes = value_kind_at bytes
operand_at KINDS bytes = kinds_at bytes
operand_at PRINTER bytes = printer_at bytes

-- the operands of a row, to the end of the line
abbrev pub operands_at : {R : Type 0} (os : List Operand) → From os (Option R) → List ℕ → Option R
operands_at [] says bytes = if is_end bytes then says else None
operands_at (o ∷ os) says bytes = do
  x ← operand_at o bytes
  operands_at os (says x.0) x.1

-- what stands after the word of a form
unfoldable pub row_at : {P : Type 0} → Place → Form P → List ℕ → Option P
row_at place f bytes = operands_at f.operands (f.part place) bytes

-- the first of these keywords that is spelled so
unfoldable pub keyword_in : {K P : Type 0} → (K → Form P) → List K → List ℕ → Option K
keyword_in form [] word = None
keyword_in form (k ∷ ks) word = if bytes_eq (form k).spelling word then Some k else keyword_in form ks word

-- those of some keywords that are spelled with so many bytes
abbrev pub of_length : {K P : Type 0} → (K → Form P) → ℕ → List K → List K
of_length form n ks = filter (λ k. nat_eq (length (form k).spelling) n) ks

-- a line of a table, by its first word and what stands after it
abbrev pub form_of : {K P : Type 0} → Table K P → Place → List ℕ → List ℕ → Option P
form_of table place word bytes = do
  k ← keyword_in table.form table.all word
  row_at place (table.form k) bytes

-- a line of a table
unfoldable pub form_at : {K P : Type 0} → Table K P → Place → List ℕ → Option P
form_at table place bytes = do
  w ← word_at bytes
  form_of table place w.0 w.1

-- a line of a session text, which `do` may stand before
unfoldable pub part_at : Place → List ℕ → Option Part
part_at place bytes = do
  w ← word_at bytes
  if bytes_eq w.0 (codes "do") then form_at step_forms place w.1 else form_of line_forms place w.0 w.1

-- what stands after the word of a call
abbrev pub plan_in : CallForm → Bool → Position → List ℕ → Option CallPlan
plan_in f given pos bytes = operands_at (f.operands given) (planned f given pos) bytes

unfoldable pub plan_at : Bool → CallWord → Position → List ℕ → Option CallPlan
plan_at given w pos bytes = plan_in (call_form w) given pos bytes

-- what stands after the word of a call by name, however it is spelled
unfoldable pub named_at : Bool → Bool → Handing → Position → List ℕ → Option CallPlan
named_at given native_only handing pos bytes = plan_in (by_name [] native_only handing) given pos bytes

-- the same of a call by a path and a name
unfoldable pub qualified_at : Bool → Handing → Position → List ℕ → Option CallPlan
qualified_at given handing pos bytes = plan_in (by_path [] handing) given pos bytes

-- the end, or a comment
abbrev pub begins_no_part : List ℕ → Bool
begins_no_part [] = true
begins_no_part (b ∷ bytes) = b == 59

abbrev pub is_skipped : List ℕ → Bool
is_skipped line = begins_no_part (skip_blanks line)

-- what a line is, by how its parts are read; nothing where it says nothing
unfoldable pub line_by : {P : Type 0} → (List ℕ → Option P) → List ℕ → Option (Option P)
line_by read line = if not (is_utf8 line) then None else (if is_skipped line then Some None else (do
  p ← read line
  Some (Some p)))

-- what line n of a session text is
abbrev pub line_of : ℕ → List ℕ → Option (Option Part)
line_of n line = line_by (part_at (record { line = n })) line

-- the definition of a script
unfoldable pub scripted_at : List ℕ → Option ScriptFuncDef
scripted_at bytes = operands_at script_operands as_script bytes

-- the definition of a script in a module
unfoldable pub definition_at : List ℕ → Option (ℕ × ScriptFuncDef)
definition_at bytes = operands_at definition defined bytes

-- the request of a call line
abbrev pub request_in : Option Part → Option CallRequest
request_in (Some (parts.Command (commands.Call request))) = Some request
request_in _ = None
