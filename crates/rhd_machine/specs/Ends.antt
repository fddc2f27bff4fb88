-- How a call ends: its answer, and what the checks of the answer make of it.
use Rattle.std.specs.Prelude.{Bool, not, ◌||◌, nat_lt, [], ◌∷◌, if◌then◌else◌, Option, None, Some, option_and_then, Ok, Err, codes}
use Rattle.rhd_value.specs.Tree.{Bytes, Tree}
use Rattle.rhd_value.specs.Kinds.{tag_of, type_name}
use Rattle.rhd_value.specs.Sums.{sizes_of}
use Rattle.rhd_value.specs.Same.{tag_eq}
use Rattle.rhd_value.specs.Firsts.{first_some, where_holds}
use Rattle.rhd_value.specs.declared.tag.Position.{Position}
use Rattle.rhd_value.specs.declared.tag.TypeTag.{TypeTag}
use Rattle.rhd_value.specs.declared.tag.TypeTag.TheVariants as tags
use Rattle.rhd_value.specs.declared.fault.EvalAltResult.{EvalAltResult}
use Rattle.rhd_value.specs.declared.fault.EvalAltResult.TheVariants.{ErrorMismatchOutputType, ErrorDataTooLarge}
use Rattle.rhd_func.specs.declared.request.NativeStep.{NativeStep}
use Rattle.rhd_func.specs.declared.request.NativeStep.TheVariants.{Done, Failed, Ask}
use Rattle.rhd_func.specs.declared.request.HostAnswer.{HostAnswer}
use Rattle.rhd_func.specs.declared.request.HostAnswer.TheVariants as host
use Rattle.rhd_func.specs.Funcs.{is_script}
use Rattle.rhd_func.specs.Shapes.{all_args}
use Rattle.rhd_engine.specs.NotFound.{not_found, not_found_in}
use Rattle.rhd_engine.specs.declared.limits.Limits.{Limits}
use Rattle.rhd_call.specs.declared.node.Whose.{Whose}
use Rattle.rhd_call.specs.declared.node.Whose.TheVariants.{Called, Host}
use Rattle.rhd_call.specs.End.{End, answered, failed, refusing, with_printed}
use Rattle.rhd_call.specs.declared.pick.Pick.{Pick}
use Rattle.rhd_engine.specs.Display.{display, map_type_name}
use Rattle.rhd_engine.specs.Engine.{EngineLists}
use Rattle.rhd_machine.specs.Plans.{Plan, Search, by_name, in_module, is_unqualified}
use Rattle.rhd_machine.specs.Printed.{printer, no_text, printed_text, answer_after_printing}
use Rattle.rhd_machine.specs.Received.{convention_of, first_after}

-- how a wanted kind is named
abbrev pub wanted_name : EngineLists → TypeTag → Bytes
wanted_name e kind = map_type_name e (type_name kind)

-- The value isn't of the wanted kind. A call that wants no kind, or the kind of any value, takes each.
abbrev pub not_wanted : EngineLists → Option TypeTag → Position → Tree → Option EvalAltResult
not_wanted e None pos v = None
not_wanted e (Some tags.Dynamic) pos v = None
not_wanted e (Some want) pos v = where_holds (not (tag_eq want (tag_of v))) (ErrorMismatchOutputType (wanted_name e want) (display e v) pos)

-- a value that is tested for the wanted kind alone
abbrev pub accepted : EngineLists → Plan → Whose → Option Tree → Tree → End
accepted e plan whose first v = elim (not_wanted e plan.want plan.pos v) as (λ _. End) [
  | None ↦ answered whose first (Ok v)
  | Some fault ↦ refusing first v fault
]

-- A value's size passes a limit: arrays, maps and texts in this order.
abbrev pub too_large : Limits → Position → Tree → Option EvalAltResult
too_large limits pos v =
    first_some (
    where_holds (nat_lt limits.array (sizes_of v).array) (ErrorDataTooLarge (codes "Size of array") pos)
    ∷ where_holds (nat_lt limits.map (sizes_of v).map) (ErrorDataTooLarge (codes "Size of object map") pos)
    ∷ where_holds (nat_lt limits.text (sizes_of v).text) (ErrorDataTooLarge (codes "Length of string") pos)
    ∷ []
    )

-- the first argument by reference, or the object, as it is in the end; a copy has the size of what was given
abbrev pub first_at_end : EngineLists → Plan → Pick → Option Tree → Option Tree
first_at_end e plan pick back = first_after (convention_of e.natives pick.func) plan.shape plan.given back

-- its size passes a limit, where the function of an unqualified call is a native
abbrev pub first_too_large : EngineLists → Plan → Pick → Option Tree → Option EvalAltResult
first_too_large e plan pick back = if not (is_unqualified plan.search) || is_script pick.func then None else option_and_then (too_large e.limits plan.pos) (first_at_end e plan pick back)

-- the checks of sizes, in their order
abbrev pub unfit : EngineLists → Plan → Pick → Option Tree → Tree → Option EvalAltResult
unfit e plan pick back v =
    first_some (
    too_large e.limits plan.pos v
    ∷ first_too_large e plan pick back
    ∷ []
    )

-- A value of sizes that are allowed: a printer that is set takes a text alone. The text stays printed where the call then refuses what it answers.
abbrev pub end_with_printer : EngineLists → Option Bool → Plan → Option Tree → Tree → End
end_with_printer e printer plan first v = elim (no_text e printer plan.pos v) as (λ _. End) [
  | None ↦ with_printed (printed_text printer v) (accepted e plan Called first (answer_after_printing printer v))
  | Some fault ↦ refusing first v fault
]

-- a function answered this value, and gave this back of its first argument
abbrev pub done : EngineLists → Plan → Pick → Option Tree → Tree → End
done e plan pick back v = elim (unfit e plan pick back v) as (λ _. End) [
  | None ↦ end_with_printer e (printer e.printers plan pick) plan (first_at_end e plan pick back) v
  | Some fault ↦ refusing (first_at_end e plan pick back) v fault
]

-- its own fault is handed on unchanged
abbrev pub handed_on : EngineLists → Plan → Pick → Option Tree → EvalAltResult → End
handed_on e plan pick back fault = answered Called (first_at_end e plan pick back) (Err fault)

-- how a call ends with the last step of its function; a request is no end
unfoldable pub end_of : EngineLists → Plan → Pick → NativeStep → Option End
end_of e plan pick (Done v back) = Some (done e plan pick back v)
end_of e plan pick (Failed fault back) = Some (handed_on e plan pick back fault)
end_of e plan pick (Ask request carry) = None

-- the fault of a call whose function isn't found
abbrev pub missing_fault : EngineLists → Plan → Search → EvalAltResult
missing_fault e plan (by_name token native_only) = not_found e plan.pos plan.name (all_args plan.shape)
missing_fault e plan (in_module path) = not_found_in e path plan.pos plan.name (all_args plan.shape)

abbrev pub missing_end : EngineLists → Plan → End
missing_end e plan = failed plan.given (missing_fault e plan plan.search)

-- how a call ends with what the host answered
unfoldable pub host_end : EngineLists → Plan → HostAnswer → End
host_end e plan host.Nothing = missing_end e plan
host_end e plan (host.Value v) = accepted e plan Host plan.given v
host_end e plan (host.Fault fault) = answered Host plan.given (Err fault)
