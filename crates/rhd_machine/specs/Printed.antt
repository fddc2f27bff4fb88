-- The natives `print` and `debug`: what is printed, and what their calls answer.
use Rattle.std.specs.Prelude.{Bool, true, false, not, ◌||◌, if◌then◌else◌, Option, None, Some, codes}
use Rattle.std.specs.Option.{is_none}
use Rattle.rhd_value.specs.Tree.{Bytes, Tree, unit}
use Rattle.rhd_value.specs.Kinds.{plain, text_in}
use Rattle.rhd_value.specs.Same.{text_eq}
use Rattle.rhd_value.specs.Firsts.{where_holds}
use Rattle.rhd_value.specs.declared.tag.Position.{Position}
use Rattle.rhd_value.specs.declared.fault.EvalAltResult.{EvalAltResult}
use Rattle.rhd_value.specs.declared.fault.EvalAltResult.TheVariants.{ErrorMismatchOutputType}
use Rattle.rhd_func.specs.Funcs.{is_script}
use Rattle.rhd_engine.specs.declared.limits.Printers.{Printers}
use Rattle.rhd_call.specs.declared.pick.Layer.{Layer}
use Rattle.rhd_call.specs.declared.pick.Layer.TheVariants.{Library, Global, Import, Static, Builtin}
use Rattle.rhd_call.specs.declared.pick.Pick.{Pick}
use Rattle.rhd_engine.specs.Engine.{EngineLists}
use Rattle.rhd_engine.specs.Display.{display}
use Rattle.rhd_machine.specs.Plans.{Plan, is_unqualified}

-- whether the printer of a name is set; no other name has one
abbrev pub printer_named : Printers → Bytes → Option Bool
printer_named printers name = if text_eq name (codes "print") then Some printers.print else if text_eq name (codes "debug") then Some printers.debug else None

abbrev pub is_builtin : Layer → Bool
is_builtin (Library n) = false
is_builtin (Global n) = false
is_builtin (Import n) = false
is_builtin (Static n) = false
is_builtin Builtin = true

-- the same of an unqualified call that found a native by that name: a script or a built-in has none
abbrev pub printer : Printers → Plan → Pick → Option Bool
printer printers plan pick = if not (is_unqualified plan.search) || (is_script pick.func || is_builtin pick.layer) then None else printer_named printers plan.name

-- a printer that is set takes a text alone
abbrev pub no_text : EngineLists → Option Bool → Position → Tree → Option EvalAltResult
no_text e (Some true) pos v = where_holds (is_none (text_in v.kind)) (ErrorMismatchOutputType (codes "string") (display e v) pos)
no_text e (Some false) pos v = None
no_text e None pos v = None

-- and prints it, without marks
abbrev pub printed_text : Option Bool → Tree → Option Bytes
printed_text (Some true) v = text_in v.kind
printed_text (Some false) v = None
printed_text None v = None

-- with a printer, set or not, the call answers unit
abbrev pub answer_after_printing : Option Bool → Tree → Tree
answer_after_printing (Some set) v = plain unit
answer_after_printing None v = v
