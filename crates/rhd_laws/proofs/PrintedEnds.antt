-- What the tests of a printer say, without their order.
use Rattle.std.proofs.Common.{◌≡◌, Bool, true, false, ◌||◌, refl, sym, ap, ◌∙◌}
use Rattle.std.specs.Prelude.{Option, None, Some, not, if◌then◌else◌, codes}
use Rattle.std.specs.Option.{is_none}
use Rattle.std.proofs.lemmas.Slice.Eq.{bytes_eq-Decides}
use Rattle.rhd_value.specs.Tree.{Bytes, Tree}
use Rattle.rhd_value.specs.Kinds.{text_in}
use Rattle.rhd_value.specs.Same.{text_eq}
use Rattle.rhd_value.specs.Firsts.{where_holds}
use Rattle.rhd_value.specs.declared.fault.EvalAltResult.{EvalAltResult}
use Rattle.rhd_value.specs.declared.fault.EvalAltResult.TheVariants.{ErrorMismatchOutputType}
use Rattle.rhd_func.specs.Funcs.{is_script}
use Rattle.rhd_engine.specs.declared.limits.Printers.{Printers}
use Rattle.rhd_call.specs.declared.pick.Layer.{Layer}
use Rattle.rhd_call.specs.declared.pick.Layer.TheVariants.{Library, Global, Import, Static, Builtin}
use Rattle.rhd_call.specs.declared.pick.Pick.{Pick}
use Rattle.rhd_engine.specs.Engine.{EngineLists}
use Rattle.rhd_engine.specs.Display.{display}
use Rattle.rhd_machine.specs.Plans.{is_unqualified, Plan}
use Rattle.rhd_machine.specs.Printed.{is_builtin, printer, no_text, printed_text, answer_after_printing}
use Rattle.rhd_laws.specs.Prints.{Prints, by_print, by_debug, IsPrintable, Makes, unit_for_it, itself}

no_builtin : (layer : Layer) → is_builtin layer ≡ false → layer ≡ Builtin → ⊥
no_builtin layer h e = let q : false ≡ true = sym h ∙ ap is_builtin e in absurd cc

other_layer : (layer : Layer) → (layer ≡ Builtin → ⊥) → is_builtin layer ≡ false
other_layer (Library n) h = refl
other_layer (Global n) h = refl
other_layer (Import n) h = refl
other_layer (Static n) h = refl
other_layer Builtin h = absurd (h refl)

-- the printer, by whether the call is unqualified and by the tests of the function and of the name
abbrev tested : Printers → Bool → Bool → Bool → Bool → Bool → Option Bool
tested printers unqualified script builtin print debug = if not unqualified || (script || builtin) then None else if print then Some printers.print else if debug then Some printers.debug else None

prints_by : (e : EngineLists) (plan : Plan) (pick : Pick) (set unqualified script builtin print debug : Bool) → is_unqualified plan.search ≡ unqualified → is_script pick.func ≡ script → is_builtin pick.layer ≡ builtin
    → text_eq plan.name (codes "print") ≡ print → text_eq plan.name (codes "debug") ≡ debug
    → tested e.printers unqualified script builtin print debug ≡ Some set → Prints e.printers plan pick set
prints_by e plan pick set false script builtin print debug u s b p d h = absurd cc
prints_by e plan pick set true true builtin print debug u s b p d h = absurd cc
prints_by e plan pick set true false true print debug u s b p d h = absurd cc
prints_by e plan pick set true false false true debug u s b p d h = by_print u (s, no_builtin pick.layer b) ((bytes_eq-Decides plan.name (codes "print")).0 p) cc
prints_by e plan pick set true false false false true u s b p d h = by_debug u (s, no_builtin pick.layer b) ((bytes_eq-Decides plan.name (codes "debug")).0 d) cc
prints_by e plan pick set true false false false false u s b p d h = absurd cc

-- a call has a printer exactly where it is one of the native `print` or `debug`
pub printer_prints : (e : EngineLists) (plan : Plan) (pick : Pick) (set : Bool) → printer e.printers plan pick ≡ Some set → Prints e.printers plan pick set
printer_prints e plan pick set h =
    prints_by e plan pick set (is_unqualified plan.search) (is_script pick.func) (is_builtin pick.layer) (text_eq plan.name (codes "print")) (text_eq plan.name (codes "debug")) refl refl refl refl refl h

pub prints_printer : (e : EngineLists) (plan : Plan) (pick : Pick) (set : Bool) → Prints e.printers plan pick set → printer e.printers plan pick ≡ Some set
prints_printer e plan pick set (by_print unqualified native name is) =
    (λ i. tested e.printers (unqualified i) (native.0 i) (other_layer pick.layer native.1 i) ((bytes_eq-Decides plan.name (codes "print")).1 name i) (text_eq plan.name (codes "debug"))) ∙ ap Some is
prints_printer e plan pick set (by_debug unqualified native name is) =
    (λ i. tested e.printers (unqualified i) (native.0 i) (other_layer pick.layer native.1 i) (text_eq (name i) (codes "print")) ((bytes_eq-Decides plan.name (codes "debug")).1 name i)) ∙ ap Some is

no_printer : (e : EngineLists) (plan : Plan) (pick : Pick) (p : Option Bool) → printer e.printers plan pick ≡ p → ((set : Bool) → Prints e.printers plan pick set → ⊥) → p ≡ None
no_printer e plan pick None is h = refl
no_printer e plan pick (Some set) is h = absurd (h set (printer_prints e plan pick set is))

-- what a call makes of a value
pub makes_printing : (e : EngineLists) (plan : Plan) (pick : Pick) (v : Tree) (p : Option Bool) → printer e.printers plan pick ≡ p → Makes e.printers plan pick v (answer_after_printing p v)
makes_printing e plan pick v (Some set) is = unit_for_it set (printer_prints e plan pick set is) refl
makes_printing e plan pick v None is = itself (λ set prints. let q : None ≡ Some set = sym is ∙ prints_printer e plan pick set prints in absurd cc) refl

pub printing_makes : (e : EngineLists) (plan : Plan) (pick : Pick) (v made : Tree) → Makes e.printers plan pick v made → made ≡ answer_after_printing (printer e.printers plan pick) v
printing_makes e plan pick v made (unit_for_it set prints is) = is ∙ ap (λ (p : Option Bool). answer_after_printing p v) (sym (prints_printer e plan pick set prints))
printing_makes e plan pick v made (itself none is) = is ∙ ap (λ (p : Option Bool). answer_after_printing p v) (sym (no_printer e plan pick (printer e.printers plan pick) refl none))

-- a value is no text for a printer exactly where that is set and takes none
pub record TextMissing (e : EngineLists) (plan : Plan) (pick : Pick) (v : Tree) (fault : EvalAltResult) : Type 0 where
  pub prints : Prints e.printers plan pick true
  pub none : text_in v.kind ≡ None
  pub says : fault ≡ ErrorMismatchOutputType (codes "string") (display e v) plan.pos
  pub unprinted : printed_text (printer e.printers plan pick) v ≡ None

no_text_by : (e : EngineLists) (plan : Plan) (pick : Pick) (v : Tree) (fault : EvalAltResult) (p : Option Bool) (text : Option Bytes) → printer e.printers plan pick ≡ p → text_in v.kind ≡ text
    → no_text e p plan.pos v ≡ Some fault → TextMissing e plan pick v fault
no_text_by e plan pick v fault None text is t h = absurd cc
no_text_by e plan pick v fault (Some false) text is t h = absurd cc
no_text_by e plan pick v fault (Some true) (Some s) is t h =
    let q : None ≡ Some fault = sym (ap (λ (o : Option Bytes). where_holds (is_none o) (ErrorMismatchOutputType (codes "string") (display e v) plan.pos)) t) ∙ h in absurd cc
no_text_by e plan pick v fault (Some true) None is t h =
    let q : Some (ErrorMismatchOutputType (codes "string") (display e v) plan.pos) ≡ Some fault = sym (ap (λ (o : Option Bytes). where_holds (is_none o) (ErrorMismatchOutputType (codes "string") (display e v) plan.pos)) t) ∙ h in
    record { prints = printer_prints e plan pick true is; none = t; says = cc; unprinted = ap (λ (p : Option Bool). printed_text p v) is ∙ t }

pub text_missing : (e : EngineLists) (plan : Plan) (pick : Pick) (v : Tree) (fault : EvalAltResult) → no_text e (printer e.printers plan pick) plan.pos v ≡ Some fault → TextMissing e plan pick v fault
text_missing e plan pick v fault h = no_text_by e plan pick v fault (printer e.printers plan pick) (text_in v.kind) refl refl h

pub missing_text : (e : EngineLists) (plan : Plan) (pick : Pick) (v : Tree) → Prints e.printers plan pick true → text_in v.kind ≡ None
    → no_text e (printer e.printers plan pick) plan.pos v ≡ Some (ErrorMismatchOutputType (codes "string") (display e v) plan.pos)
missing_text e plan pick v prints none =
    ap (λ (p : Option Bool). no_text e p plan.pos v) (prints_printer e plan pick true prints) ∙ ap (λ (o : Option Bytes). where_holds (is_none o) (ErrorMismatchOutputType (codes "string") (display e v) plan.pos)) none

pub unprinted : (e : EngineLists) (plan : Plan) (pick : Pick) (v : Tree) → Prints e.printers plan pick true → text_in v.kind ≡ None → printed_text (printer e.printers plan pick) v ≡ None
unprinted e plan pick v prints none = ap (λ (p : Option Bool). printed_text p v) (prints_printer e plan pick true prints) ∙ none

printable_by : (e : EngineLists) (plan : Plan) (pick : Pick) (v : Tree) (text : Option Bytes) → text_in v.kind ≡ text → no_text e (printer e.printers plan pick) plan.pos v ≡ None → IsPrintable e.printers plan pick v
printable_by e plan pick v (Some s) t h prints = (s, t)
printable_by e plan pick v None t h prints =
    let q : None ≡ Some (ErrorMismatchOutputType (codes "string") (display e v) plan.pos) = sym h ∙ missing_text e plan pick v prints t in absurd cc

pub printable : (e : EngineLists) (plan : Plan) (pick : Pick) (v : Tree) → no_text e (printer e.printers plan pick) plan.pos v ≡ None → IsPrintable e.printers plan pick v
printable e plan pick v h = printable_by e plan pick v (text_in v.kind) refl h

text_by : (e : EngineLists) (plan : Plan) (pick : Pick) (v : Tree) (p : Option Bool) → printer e.printers plan pick ≡ p → IsPrintable e.printers plan pick v → no_text e p plan.pos v ≡ None
text_by e plan pick v None is h = refl
text_by e plan pick v (Some false) is h = refl
text_by e plan pick v (Some true) is h =
    ap (λ (o : Option Bytes). where_holds (is_none o) (ErrorMismatchOutputType (codes "string") (display e v) plan.pos)) (h (printer_prints e plan pick true is)).1

pub printable_text : (e : EngineLists) (plan : Plan) (pick : Pick) (v : Tree) → IsPrintable e.printers plan pick v → no_text e (printer e.printers plan pick) plan.pos v ≡ None
printable_text e plan pick v h = text_by e plan pick v (printer e.printers plan pick) refl h

-- the text that is printed
printed_by : (e : EngineLists) (plan : Plan) (pick : Pick) (v : Tree) (text : Bytes) (p : Option Bool) → printer e.printers plan pick ≡ p → printed_text p v ≡ Some text → Prints e.printers plan pick true × (text_in v.kind ≡ Some text)
printed_by e plan pick v text None is h = absurd cc
printed_by e plan pick v text (Some false) is h = absurd cc
printed_by e plan pick v text (Some true) is h = (printer_prints e plan pick true is, h)

pub printed_prints : (e : EngineLists) (plan : Plan) (pick : Pick) (v : Tree) (text : Bytes) → printed_text (printer e.printers plan pick) v ≡ Some text → Prints e.printers plan pick true × (text_in v.kind ≡ Some text)
printed_prints e plan pick v text h = printed_by e plan pick v text (printer e.printers plan pick) refl h

pub prints_printed : (e : EngineLists) (plan : Plan) (pick : Pick) (v : Tree) (text : Bytes) → Prints e.printers plan pick true → text_in v.kind ≡ Some text → printed_text (printer e.printers plan pick) v ≡ Some text
prints_printed e plan pick v text prints is = ap (λ (p : Option Bool). printed_text p v) (prints_printer e plan pick true prints) ∙ is
