-- The end of a call whose function answered a value of sizes that are allowed.
use Rattle.std.proofs.Common.{sym, ◌≡◌, Bool, List, refl, ap, ◌∙◌}
use Rattle.std.specs.Prelude.{Option, Some, None}
use Rattle.rhd_value.specs.Tree.{Tree}
use Rattle.rhd_value.specs.declared.fault.EvalAltResult.{EvalAltResult}
use Rattle.rhd_func.specs.Natives.{NativeInfo}
use Rattle.rhd_func.specs.declared.request.CallRequest.{CallRequest}
use Rattle.rhd_func.specs.Shapes.{given}
use Rattle.rhd_call.specs.End.{End, refusing}
use Rattle.rhd_call.specs.declared.pick.Pick.{Pick}
use Rattle.rhd_engine.specs.Engine.{EngineLists}
use Rattle.rhd_engine.specs.declared.limits.Printers.{Printers}
use Rattle.rhd_machine.specs.Plans.{Plan, plan_of}
use Rattle.rhd_machine.specs.Printed.{printer}
use Rattle.rhd_machine.specs.Received.{convention_of, first_after}
use Rattle.rhd_machine.proofs.HostEnds.{plan_given}
use Rattle.rhd_machine.specs.Ends.{first_at_end, unfit, end_with_printer, done}

-- its first argument in the end
pub first_is : (e : EngineLists) (natives : List NativeInfo) (call : CallRequest) (pick : Pick) (back first : Option Tree) →
    natives ≡ e.natives → first ≡ first_after (convention_of natives pick.func) (plan_of call).shape (given call) back → first ≡ first_at_end e (plan_of call) pick back
first_is e natives call pick back first n f =
    f ∙ (λ i. first_after (convention_of (n i) pick.func) (plan_of call).shape (plan_given call i) back)

-- nothing is refused
where_fit : (x : Option EvalAltResult) (fits : End) (refused : EvalAltResult → End) → x ≡ None → fits ≡ elim x as (λ _. End) [ None ↦ fits | Some fault ↦ refused fault ]
where_fit None fits refused none = refl
where_fit (Some fault) fits refused none = absurd cc

-- and what is left is for its printer
pub fit_ends : (e : EngineLists) (plan : Plan) (pick : Pick) (back first : Option Tree) (v : Tree) (set : Option Bool) (printers : Printers) →
    first ≡ first_at_end e plan pick back → unfit e plan pick back v ≡ None → printers ≡ e.printers → set ≡ printer printers plan pick →
    end_with_printer e set plan first v ≡ done e plan pick back v
fit_ends e plan pick back first v set printers f none p s =
    ap (λ (b : Option Bool). end_with_printer e b plan first v) (s ∙ ap (λ (ps : Printers). printer ps plan pick) p)
    ∙ ap (λ (x : Option Tree). end_with_printer e (printer e.printers plan pick) plan x v) f
    ∙ where_fit (unfit e plan pick back v) (end_with_printer e (printer e.printers plan pick) plan (first_at_end e plan pick back) v) (λ fault. refusing (first_at_end e plan pick back) v fault) none

-- a size that is refused is the end
where_unfit : (x : Option EvalAltResult) (fits : End) (refused : EvalAltResult → End) (fault : EvalAltResult) → x ≡ Some fault → refused fault ≡ elim x as (λ _. End) [ None ↦ fits | Some fault ↦ refused fault ]
where_unfit None fits refused fault some = absurd cc
where_unfit (Some other) fits refused fault some = let same : other ≡ fault = cc in ap refused (sym same)

pub unfit_ends : (e : EngineLists) (plan : Plan) (pick : Pick) (back first : Option Tree) (v : Tree) (fault : EvalAltResult) → first ≡ first_at_end e plan pick back → unfit e plan pick back v ≡ Some fault → refusing first v fault ≡ done e plan pick back v
unfit_ends e plan pick back first v fault f some =
    ap (λ (x : Option Tree). refusing x v fault) f
    ∙ where_unfit (unfit e plan pick back v) (end_with_printer e (printer e.printers plan pick) plan (first_at_end e plan pick back) v) (λ fault. refusing (first_at_end e plan pick back) v fault) fault some
