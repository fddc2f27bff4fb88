-- What the checks of a last step say, without their order.
use Rattle.std.proofs.Common.{◌≡◌, Bool, true, false, ltb, [], ◌∷◌, refl, sym, ap, ◌∙◌, subst}
use Rattle.std.specs.Prelude.{Option, None, Some, not, ◌||◌, if◌then◌else◌, option_and_then, Ok, codes}
use Rattle.std.specs.Option.{option_or}
use Rattle.std.proofs.lemmas.Bool.{lt-ltb, le-ltb, ltb-true, ltb-false}
use Rattle.rhd_value.specs.Tree.{Bytes, Tree}
use Rattle.rhd_value.specs.Kinds.{tag_of}
use Rattle.rhd_value.specs.Sums.{sizes_of}
use Rattle.rhd_value.specs.Same.{tag_eq, tag_eq-Decides}
use Rattle.rhd_value.specs.Firsts.{first_some, where_holds}
use Rattle.rhd_value.specs.declared.tag.Position.{Position}
use Rattle.rhd_value.specs.declared.tag.Sizes.{Sizes}
use Rattle.rhd_value.specs.declared.tag.TypeTag.{TypeTag}
use Rattle.rhd_value.specs.declared.tag.TypeTag.TheVariants as tags
use Rattle.rhd_value.specs.declared.fault.EvalAltResult.{EvalAltResult}
use Rattle.rhd_value.specs.declared.fault.EvalAltResult.TheVariants.{ErrorMismatchOutputType, ErrorDataTooLarge}
use Rattle.rhd_func.specs.declared.request.NativeStep.{NativeStep}
use Rattle.rhd_func.specs.declared.request.NativeStep.TheVariants.{Done, Failed, Ask}
use Rattle.rhd_func.specs.Funcs.{is_script}
use Rattle.rhd_engine.specs.Engine.{EngineLists}
use Rattle.rhd_call.specs.End.{End, refusing, with_printed}
use Rattle.rhd_engine.specs.declared.limits.Limits.{Limits}
use Rattle.rhd_call.specs.declared.node.Whose.TheVariants.{Called}
use Rattle.rhd_call.specs.declared.pick.Pick.{Pick}
use Rattle.rhd_engine.specs.Display.{display}
use Rattle.rhd_machine.specs.Plans.{is_unqualified, Plan}
use Rattle.rhd_machine.specs.Ends.{wanted_name, not_wanted, too_large, first_at_end, first_too_large, unfit, done, handed_on, end_of}
use Rattle.rhd_machine.specs.Printed.{printer, no_text, printed_text, answer_after_printing}
use Rattle.rhd_laws.specs.Prints.{IsPrintable, Makes}
use Rattle.rhd_laws.specs.Causes.{IsWithin, Passes, by_arrays, by_maps, by_texts, HasFirst, AreWithin, IsTooLarge, the_value, the_first, IsOfOtherKind, IsMismatch, isnt_text, isnt_wanted}
use Rattle.rhd_laws.proofs.PrintedEnds.{makes_printing, printing_makes, text_missing, missing_text, unprinted, printable, printable_text}

some_same : {A : Type 0} (a b : A) → Some a ≡ Some b → b ≡ a
some_same a b h = cc

some_none : {A : Type 0} (a : A) → Some a ≡ None → ⊥
some_none a h = cc

none_some : {A : Type 0} (a : A) → None ≡ Some a → ⊥
none_some a h = cc

-- the tests of sizes, by their answers
abbrev sizes_fault : Position → Bool → Bool → Bool → Option EvalAltResult
sizes_fault pos a m t =
    first_some (
    where_holds a (ErrorDataTooLarge (codes "Size of array") pos)
    ∷ where_holds m (ErrorDataTooLarge (codes "Size of object map") pos)
    ∷ where_holds t (ErrorDataTooLarge (codes "Length of string") pos)
    ∷ []
    )

abbrev tested : Limits → Position → Sizes → Option EvalAltResult
tested limits pos s = sizes_fault pos (ltb limits.array s.array) (ltb limits.map s.map) (ltb limits.text s.text)

passes_by : (limits : Limits) (pos : Position) (s : Sizes) (fault : EvalAltResult) (a m t : Bool) → ltb limits.array s.array ≡ a → ltb limits.map s.map ≡ m → ltb limits.text s.text ≡ t → sizes_fault pos a m t ≡ Some fault
    → (what : Bytes) × Passes limits s what × (fault ≡ ErrorDataTooLarge what pos)
passes_by limits pos s fault true m t ea em et h = (codes "Size of array", by_arrays (ltb-true limits.array s.array ea) refl, some_same _ fault h)
passes_by limits pos s fault false true t ea em et h = (codes "Size of object map", by_maps (ltb-false limits.array s.array ea) (ltb-true limits.map s.map em) refl, some_same _ fault h)
passes_by limits pos s fault false false true ea em et h = (codes "Length of string", by_texts (ltb-false limits.array s.array ea) (ltb-false limits.map s.map em) (ltb-true limits.text s.text et) refl, some_same _ fault h)
passes_by limits pos s fault false false false ea em et h = absurd (none_some fault h)

within_by : (limits : Limits) (pos : Position) (s : Sizes) (a m t : Bool) → ltb limits.array s.array ≡ a → ltb limits.map s.map ≡ m → ltb limits.text s.text ≡ t → sizes_fault pos a m t ≡ None → IsWithin limits s
within_by limits pos s true m t ea em et h = absurd (some_none _ h)
within_by limits pos s false true t ea em et h = absurd (some_none _ h)
within_by limits pos s false false true ea em et h = absurd (some_none _ h)
within_by limits pos s false false false ea em et h = (ltb-false limits.array s.array ea, ltb-false limits.map s.map em, ltb-false limits.text s.text et)

tested_passes : (limits : Limits) (pos : Position) (s : Sizes) (fault : EvalAltResult) → tested limits pos s ≡ Some fault → (what : Bytes) × Passes limits s what × (fault ≡ ErrorDataTooLarge what pos)
tested_passes limits pos s fault h = passes_by limits pos s fault (ltb limits.array s.array) (ltb limits.map s.map) (ltb limits.text s.text) refl refl refl h

tested_within : (limits : Limits) (pos : Position) (s : Sizes) → tested limits pos s ≡ None → IsWithin limits s
tested_within limits pos s h = within_by limits pos s (ltb limits.array s.array) (ltb limits.map s.map) (ltb limits.text s.text) refl refl refl h

passes_tested : (limits : Limits) (pos : Position) (s : Sizes) (what : Bytes) → Passes limits s what → tested limits pos s ≡ Some (ErrorDataTooLarge what pos)
passes_tested limits pos s what (by_arrays h w) = ap (λ (b : Bool). sizes_fault pos b (ltb limits.map s.map) (ltb limits.text s.text)) (lt-ltb limits.array s.array h) ∙ ap (λ (x : Bytes). Some (ErrorDataTooLarge x pos)) (sym w)
passes_tested limits pos s what (by_maps h k w) =
    (λ i. sizes_fault pos (le-ltb limits.array s.array h i) (lt-ltb limits.map s.map k i) (ltb limits.text s.text)) ∙ ap (λ (x : Bytes). Some (ErrorDataTooLarge x pos)) (sym w)
passes_tested limits pos s what (by_texts h k l w) =
    (λ i. sizes_fault pos (le-ltb limits.array s.array h i) (le-ltb limits.map s.map k i) (lt-ltb limits.text s.text l i)) ∙ ap (λ (x : Bytes). Some (ErrorDataTooLarge x pos)) (sym w)

within_tested : (limits : Limits) (pos : Position) (s : Sizes) → IsWithin limits s → tested limits pos s ≡ None
within_tested limits pos s h = λ i. sizes_fault pos (le-ltb limits.array s.array h.0 i) (le-ltb limits.map s.map h.1 i) (le-ltb limits.text s.text h.2 i)

-- the test of a native's first argument, by whether the call is unqualified, by whether it is no native and by that argument
abbrev first_fault : Limits → Position → Bool → Bool → Option Tree → Option EvalAltResult
first_fault limits pos unqualified script first = if not unqualified || script then None else option_and_then (too_large limits pos) first

first_passes : (engine : EngineLists) (plan : Plan) (pick : Pick) (back : Option Tree) (fault : EvalAltResult) (unqualified script : Bool) (o : Option Tree) → is_unqualified plan.search ≡ unqualified → is_script pick.func ≡ script
    → first_at_end engine plan pick back ≡ o → first_fault engine.limits plan.pos unqualified script o ≡ Some fault
    → (first : Tree) × HasFirst engine plan pick back first × ((what : Bytes) × Passes engine.limits (sizes_of first) what × (fault ≡ ErrorDataTooLarge what plan.pos))
first_passes engine plan pick back fault false script o u is e h = absurd (none_some fault h)
first_passes engine plan pick back fault true true o u is e h = absurd (none_some fault h)
first_passes engine plan pick back fault true false None u is e h = absurd (none_some fault h)
first_passes engine plan pick back fault true false (Some first) u is e h = (first, (u, is, e), tested_passes engine.limits plan.pos (sizes_of first) fault h)

first_within : (engine : EngineLists) (plan : Plan) (pick : Pick) (back : Option Tree) (unqualified script : Bool) (o : Option Tree) → is_unqualified plan.search ≡ unqualified → is_script pick.func ≡ script → first_at_end engine plan pick back ≡ o
    → first_fault engine.limits plan.pos unqualified script o ≡ None
    → (first : Tree) → HasFirst engine plan pick back first → IsWithin engine.limits (sizes_of first)
first_within engine plan pick back false script o u is e h first has = let q : false ≡ true = sym u ∙ has.0 in absurd cc
first_within engine plan pick back true true o u is e h first has = let q : true ≡ false = sym is ∙ has.1 in absurd cc
first_within engine plan pick back true false None u is e h first has = absurd (none_some first (sym e ∙ has.2))
first_within engine plan pick back true false (Some x) u is e h first has =
    subst (λ (y : Tree). IsWithin engine.limits (sizes_of y)) (some_same first x (sym has.2 ∙ e)) (tested_within engine.limits plan.pos (sizes_of x) h)

first_fits : (engine : EngineLists) (plan : Plan) (pick : Pick) (back : Option Tree) (unqualified script : Bool) (o : Option Tree) → is_unqualified plan.search ≡ unqualified → is_script pick.func ≡ script → first_at_end engine plan pick back ≡ o
    → ((first : Tree) → HasFirst engine plan pick back first → IsWithin engine.limits (sizes_of first))
    → first_fault engine.limits plan.pos unqualified script o ≡ None
first_fits engine plan pick back false script o u is e within = refl
first_fits engine plan pick back true true o u is e within = refl
first_fits engine plan pick back true false None u is e within = refl
first_fits engine plan pick back true false (Some first) u is e within = within_tested engine.limits plan.pos (sizes_of first) (within first (u, is, e))

first_is_large : (engine : EngineLists) (plan : Plan) (pick : Pick) (back : Option Tree) (first : Tree) (what : Bytes) → HasFirst engine plan pick back first
    → Passes engine.limits (sizes_of first) what → first_too_large engine plan pick back ≡ Some (ErrorDataTooLarge what plan.pos)
first_is_large engine plan pick back first what has p = (λ i. first_fault engine.limits plan.pos (has.0 i) (has.1 i) (has.2 i)) ∙ passes_tested engine.limits plan.pos (sizes_of first) what p

-- a value is unfit exactly where it or such an argument is too large
unfit_by : (engine : EngineLists) (plan : Plan) (pick : Pick) (back : Option Tree) (v : Tree) (fault : EvalAltResult) (own : Option EvalAltResult) → too_large engine.limits plan.pos v ≡ own
    → option_or own (option_or (first_too_large engine plan pick back) None) ≡ Some fault
    → (what : Bytes) × IsTooLarge engine plan pick back v what × (fault ≡ ErrorDataTooLarge what plan.pos)
unfit_by engine plan pick back v fault (Some x) is h =
    let p = tested_passes engine.limits plan.pos (sizes_of v) fault (is ∙ h) in
    (p.0, the_value p.1, p.2)
unfit_by engine plan pick back v fault None is h =
    let by : (o : Option EvalAltResult) → first_too_large engine plan pick back ≡ o → option_or o None ≡ Some fault → (what : Bytes) × IsTooLarge engine plan pick back v what × (fault ≡ ErrorDataTooLarge what plan.pos) =
    elim [
      | None ↦ (λ e k. absurd (none_some fault k))
      | Some x ↦ (λ e k.
          let p = first_passes engine plan pick back fault (is_unqualified plan.search) (is_script pick.func) (first_at_end engine plan pick back) refl refl refl (e ∙ k) in
          (p.2.0, the_first p.0 (tested_within engine.limits plan.pos (sizes_of v) is) p.1 p.2.1, p.2.2))
    ] in
    by (first_too_large engine plan pick back) refl h

pub unfit_large : (engine : EngineLists) (plan : Plan) (pick : Pick) (back : Option Tree) (v : Tree) (fault : EvalAltResult) → unfit engine plan pick back v ≡ Some fault
    → (what : Bytes) × IsTooLarge engine plan pick back v what × (fault ≡ ErrorDataTooLarge what plan.pos)
unfit_large engine plan pick back v fault h = unfit_by engine plan pick back v fault (too_large engine.limits plan.pos v) refl h

fit_by : (engine : EngineLists) (plan : Plan) (pick : Pick) (back : Option Tree) (v : Tree) (own first : Option EvalAltResult) → too_large engine.limits plan.pos v ≡ own
    → first_too_large engine plan pick back ≡ first → option_or own (option_or first None) ≡ None
    → AreWithin engine plan pick back v
fit_by engine plan pick back v (Some x) first is e h = absurd (some_none x h)
fit_by engine plan pick back v None (Some x) is e h = absurd (some_none x h)
fit_by engine plan pick back v None None is e h = (tested_within engine.limits plan.pos (sizes_of v) is, first_within engine plan pick back (is_unqualified plan.search) (is_script pick.func) (first_at_end engine plan pick back) refl refl refl e)

pub fit_within : (engine : EngineLists) (plan : Plan) (pick : Pick) (back : Option Tree) (v : Tree) → unfit engine plan pick back v ≡ None → AreWithin engine plan pick back v
fit_within engine plan pick back v h = fit_by engine plan pick back v (too_large engine.limits plan.pos v) (first_too_large engine plan pick back) refl refl h

pub large_unfit : (engine : EngineLists) (plan : Plan) (pick : Pick) (back : Option Tree) (v : Tree) (what : Bytes) → IsTooLarge engine plan pick back v what → unfit engine plan pick back v ≡ Some (ErrorDataTooLarge what plan.pos)
large_unfit engine plan pick back v what (the_value p) = ap (λ (o : Option EvalAltResult). option_or o (option_or (first_too_large engine plan pick back) None)) (passes_tested engine.limits plan.pos (sizes_of v) what p)
large_unfit engine plan pick back v what (the_first first within has p) =
    (λ i. option_or (within_tested engine.limits plan.pos (sizes_of v) within i) (option_or (first_is_large engine plan pick back first what has p i) None))

pub within_fit : (engine : EngineLists) (plan : Plan) (pick : Pick) (back : Option Tree) (v : Tree) → AreWithin engine plan pick back v → unfit engine plan pick back v ≡ None
within_fit engine plan pick back v h =
    (λ i. option_or (within_tested engine.limits plan.pos (sizes_of v) h.0 i) (option_or (first_fits engine plan pick back (is_unqualified plan.search) (is_script pick.func) (first_at_end engine plan pick back) refl refl refl h.1 i) None))

-- the test of a kind that is wanted
kind_tested : (e : EngineLists) (kind : TypeTag) (pos : Position) (v : Tree) → (kind ≡ tags.Dynamic → ⊥)
    → not_wanted e (Some kind) pos v ≡ where_holds (not (tag_eq kind (tag_of v))) (ErrorMismatchOutputType (wanted_name e kind) (display e v) pos)
kind_tested e tags.Unit pos v h = refl
kind_tested e tags.Bool pos v h = refl
kind_tested e tags.Int pos v h = refl
kind_tested e tags.Char pos v h = refl
kind_tested e tags.Text pos v h = refl
kind_tested e tags.Array pos v h = refl
kind_tested e tags.Map pos v h = refl
kind_tested e tags.FnPtr pos v h = refl
kind_tested e (tags.Custom n) pos v h = refl
kind_tested e tags.Dynamic pos v h = absurd (h refl)
kind_tested e tags.Str pos v h = refl
kind_tested e tags.StdString pos v h = refl

kind_by : (e : EngineLists) (kind : TypeTag) (pos : Position) (v : Tree) (fault : EvalAltResult) (same : Bool) → tag_eq kind (tag_of v) ≡ same
    → where_holds (not same) (ErrorMismatchOutputType (wanted_name e kind) (display e v) pos) ≡ Some fault
    → (kind ≡ tag_of v → ⊥) × (fault ≡ ErrorMismatchOutputType (wanted_name e kind) (display e v) pos)
kind_by e kind pos v fault true is h = absurd (none_some fault h)
kind_by e kind pos v fault false is h = ((λ same. let q : false ≡ true = sym is ∙ (tag_eq-Decides kind (tag_of v)).1 same in absurd cc), some_same _ fault h)

kind_other : (e : EngineLists) (kind : TypeTag) (pos : Position) (v : Tree) (same : Bool) → tag_eq kind (tag_of v) ≡ same → (kind ≡ tag_of v → ⊥)
    → where_holds (not same) (ErrorMismatchOutputType (wanted_name e kind) (display e v) pos) ≡ Some (ErrorMismatchOutputType (wanted_name e kind) (display e v) pos)
kind_other e kind pos v true is h = absurd (h ((tag_eq-Decides kind (tag_of v)).0 is))
kind_other e kind pos v false is h = refl

any_by : (e : EngineLists) (kind : TypeTag) (pos : Position) (v : Tree) (fault : EvalAltResult) (any : Bool) → tag_eq kind tags.Dynamic ≡ any → not_wanted e (Some kind) pos v ≡ Some fault
    → (kind ≡ tags.Dynamic → ⊥) × (kind ≡ tag_of v → ⊥) × (fault ≡ ErrorMismatchOutputType (wanted_name e kind) (display e v) pos)
any_by e kind pos v fault true is h = absurd (none_some fault (sym (ap (λ (k : TypeTag). not_wanted e (Some k) pos v) ((tag_eq-Decides kind tags.Dynamic).0 is)) ∙ h))
any_by e kind pos v fault false is h =
    let not_any : kind ≡ tags.Dynamic → ⊥ = λ same. let q : false ≡ true = sym is ∙ (tag_eq-Decides kind tags.Dynamic).1 same in absurd cc in
    let p = kind_by e kind pos v fault (tag_eq kind (tag_of v)) refl (sym (kind_tested e kind pos v not_any) ∙ h) in
    (not_any, p.0, p.1)

-- a value isn't wanted exactly where it is of another kind
pub unwanted_other : (e : EngineLists) (want : Option TypeTag) (pos : Position) (v : Tree) (fault : EvalAltResult) → not_wanted e want pos v ≡ Some fault
    → (kind : TypeTag) × IsOfOtherKind want kind v × (fault ≡ ErrorMismatchOutputType (wanted_name e kind) (display e v) pos)
unwanted_other e None pos v fault h = absurd (none_some fault h)
unwanted_other e (Some kind) pos v fault h = let p = any_by e kind pos v fault (tag_eq kind tags.Dynamic) refl h in (kind, (refl, p.0, p.1), p.2)

pub other_unwanted : (e : EngineLists) (want : Option TypeTag) (pos : Position) (v : Tree) (kind : TypeTag) → IsOfOtherKind want kind v → not_wanted e want pos v ≡ Some (ErrorMismatchOutputType (wanted_name e kind) (display e v) pos)
other_unwanted e want pos v kind h = ap (λ (o : Option TypeTag). not_wanted e o pos v) h.0 ∙ kind_tested e kind pos v h.1 ∙ kind_other e kind pos v (tag_eq kind (tag_of v)) refl h.2

-- how a call ends whose function answered a value, by the tests: of sizes, of a text for a printer, and of its kind
abbrev pub fits_end : Option Tree → Tree → End
fits_end first v = record { answer = Ok v; whose = Called; first_after = first; printed = None; refused = None }

abbrev done_from : Option Tree → Tree → Option Bytes → Tree → Option EvalAltResult → Option EvalAltResult → Option EvalAltResult → End
done_from first v shown made (Some fault) text other = refusing first v fault
done_from first v shown made None (Some fault) other = refusing first v fault
done_from first v shown made None None (Some fault) = with_printed shown (refusing first made fault)
done_from first v shown made None None None = with_printed shown (fits_end first made)

done_is : (first : Option Tree) (v : Tree) (shown : Option Bytes) (made : Tree) (o t p : Option EvalAltResult) →
    ◌≡◌ {A = End}
    (elim o as (λ _. End) [
      | None ↦ elim t as (λ _. End) [ None ↦ with_printed shown (elim p as (λ _. End) [ None ↦ fits_end first made | Some fault ↦ refusing first made fault ]) | Some fault ↦ refusing first v fault ]
      | Some fault ↦ refusing first v fault
    ])
    (done_from first v shown made o t p)
done_is first v shown made (Some fault) t p = refl
done_is first v shown made None (Some fault) p = refl
done_is first v shown made None None (Some fault) = refl
done_is first v shown made None None None = refl

-- the text that a call prints, and what it makes of its function's value
abbrev pub shown_by : EngineLists → Plan → Pick → Tree → Option Bytes
shown_by e plan pick v = printed_text (printer e.printers plan pick) v

abbrev made_by : EngineLists → Plan → Pick → Tree → Tree
made_by e plan pick v = answer_after_printing (printer e.printers plan pick) v

abbrev tests : EngineLists → Plan → Pick → Option Tree → Tree → Option EvalAltResult → Option EvalAltResult → Option EvalAltResult → End
tests e plan pick back v o t p = done_from (first_at_end e plan pick back) v (shown_by e plan pick v) (made_by e plan pick v) o t p

done_tests : (e : EngineLists) (plan : Plan) (pick : Pick) (back : Option Tree) (v : Tree) →
    done e plan pick back v ≡ tests e plan pick back v (unfit e plan pick back v) (no_text e (printer e.printers plan pick) plan.pos v) (not_wanted e plan.want plan.pos (made_by e plan pick v))
done_tests e plan pick back v =
    done_is (first_at_end e plan pick back) v (shown_by e plan pick v) (made_by e plan pick v) (unfit e plan pick back v) (no_text e (printer e.printers plan pick) plan.pos v) (not_wanted e plan.want plan.pos (made_by e plan pick v))

-- How a call ends with the last step of its function.
pub data EndsBy (e : EngineLists) (plan : Plan) (pick : Pick) (step : NativeStep) (end : End) : Type 0 where
  fails : (fault : EvalAltResult) (back : Option Tree) → step ≡ Failed fault back → end ≡ handed_on e plan pick back fault → EndsBy e plan pick step end
  is_large : (v : Tree) (back : Option Tree) (what : Bytes) → step ≡ Done v back → IsTooLarge e plan pick back v what → end ≡ refusing (first_at_end e plan pick back) v (ErrorDataTooLarge what plan.pos) → EndsBy e plan pick step end
  is_other : (v made : Tree) (back : Option Tree) (wanted : Bytes) → step ≡ Done v back → AreWithin e plan pick back v → IsMismatch e plan pick v wanted made
      → end ≡ with_printed (shown_by e plan pick v) (refusing (first_at_end e plan pick back) made (ErrorMismatchOutputType wanted (display e made) plan.pos)) → EndsBy e plan pick step end
  fits : (v made : Tree) (back : Option Tree) → step ≡ Done v back → AreWithin e plan pick back v → IsPrintable e.printers plan pick v → Makes e.printers plan pick v made → not_wanted e plan.want plan.pos made ≡ None
      → end ≡ with_printed (shown_by e plan pick v) (fits_end (first_at_end e plan pick back) made) → EndsBy e plan pick step end

done_by : (e : EngineLists) (plan : Plan) (pick : Pick) (v : Tree) (back : Option Tree) (end : End) (o t p : Option EvalAltResult) → unfit e plan pick back v ≡ o
    → no_text e (printer e.printers plan pick) plan.pos v ≡ t → not_wanted e plan.want plan.pos (made_by e plan pick v) ≡ p
    → end ≡ tests e plan pick back v o t p → EndsBy e plan pick (Done v back) end
done_by e plan pick v back end (Some fault) t p is n k h =
    let l = unfit_large e plan pick back v fault is in
    is_large v back l.0 refl l.1 (h ∙ ap (refusing (first_at_end e plan pick back) v) l.2)
done_by e plan pick v back end None (Some fault) p is n k h =
    let u = text_missing e plan pick v fault n in
    is_other v v back (codes "string") refl (fit_within e plan pick back v is) (isnt_text u.prints u.none refl refl)
    (h ∙ (λ i. with_printed (sym u.unprinted i) (refusing (first_at_end e plan pick back) v (u.says i))))
done_by e plan pick v back end None None (Some fault) is n k h =
    let l = unwanted_other e plan.want plan.pos (made_by e plan pick v) fault k in
    is_other v (made_by e plan pick v) back (wanted_name e l.0) refl (fit_within e plan pick back v is)
    (isnt_wanted l.0 (printable e plan pick v n) (makes_printing e plan pick v (printer e.printers plan pick) refl) l.1 refl)
    (h ∙ ap (λ (x : EvalAltResult). with_printed (shown_by e plan pick v) (refusing (first_at_end e plan pick back) (made_by e plan pick v) x)) l.2)
done_by e plan pick v back end None None None is n k h =
    fits v (made_by e plan pick v) back refl (fit_within e plan pick back v is) (printable e plan pick v n) (makes_printing e plan pick v (printer e.printers plan pick) refl) k h

pub ends_by : (e : EngineLists) (plan : Plan) (pick : Pick) (step : NativeStep) (end : End) → end_of e plan pick step ≡ Some end → EndsBy e plan pick step end
unfolding end_of
ends_by e plan pick (Done v back) end h =
    done_by e plan pick v back end (unfit e plan pick back v) (no_text e (printer e.printers plan pick) plan.pos v) (not_wanted e plan.want plan.pos (made_by e plan pick v)) refl refl refl
    (some_same (done e plan pick back v) end h ∙ done_tests e plan pick back v)
ends_by e plan pick (Failed fault back) end h = fails fault back refl (some_same (handed_on e plan pick back fault) end h)
ends_by e plan pick (Ask request carry) end h = absurd (none_some end h)

-- the ends that refuse a value
pub large_ends : (e : EngineLists) (plan : Plan) (pick : Pick) (v : Tree) (back : Option Tree) (what : Bytes) (end : End) → IsTooLarge e plan pick back v what
    → end_of e plan pick (Done v back) ≡ Some end → end ≡ refusing (first_at_end e plan pick back) v (ErrorDataTooLarge what plan.pos)
unfolding end_of
large_ends e plan pick v back what end large h =
    some_same (done e plan pick back v) end h ∙ done_tests e plan pick back v
    ∙ ap (λ (o : Option EvalAltResult). tests e plan pick back v o (no_text e (printer e.printers plan pick) plan.pos v) (not_wanted e plan.want plan.pos (made_by e plan pick v))) (large_unfit e plan pick back v what large)

-- within the limits the other tests say how the call ends
within_ends : (e : EngineLists) (plan : Plan) (pick : Pick) (v : Tree) (back : Option Tree) (end : End) → AreWithin e plan pick back v → end_of e plan pick (Done v back) ≡ Some end
    → end ≡ tests e plan pick back v None (no_text e (printer e.printers plan pick) plan.pos v) (not_wanted e plan.want plan.pos (made_by e plan pick v))
unfolding end_of
within_ends e plan pick v back end within h =
    some_same (done e plan pick back v) end h ∙ done_tests e plan pick back v
    ∙ ap (λ (o : Option EvalAltResult). tests e plan pick back v o (no_text e (printer e.printers plan pick) plan.pos v) (not_wanted e plan.want plan.pos (made_by e plan pick v))) (within_fit e plan pick back v within)

pub other_ends : (e : EngineLists) (plan : Plan) (pick : Pick) (v made : Tree) (back : Option Tree) (wanted : Bytes) (end : End) → AreWithin e plan pick back v
    → IsMismatch e plan pick v wanted made → end_of e plan pick (Done v back) ≡ Some end
    → end ≡ with_printed (shown_by e plan pick v) (refusing (first_at_end e plan pick back) made (ErrorMismatchOutputType wanted (display e made) plan.pos))
other_ends e plan pick v made back wanted end within (isnt_text prints none says is) h =
    within_ends e plan pick v back end within h
    ∙ ap (λ (t : Option EvalAltResult). tests e plan pick back v None t (not_wanted e plan.want plan.pos (made_by e plan pick v))) (missing_text e plan pick v prints none)
    ∙ (λ i. with_printed (sym (unprinted e plan pick v prints none) i) (refusing (first_at_end e plan pick back) (sym is i) (ErrorMismatchOutputType (sym says i) (display e (sym is i)) plan.pos)))
other_ends e plan pick v made back wanted end within (isnt_wanted kind text makes other says) h =
    let same : made ≡ made_by e plan pick v = printing_makes e plan pick v made makes in
    within_ends e plan pick v back end within h
    ∙ (λ i. tests e plan pick back v None (printable_text e plan pick v text i) (not_wanted e plan.want plan.pos (sym same i)))
    ∙ ap (λ (k : Option EvalAltResult). done_from (first_at_end e plan pick back) v (shown_by e plan pick v) (made_by e plan pick v) None None k) (other_unwanted e plan.want plan.pos made kind other)
    ∙ (λ i. with_printed (shown_by e plan pick v) (refusing (first_at_end e plan pick back) (sym same i) (ErrorMismatchOutputType (sym says i) (display e made) plan.pos)))

-- within the limits a call shows what it prints
printed_from : (e : EngineLists) (plan : Plan) (pick : Pick) (v : Tree) (back : Option Tree) (t p : Option EvalAltResult) → no_text e (printer e.printers plan pick) plan.pos v ≡ t
    → (tests e plan pick back v None t p).printed ≡ shown_by e plan pick v
printed_from e plan pick v back (Some fault) p is = sym ((text_missing e plan pick v fault is).unprinted)
printed_from e plan pick v back None (Some fault) is = refl
printed_from e plan pick v back None None is = refl

pub printed_ends : (e : EngineLists) (plan : Plan) (pick : Pick) (v : Tree) (back : Option Tree) (end : End) → AreWithin e plan pick back v → end_of e plan pick (Done v back) ≡ Some end → end.printed ≡ shown_by e plan pick v
printed_ends e plan pick v back end within h =
    ap (λ (x : End). x.printed) (within_ends e plan pick v back end within h) ∙ printed_from e plan pick v back (no_text e (printer e.printers plan pick) plan.pos v) (not_wanted e plan.want plan.pos (made_by e plan pick v)) refl

-- and answers what it makes of a value that nothing refuses
wanted_by : (e : EngineLists) (want : Option TypeTag) (pos : Position) (v : Tree) (o : Option EvalAltResult) → not_wanted e want pos v ≡ o → ((kind : TypeTag) → IsOfOtherKind want kind v → ⊥) → o ≡ None
wanted_by e want pos v None is none = refl
wanted_by e want pos v (Some fault) is none = let l = unwanted_other e want pos v fault is in absurd (none l.0 l.1)

pub none_other : (e : EngineLists) (want : Option TypeTag) (pos : Position) (v : Tree) (kind : TypeTag) → not_wanted e want pos v ≡ None → IsOfOtherKind want kind v → ⊥
none_other e want pos v kind h other = none_some (ErrorMismatchOutputType (wanted_name e kind) (display e v) pos) (sym h ∙ other_unwanted e want pos v kind other)

pub value_ends : (e : EngineLists) (plan : Plan) (pick : Pick) (v made : Tree) (back : Option Tree) (end : End) → AreWithin e plan pick back v → IsPrintable e.printers plan pick v → Makes e.printers plan pick v made
    → ((kind : TypeTag) → IsOfOtherKind plan.want kind made → ⊥) → end_of e plan pick (Done v back) ≡ Some end → end ≡ with_printed (shown_by e plan pick v) (fits_end (first_at_end e plan pick back) made)
value_ends e plan pick v made back end within text makes wanted h =
    let same : made ≡ made_by e plan pick v = printing_makes e plan pick v made makes in
    within_ends e plan pick v back end within h
    ∙ (λ i. tests e plan pick back v None (printable_text e plan pick v text i) (not_wanted e plan.want plan.pos (sym same i)))
    ∙ ap (λ (k : Option EvalAltResult). done_from (first_at_end e plan pick back) v (shown_by e plan pick v) (made_by e plan pick v) None None k) (wanted_by e plan.want plan.pos made (not_wanted e plan.want plan.pos made) refl wanted)
    ∙ ap (λ (x : Tree). with_printed (shown_by e plan pick v) (fits_end (first_at_end e plan pick back) x)) (sym same)
