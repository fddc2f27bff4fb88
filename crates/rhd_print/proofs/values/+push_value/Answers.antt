use Rattle.std.proofs.Common.{◌≡◌, [], ◌∷◌, ◌++◌, sym, ap, ◌∙◌, append_assoc}
use Rattle.rhd_value.specs.Tree.{Bytes, Tree}
use Rattle.rhd_print.proofs.PrintingEntries.{next_entry}
use Rattle.rhd_print.proofs.values.+push_value.Goals as goal

pub push_entries-loop-name-preserved : goal.push_entries-loop-name-preserved
push_entries-loop-name-preserved t c =
    let l = c.loop-name in
    let done = l.invariant.0 in
    let e : Bytes × Tree = (c.in-Some.name.now, c.in-Some.value.now) in
    let left = c.next.new.self in
    let here : l.name-iterator ≡ e ∷ left = c.in-Some.ensures.steps in (
      done ++ e ∷ [],
      l.invariant.1 ∙ ap (λ es. done ++ es) here ∙ sym (append_assoc done (e ∷ []) left),
      rw (c.in_ok-push_entry.ensures, c.in_ok-push_sign.ensures) (next_entry l.later l.out.items e left ∙ (rw here at l.invariant.2)),
    )
