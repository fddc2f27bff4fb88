use Rattle.std.proofs.Common.{List, ℕ, ◌++◌, take, refl, sym, ap, ◌∙◌}
use Rattle.std.specs.Prelude.{codes}
use Rattle.std.specs.List.{flat_map}
use Rattle.std.proofs.Output.{has_written_styled_append, has_written_styled_of_eq, has_written_styled_nil}
use Rattle.rhd_func.proofs.Pieces.{flat_map_more}
use Rattle.rhd_func.proofs.display.show_more_params.Goals as goal

pub loop-param-init : goal.loop-param-init
loop-param-init g c = λ flush. has_written_styled_nil _ _ flush

pub loop-param-preserved : goal.loop-param-preserved
loop-param-preserved g c = λ flush.
    let f : List ℕ → List ℕ = λ p. codes ", " ++ p in
    let ps : List (List ℕ) = c.args.params.now in
    let so_far = c.loop-param.invariant flush in
    let one = c.in_ok-write_str.ensures.styled so_far.flush refl in
    let two = c.in_ok-write_str-2.ensures.styled one.flush refl in
    let all = has_written_styled_append _ _ _ _ _ _ so_far (has_written_styled_append _ _ _ _ _ _ one two) in
    has_written_styled_of_eq _ _ _ _ _ (ap (λ (t : List ℕ). flat_map f (take c.loop-param.param-index ps) ++ (codes ", " ++ t)) (c.as_str.ensures ∙ c.param-item.is) ∙ sym (flat_map_more f ps c.loop-param.param-index _ c.loop-param-test.true)) all
