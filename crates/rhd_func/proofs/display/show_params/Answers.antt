use Rattle.std.proofs.Common.{List, ℕ, ◌++◌, ◌-◌, length, take, drop, refl, ap, ◌∙◌}
use Rattle.std.specs.Prelude.{codes}
use Rattle.std.specs.List.{flat_map}
use Rattle.std.proofs.Output.{has_written_styled_append, has_written_styled_of_eq}
use Rattle.rhd_func.proofs.Pieces.{params_split}
use Rattle.rhd_func.proofs.display.show_params.Goals as goal

pub returns-in_ok-write_str-in-len1-up : goal.returns-in_ok-write_str-in-len1-up
returns-in_ok-write_str-in-len1-up g c = λ flush ok.
    let ps : List (List ℕ) = c.args.params.now in
    let one = c.in_ok-write_str-in-len1-up.ensures.styled flush refl in
    let two = c.show_more_params.ensures one.flush ok in
    let more : List ℕ = flat_map (λ (p : List ℕ). codes ", " ++ p) (take (length ps - 1) (drop 1 ps)) in
    has_written_styled_of_eq _ _ _ _ _ (ap (λ (t : List ℕ). t ++ more) (c.as_str.ensures ∙ c.first-item.is) ∙ params_split ps _ c.in-len1-up.len_at_least) (has_written_styled_append _ _ _ _ _ _ one two)
