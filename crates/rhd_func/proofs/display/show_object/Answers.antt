use Rattle.std.proofs.Common.{refl}
use Rattle.std.proofs.Output.{has_written_styled_append}
use Rattle.rhd_func.proofs.display.show_object.Goals as goal

pub returns-in_ok-write_str-in-Some : goal.returns-in_ok-write_str-in-Some
returns-in_ok-write_str-in-Some g c = λ flush ok.
    let one = c.in_ok-write_str-in-Some.ensures.styled flush refl in
    let two = c.write_str-in-Some.ensures.styled one.flush ok in
    rw (c.in-Some.is, ← c.as_str.ensures) (has_written_styled_append _ _ _ _ _ _ one two)
