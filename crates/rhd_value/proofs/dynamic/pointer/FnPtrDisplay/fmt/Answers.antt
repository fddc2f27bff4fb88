use Rattle.std.proofs.Common.{refl}
use Rattle.std.proofs.Output.{has_written_styled_append}
use Rattle.rhd_value.proofs.dynamic.pointer.FnPtrDisplay.fmt.Goals as goal

pub returns-clause-styled : goal.returns-clause-styled
returns-clause-styled g c flush ok =
    let one = c.in_ok-write_str.ensures.styled flush refl in
    let two = c.in_ok-write_str-2.ensures.styled one.flush refl in
    let three = c.write_str-3.ensures.styled two.flush ok in
    rw (← c.fn_name.ensures, ← c.as_str.ensures) (has_written_styled_append _ _ _ _ _ _ one (has_written_styled_append _ _ _ _ _ _ two three))
