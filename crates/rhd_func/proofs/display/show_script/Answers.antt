use Rattle.std.proofs.Common.{refl}
use Rattle.std.proofs.Output.{has_written_styled_append}
use Rattle.rhd_func.proofs.display.show_script.Goals as goal

pub returns : goal.returns
returns g c = λ flush ok.
    let a = c.in_ok-show_access.ensures flush refl in
    let b = c.in_ok-show_object.ensures a.flush refl in
    let n = c.in_ok-write_str.ensures.styled b.flush refl in
    let o = c.in_ok-write_str-2.ensures.styled n.flush refl in
    let p = c.in_ok-show_params.ensures o.flush refl in
    let e = c.write_str-3.ensures.styled p.flush ok in
    rw (← c.as_str.ensures, ← c.as_slice.ensures) (has_written_styled_append _ _ _ _ _ _ (has_written_styled_append _ _ _ _ _ _ (has_written_styled_append _ _ _ _ _ _ (has_written_styled_append _ _ _ _ _ _ (has_written_styled_append _ _ _ _ _ _ a b) n) o) p) e)
