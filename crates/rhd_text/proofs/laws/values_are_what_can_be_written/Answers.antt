use Rattle.rhd_print.specs.PrintedValues.{spelled}
use Rattle.rhd_text.proofs.AgainUtf8.{whole_again}
use Rattle.rhd_text.proofs.WrittenValues.{whole_fits}
use Rattle.rhd_text.proofs.laws.values_are_what_can_be_written.Goals as goal

pub returns : goal.returns
returns c t = ((λ p. (spelled t, whole_again t p.0 p.1)), (λ w. whole_fits t w.0 w.1))
