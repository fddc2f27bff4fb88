use Rattle.rhd_text.proofs.AgainValues.{value_again}
use Rattle.rhd_text.proofs.AgainUtf8.{whole_again}
use Rattle.rhd_text.proofs.laws.printed_values_are_read_again.Goals as goal

pub returns-clause-whole : goal.returns-clause-whole
returns-clause-whole c = whole_again

pub returns-clause-inside : goal.returns-clause-inside
returns-clause-inside c = value_again
