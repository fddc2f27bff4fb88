use Rattle.std.proofs.Common.{refl}
use Rattle.rhd_names.specs.Names.{is_identifier, is_anonymous}
use Rattle.rhd_names.proofs.law.no_property_is_an_identifier.Goals as goal

pub returns-clause-getters : goal.returns-clause-getters
unfolding is_identifier is_anonymous
returns-clause-getters c = λ name. (refl, refl)

pub returns-clause-setters : goal.returns-clause-setters
unfolding is_identifier is_anonymous
returns-clause-setters c = λ name. (refl, refl)
