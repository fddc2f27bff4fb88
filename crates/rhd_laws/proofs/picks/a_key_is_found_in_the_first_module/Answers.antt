use Rattle.rhd_laws.proofs.PickPlaces.{in_first, in_first_is, not_found, none_declared}
use Rattle.rhd_laws.proofs.picks.a_key_is_found_in_the_first_module.Goals as goal

pub returns-clause-found : goal.returns-clause-found
returns-clause-found c = λ e f key pick. (in_first e f key pick, in_first_is e f key pick)

pub returns-clause-missing : goal.returns-clause-missing
returns-clause-missing c = λ e f key. (not_found e f key, none_declared e f key)
