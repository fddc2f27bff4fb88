use Rattle.rhd_hash.specs.Keys.{key_eq, key_eq-Decides}
use Rattle.rhd_hash.proofs.FirstFound.{found_first, first_found, missing_none, none_missing}
use Rattle.rhd_hash.proofs.law.a_key_finds_its_value.Goals as goal

pub returns-clause-found : goal.returns-clause-found
returns-clause-found g c = λ ps key value. (found_first key_eq key_eq-Decides key value ps, first_found key_eq key_eq-Decides key value ps)

pub returns-clause-missing : goal.returns-clause-missing
returns-clause-missing g c = λ ps key. (missing_none key_eq key_eq-Decides key ps, none_missing key_eq key_eq-Decides key ps)
