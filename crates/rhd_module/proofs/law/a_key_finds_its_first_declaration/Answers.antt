use Rattle.rhd_hash.specs.Keys.{key_eq, key_eq-Decides}
use Rattle.rhd_module.specs.Shown.{shown, own_decl}
use Rattle.rhd_hash.proofs.FirstFound.{found_first, first_found, missing_none, none_missing}
use Rattle.rhd_module.proofs.law.a_key_finds_its_first_declaration.Goals as goal

pub returns-clause-found : goal.returns-clause-found
unfolding own_decl
returns-clause-found c = λ m key d. (found_first key_eq key_eq-Decides key d (shown m.own), first_found key_eq key_eq-Decides key d (shown m.own))

pub returns-clause-missing : goal.returns-clause-missing
unfolding own_decl
returns-clause-missing c = λ m key. (missing_none key_eq key_eq-Decides key (shown m.own), none_missing key_eq key_eq-Decides key (shown m.own))
