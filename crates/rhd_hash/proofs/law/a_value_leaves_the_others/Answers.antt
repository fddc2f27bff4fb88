use Rattle.rhd_hash.specs.Keys.{key_eq, key_eq-Decides}
use Rattle.rhd_hash.proofs.PutIn.{is_put, finds_itself, finds_others}
use Rattle.rhd_hash.proofs.law.a_value_leaves_the_others.Goals as goal

pub returns-clause-put : goal.returns-clause-put
returns-clause-put g c = λ ps key value. is_put key_eq key_eq-Decides key value ps

pub returns-clause-itself : goal.returns-clause-itself
returns-clause-itself g c = λ ps key value. finds_itself key_eq key_eq-Decides key value ps

pub returns-clause-others : goal.returns-clause-others
returns-clause-others g c = λ ps key other value apart. finds_others key_eq key_eq-Decides key value other ps apart
