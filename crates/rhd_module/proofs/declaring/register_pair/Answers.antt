use Rattle.rhd_module.proofs.Puts.{unchanged}
use Rattle.rhd_module.proofs.declaring.register_pair.Goals as goal

pub returns-clause-err : goal.returns-clause-err
returns-clause-err c = unchanged _ _ _ _ c.put_fn.result c.put_fn.ensures
