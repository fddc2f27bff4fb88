use Rattle.rhd_kit.proofs.GivenBack.{back_ok, does_back}
use Rattle.rhd_kit.proofs.kit.KitFnPluginFunc.call.Goals as goal

pub returns-clause-back : goal.returns-clause-back
returns-clause-back c = back_ok _ _ _ (does_back _ _ _ _) c.act.ensures
