use Rattle.std.specs.Option.{option_copied}
use Rattle.rhd_kit.proofs.GivenBack.{back_ok, kit_next_back}
use Rattle.rhd_kit.proofs.kit.KitFnPluginFunc.resume.Goals as goal

pub returns-clause-back : goal.returns-clause-back
returns-clause-back c = back_ok _ _ _ (kit_next_back c.args.self.now.number (option_copied c.args.ctx) c.args.carry c.args.done.answer) c.go_on.ensures
