use Rattle.rhd_module.proofs.Covered.{shown_no_script}
use Rattle.rhd_module.proofs.module.Module.may_have_script.Goals as goal

pub returns : goal.returns
returns c = λ none. rw (← c.self.view_is) (shown_no_script c.self.inside.eager.seeds c.self.inside.eager.pairs c.self.inside.listed (c.may_have_script.ensures none))
