use Rattle.std.proofs.Common.{◌∙◌, ap, Global}
use Rattle.std.specs.Option.{option_map}
use Rattle.rhd_module.proofs.SubModules.{seen_copied, subs_find}
use Rattle.rhd_module.proofs.module.Module.get_sub_module.Goals as goal

pub returns : goal.returns
returns c = rw (← c.self.view_is) (seen_copied _ ∙ ap (option_map (λ m. m.value)) c.get.ensures.value ∙ subs_find {Z = Global} c.self.inside.subs.entries c.args.name.now)
