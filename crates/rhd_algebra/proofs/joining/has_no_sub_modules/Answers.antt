use Rattle.std.proofs.Common.{nat_eq, ap, ◌∙◌, Global}
use Rattle.rhd_module.specs.Contents.{has_no_subs}
use Rattle.rhd_module.proofs.SubModules.{subs_none}
use Rattle.rhd_algebra.proofs.joining.has_no_sub_modules.Goals as goal

pub returns : goal.returns
returns c = ap (λ n. nat_eq n 0) c.len.ensures.value ∙ subs_none {Z = Global} c.iter_sub_modules.result ∙ ap has_no_subs c.iter_sub_modules.ensures.subs
