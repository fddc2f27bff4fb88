use Rattle.std.proofs.Common.{refl}
use Rattle.rhd_module.proofs.JoinLaws.{merged_declared}
use Rattle.rhd_algebra.proofs.law.merging_combines_what_is_declared.Goals as goal

pub returns-clause-functions : goal.returns-clause-functions
returns-clause-functions c = λ m other none. merged_declared m other none

pub returns-clause-variables : goal.returns-clause-variables
returns-clause-variables c = λ m other. refl
