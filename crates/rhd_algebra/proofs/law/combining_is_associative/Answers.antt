use Rattle.std.proofs.Common.{sym, append_assoc}
use Rattle.rhd_module.proofs.JoinLaws.{all_through, vars_through, subs_through}
use Rattle.rhd_module.proofs.SamePairs.{alone_distinct}
use Rattle.rhd_algebra.proofs.law.combining_is_associative.Goals as goal

pub returns-clause-functions : goal.returns-clause-functions
returns-clause-functions c = λ a b d own. all_through d.own.eager b.own.eager a.own.eager (alone_distinct b.own.eager own.0)

pub returns-clause-variables : goal.returns-clause-variables
returns-clause-variables c = λ a b d sorted. vars_through d.own.vars b.own.vars a.own.vars sorted

pub returns-clause-sub_modules : goal.returns-clause-sub_modules
returns-clause-sub_modules c = λ a b d sorted. subs_through d.subs b.subs a.subs sorted

pub returns-clause-manifests : goal.returns-clause-manifests
returns-clause-manifests c = λ a b d. append_assoc a.own.manifests b.own.manifests d.own.manifests

pub returns-clause-listed : goal.returns-clause-listed
returns-clause-listed c = λ a b d. sym (append_assoc d.own.listed b.own.listed a.own.listed)
