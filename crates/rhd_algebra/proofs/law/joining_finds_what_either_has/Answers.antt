use Rattle.rhd_module.specs.Shown.{own_decl}
use Rattle.rhd_module.proofs.JoinLaws.{filled_finds, merged_finds}
use Rattle.rhd_module.proofs.SamePairs.{apart_declared}
use Rattle.rhd_algebra.proofs.law.joining_finds_what_either_has.Goals as goal

pub returns-clause-filled : goal.returns-clause-filled
unfolding own_decl
returns-clause-filled c = λ m other key own same. filled_finds m other key (apart_declared other.own own) same

pub returns-clause-merged : goal.returns-clause-merged
unfolding own_decl
returns-clause-merged c = λ m other key own same. merged_finds m other key (apart_declared other.own own) same
