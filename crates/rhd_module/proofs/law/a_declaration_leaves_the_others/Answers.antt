use Rattle.rhd_hash.specs.Keys.{key_eq, key_eq-Decides}
use Rattle.rhd_table.specs.Pairs.{put}
use Rattle.rhd_module.specs.Shown.{own_decl}
use Rattle.rhd_hash.proofs.PutIn.{is_put, finds_itself, finds_others}
use Rattle.rhd_module.proofs.Listed.{shown_found, shown_alike}
use Rattle.rhd_module.proofs.law.a_declaration_leaves_the_others.Goals as goal

pub returns-clause-put : goal.returns-clause-put
returns-clause-put c = λ m key d. is_put key_eq key_eq-Decides key d m.own.eager

pub returns-clause-itself : goal.returns-clause-itself
unfolding own_decl
returns-clause-itself c = λ m key d. shown_found m.own.seeds (put key d m.own.eager) m.own.listed key d (finds_itself key_eq key_eq-Decides key d m.own.eager)

pub returns-clause-others : goal.returns-clause-others
unfolding own_decl
returns-clause-others c = λ m key other d apart. shown_alike m.own.seeds (put key d m.own.eager) m.own.eager m.own.listed other (finds_others key_eq key_eq-Decides key d other m.own.eager apart)
