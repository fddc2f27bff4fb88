use Rattle.rhd_laws.proofs.TreeFaults.{unbegun_exactly, cut_exactly}
use Rattle.rhd_laws.proofs.TreeLaws.{runs_spend, runs_spent, runs_begun, runs_cut}
use Rattle.rhd_laws.proofs.calls.a_spent_budget_ends_the_tree.Goals as goal

pub returns-clause-lasts : goal.returns-clause-lasts
returns-clause-lasts g c = λ r lasts. runs_begun _ _ r.runs lasts

pub returns-clause-spent : goal.returns-clause-spent
returns-clause-spent g c = λ r spent. runs_cut _ _ r.runs spent

pub returns-clause-unbegun : goal.returns-clause-unbegun
returns-clause-unbegun g c = λ r. unbegun_exactly _ _ r.runs

pub returns-clause-answered : goal.returns-clause-answered
returns-clause-answered g c = λ r. cut_exactly _ _ r.runs

pub returns-clause-stands : goal.returns-clause-stands
returns-clause-stands g c = λ r spent. runs_spent _ _ r.runs spent

pub returns-clause-within : goal.returns-clause-within
returns-clause-within g c = λ r h. runs_spend _ _ r.runs h
