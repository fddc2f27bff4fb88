use Rattle.rhd_laws.proofs.Owned.{unfound_exactly, unfound_shown}
use Rattle.rhd_laws.proofs.missing.a_missing_call_ends_with_its_fault.Goals as goal

pub returns-clause-ends : goal.returns-clause-ends
returns-clause-ends g c = λ r fault begun small. unfound_exactly _ _ fault r.runs begun small

pub returns-clause-shown : goal.returns-clause-shown
returns-clause-shown g c = λ r fault begun h. unfound_shown _ _ fault r.runs begun h
