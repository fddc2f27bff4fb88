use Rattle.rhd_laws.proofs.UnfoundRows.{property_exactly, indexer_exactly, number_exactly, other_exactly, qualified_exactly}
use Rattle.rhd_laws.proofs.missing.a_fault_of_a_missing_call_is_by_its_name.Goals as goal

pub returns-clause-property : goal.returns-clause-property
returns-clause-property c = λ e pos name args. property_exactly e pos name args

pub returns-clause-index : goal.returns-clause-index
returns-clause-index c = λ e pos name args. indexer_exactly e pos name args

pub returns-clause-number : goal.returns-clause-number
returns-clause-number c = λ e pos name args. number_exactly e pos name args

pub returns-clause-other : goal.returns-clause-other
returns-clause-other c = λ e pos name args. other_exactly e pos name args

pub returns-clause-qualified : goal.returns-clause-qualified
returns-clause-qualified c = λ e path pos name args. qualified_exactly e path pos name args
