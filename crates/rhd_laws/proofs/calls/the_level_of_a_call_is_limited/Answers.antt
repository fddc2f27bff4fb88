use Rattle.std.proofs.Common.{arith}
use Rattle.rhd_laws.proofs.TreeFaults.{refused_exactly, deep_exactly, deep_own, deep_shown}
use Rattle.rhd_laws.proofs.TreeLaws.{tree_within}
use Rattle.rhd_laws.proofs.calls.the_level_of_a_call_is_limited.Goals as goal

pub returns-clause-refused : goal.returns-clause-refused
returns-clause-refused g c = λ e f level call. refused_exactly e f level call

pub returns-clause-ends : goal.returns-clause-ends
returns-clause-ends g c = λ r begun. deep_exactly _ _ r.runs begun

pub returns-clause-own : goal.returns-clause-own
returns-clause-own g c = λ r pos begun. deep_own _ _ pos r.runs begun

pub returns-clause-shown : goal.returns-clause-shown
returns-clause-shown g c = λ r begun h. deep_shown _ _ r.runs begun h

pub returns-clause-within : goal.returns-clause-within
returns-clause-within g c = λ r node one inside. tree_within _ _ inside r.runs (omega (arith, one))
