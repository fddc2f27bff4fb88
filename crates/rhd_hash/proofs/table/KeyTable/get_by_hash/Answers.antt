use Rattle.std.proofs.Common.{Some, ap, ◌∙◌}
use Rattle.rhd_hash.proofs.table.KeyTable.get_by_hash.Goals as goal

pub returns-in-Some-clause-pair : goal.returns-in-Some-clause-pair
returns-in-Some-clause-pair g c = ap (λ k. Some (k, c.in-Some.field-0.now.1)) c.key.ensures ∙ c.in-Some.ensures.pair
