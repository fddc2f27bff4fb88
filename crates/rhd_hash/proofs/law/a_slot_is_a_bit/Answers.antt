use Rattle.rhd_hash.proofs.Filters.{slot-same, slot-other}
use Rattle.rhd_hash.proofs.law.a_slot_is_a_bit.Goals as goal

pub returns : goal.returns
returns c = λ size v w some. (slot-other size v w some, λ h. slot-same size v w some h.0 h.1)
