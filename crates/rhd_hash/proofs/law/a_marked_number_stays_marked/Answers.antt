use Rattle.std.proofs.Common.{◌∙◌, ◌||◌, ◌==◌, ap, refl, eq-eqb}
use Rattle.rhd_hash.specs.Filter.{slot, is_marked}
use Rattle.rhd_hash.proofs.Filters.{or-true}
use Rattle.rhd_hash.proofs.law.a_marked_number_stays_marked.Goals as goal

pub returns-clause-itself : goal.returns-clause-itself
returns-clause-itself c = λ size value old new marks. marks value ∙ ap (λ b. is_marked size old value || b) (eq-eqb _ _ refl) ∙ or-true _

pub returns-clause-others : goal.returns-clause-others
returns-clause-others c = λ size value other old new marks was. marks other ∙ ap (λ b. b || (slot size other == slot size value)) was

pub returns-clause-first : goal.returns-clause-first
returns-clause-first c = λ size v a b sum joins was. joins v ∙ ap (λ m. m || is_marked size b v) was

pub returns-clause-second : goal.returns-clause-second
returns-clause-second c = λ size v a b sum joins was. joins v ∙ ap (λ m. is_marked size a v || m) was ∙ or-true _
