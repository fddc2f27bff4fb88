use Rattle.rhd_table.proofs.Noted.{same_places, copy_noted}
use Rattle.rhd_table.proofs.native_index.NativeIndex.dup.Goals as goal

pub returns : goal.returns
returns c = λ hash. copy_noted (λ v. v.items) _ (λ v w h. same_places v.items w.items h) c.args.self.now.places.entries c.in_ok-clone.field-0.entries c.in_ok-clone.ensures.cases hash
