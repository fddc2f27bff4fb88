use Rattle.std.proofs.Common.{◌≡◌, nat_eq, [], ◌∷◌, ◌++◌, sym, ap, ◌∙◌}
use Rattle.std.specs.HashMap.{get}
use Rattle.rhd_table.proofs.Noted.{one_more}
use Rattle.rhd_table.proofs.native_index.NativeIndex.note_first.Goals as goal

pub returns-clause-ok : goal.returns-clause-ok
returns-clause-ok c =
    let m = c.args.self.now.places in
    one_more (λ v. v.items) (get nat_eq m) (get nat_eq c.insert.new.self) c.args.hash c.push.new.self c.in_ok-insert.ensures.updates.0 c.args.place
    (c.in_ok-push.ensures.ok ∙ ap (λ xs. xs ++ c.args.place ∷ []) (c.new-places.ensures.items ∙ sym c.requires))
