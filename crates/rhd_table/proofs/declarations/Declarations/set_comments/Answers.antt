use Rattle.std.proofs.Common.{ℕ, Bool, sym, ap, subst, ◌∙◌}
use Rattle.rhd_hash.specs.declared.key.Key.{Key}
use Rattle.rhd_hash.specs.Table.{Table}
use Rattle.rhd_decl.specs.declared.declaration.Declaration.{Declaration}
use Rattle.rhd_table.specs.contracts.declarations.Declarations.{the_invariant}
use Rattle.rhd_table.specs.NativeIndex.{is_noted_by, places_from}
use Rattle.rhd_table.proofs.Commented.{places_commented}
use Rattle.rhd_table.proofs.declarations.Declarations.set_comments.Goals as goal

pub invariant_of-self-2 : goal.invariant_of-self-2
invariant_of-self-2 c =
    let es = c.self.inside.table.pairs in
    let key = c.args.key.now in
    let comments = c.args.comments in
    let own : ℕ → Key → Bool = is_noted_by c.self.inside.table.seeds in
    λ hash. c.self.invariant hash ∙ sym (places_commented key comments 0 (own hash) es)
    ∙ ap (λ (t : Table Declaration). places_from 0 (is_noted_by t.seeds hash) t.pairs) (sym c.in_ok-found.ensures.ok)

-- where memory runs out, all is as before
pub invariant_of-self : goal.invariant_of-self
invariant_of-self c = subst (λ (t : Table Declaration). the_invariant (record c.self.inside { table = t })) (sym c.in_err-found.ensures.err) c.self.invariant
