use Rattle.std.proofs.Common.{◌≡◌, refl, sym, ap, subst}
use Rattle.rhd_hash.specs.Table.{Table}
use Rattle.rhd_decl.specs.declared.declaration.Declaration.{Declaration}
use Rattle.rhd_module.specs.Tree.{ModuleTree}
use Rattle.rhd_module.specs.contracts.module.Module.{the_view, the_invariant}
use Rattle.rhd_module.proofs.Kept.{filter_commented, index_commented}
use Rattle.rhd_table.specs.Found.{comment_on}
use Rattle.rhd_module.proofs.module.Module.set_fn_comments.Goals as goal

pub invariant_of-self-2 : goal.invariant_of-self-2
invariant_of-self-2 c =
    let es = c.self.inside.eager.pairs in
    let key = c.args.key.now in
    let comments = c.args.comments in
    let is : c.set_comments.new.self.pairs ≡ comment_on key comments es = ap (λ (t : Table Declaration). t.pairs) c.in_ok-found.ensures.ok in
    let same = ap (λ (t : Table Declaration). t.seeds) c.in_ok-found.ensures.ok in
    let new : ModuleTree = the_view (record c.self.inside { eager = c.set_comments.new.self }) in (
      filter_commented key comments c.self.inside.filter (the_view c.self.inside).own new.own is same refl c.self.invariant.0,
      λ indexed. index_commented key comments c.self.inside.index.value (the_view c.self.inside) new is same refl refl (c.self.invariant.1 indexed),
    )

-- where memory runs out, all is as before
pub invariant_of-self : goal.invariant_of-self
invariant_of-self c = subst (λ (t : Table Declaration). the_invariant (record c.self.inside { eager = t })) (sym c.in_err-found.ensures.err) c.self.invariant
