use Rattle.std.proofs.Common.{List, ◌∙◌, sym, ap, subst, false, Global}
use Rattle.std.specs.declared.rc.Rc.{Rc}
use Rattle.rhd_value.specs.Tree.{Bytes}
use Rattle.rhd_module.specs.Index.{IsKept}
use Rattle.rhd_module.specs.Tree.{ModuleTree, Subs, subs_of}
use Rattle.rhd_module.proofs.SubModules.{subs_put}
use Rattle.rhd_module.specs.contracts.module.Module.{the_view}
use Rattle.rhd_module.proofs.module.Module.set_sub_module.Goals as goal

pub returns-clause-ok : goal.returns-clause-ok
returns-clause-ok c =
    let inside = c.self.inside in
    let own = (the_view inside).own in
    let tree : Subs → ModuleTree = λ s. record { own = record own { indexed = false }; subs = s } in
    rw (c.set_indexed.ensures, ← c.self.view_is) (ap tree (ap subs_of c.in_ok-insert.ensures.entries ∙ subs_put {Z = Global} inside.subs.entries c.args.name c.args.child))

-- where memory runs out, all is as before
pub invariant_of-self : goal.invariant_of-self
invariant_of-self c =
    let P : List (Bytes × Rc ModuleTree Global) → Type 0 = λ es. IsKept c.self.inside.index.value (record { own = (the_view c.self.inside).own; subs = subs_of es }) in
    (c.self.invariant.0, subst P (sym c.in_err-insert.ensures.err) c.self.invariant.1)
