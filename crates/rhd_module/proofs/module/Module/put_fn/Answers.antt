use Rattle.std.proofs.Common.{◌≡◌, None, Err, sym, ap, subst, ◌∙◌, true≢false}
use Rattle.std.specs.Map.{lookup}
use Rattle.rhd_hash.specs.Keys.{key_eq}
use Rattle.rhd_hash.specs.Parts.{dynamic_hash}
use Rattle.rhd_hash.specs.Table.{Table}
use Rattle.rhd_decl.specs.Flags.{Flagged}
use Rattle.rhd_decl.specs.declared.declaration.Declaration.{Declaration}
use Rattle.rhd_table.specs.Pairs.{put}
use Rattle.rhd_table.proofs.Kept.{filter_there, filter_last}
use Rattle.rhd_table.proofs.Puts.{is_there}
use Rattle.rhd_module.specs.Index.{IsFilter, IsKept}
use Rattle.rhd_module.specs.Registered.{Puts}
use Rattle.rhd_module.specs.Tree.{ModuleTree}
use Rattle.rhd_module.specs.contracts.module.Module.{the_view}
use Rattle.rhd_module.proofs.Puts.{refused}
use Rattle.rhd_module.proofs.module.Module.put_fn.Goals as goal

pub returns-in-Err : goal.returns-in-Err
returns-in-Err c =
    let inside = c.self.inside in
    let seen : Table Declaration → ModuleTree = λ t. the_view (record inside { eager = t }) in
    let why = c.in-Err.ensures.refused in
    let P : ModuleTree → Type 0 = λ m. Puts {A = Unit {0}} None c.args.key c.args.declaration m (Err c.in-Err.fault) (seen c.put.new.self) in
    subst P c.self.view_is (refused (the_view inside) (seen c.put.new.self) c.args.key c.args.declaration (ap seen c.in-Err.ensures.unchanged) why.0 c.in-Err.fault why.1 why.2)

pub invariant_of-self : goal.invariant_of-self
invariant_of-self c =
    let P : Table Declaration → Type 0 =
    λ t. IsFilter c.self.inside.filter (the_view (record c.self.inside { eager = t })).own × IsKept c.self.inside.index.value (the_view (record c.self.inside { eager = t })) in
    subst P (sym c.in-Err.ensures.unchanged) c.self.invariant

pub invariant_of-self-in-Ok-true : goal.invariant_of-self-in-Ok-true
invariant_of-self-in-Ok-true c =
    let es = c.self.inside.eager.pairs in
    let key = c.args.key in
    let puts : c.put.new.self.pairs ≡ put key c.args.declaration es = ap (λ (t : Table Declaration). t.pairs) c.in-Ok-true.ensures.pairs in
    let there = is_there (lookup (key_eq key) es) (sym c.in-Ok-true.ensures.replaced ∙ c.in-Ok-true.field-0-test) in
    let seeds = ap (λ (t : Table Declaration). t.seeds) c.in-Ok-true.ensures.pairs in (
      filter_there c.self.inside.filter c.self.inside.eager.seeds c.put.new.self.seeds key c.args.declaration es c.put.new.self.pairs c.self.inside.listed c.self.invariant.0 there seeds puts,
      λ is. absurd (true≢false (sym is ∙ ap (λ (f : Flagged). f.indexed) c.set_indexed.ensures)),
    )

pub invariant_of-self-in-Ok-false : goal.invariant_of-self-in-Ok-false
invariant_of-self-in-Ok-false c =
    let es = c.self.inside.eager.pairs in
    let key = c.args.key in
    let d = c.args.declaration in
    let puts : c.put.new.self.pairs ≡ put key d es = ap (λ (t : Table Declaration). t.pairs) c.in-Ok-false.ensures.pairs in
    let seeds = ap (λ (t : Table Declaration). t.seeds) c.in-Ok-false.ensures.pairs in (
      filter_last c.self.inside.filter c.mark_dynamic.new.filter c.self.inside.eager.seeds c.put.new.self.seeds key d es c.put.new.self.pairs c.self.inside.listed c.dynamic_hash-dynamic.result c.self.invariant.0
          (c.dynamic_hash-dynamic.ensures ∙ (λ i. dynamic_hash (c.seeds.ensures i) (c.key.ensures i))) c.mark_dynamic.ensures seeds puts,
      λ is. absurd (true≢false (sym is ∙ ap (λ (f : Flagged). f.indexed) c.set_indexed-in-Ok-false.ensures)),
    )
