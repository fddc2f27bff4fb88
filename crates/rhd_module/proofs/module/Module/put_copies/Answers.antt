use Rattle.std.proofs.Common.{◌≡◌, ℕ, ◌||◌, true, is_some, None, List, sym, ap, subst, ◌∙◌, true≢false}
use Rattle.std.specs.List.{AllByRecursion, list_any}
use Rattle.rhd_hash.specs.Filter.{is_marked}
use Rattle.rhd_hash.specs.Table.{Table}
use Rattle.rhd_decl.specs.Flags.{Flagged}
use Rattle.rhd_decl.specs.declared.declaration.Declaration.{Declaration}
use Rattle.rhd_table.specs.Marks.{may_be_dynamic}
use Rattle.rhd_module.specs.Index.{IsFilter, IsKept}
use Rattle.rhd_value.specs.Tree.{Bytes, Tree}
use Rattle.rhd_module.specs.Tree.{ModuleTree, Subs, subs_of}
use Rattle.rhd_module.specs.contracts.module.Module.{the_view}
use Rattle.rhd_table.proofs.Lookups.{first}
use Rattle.rhd_module.proofs.PutParts.{filter_grown}
use Rattle.rhd_module.proofs.module.Module.put_copies.Goals as goal

-- what stands in a module besides its declarations
abbrev with_rest : ModuleTree → List (Bytes × Tree) → Subs → ModuleTree
with_rest m vars subs = record { own = record m.own { vars = vars }; subs = subs }

pub invariant_of-self : goal.invariant_of-self
invariant_of-self c =
    let inside = c.self.inside in
    let K : List (Bytes × Tree) × Subs → Type 0 = λ p. IsKept inside.index.value (with_rest (the_view inside) p.0 p.1) in
    let kept = subst K (λ i. (sym c.in_err-vars.ensures.vars_err i, sym (ap subs_of c.in_err-vars.ensures.subs_err) i)) c.self.invariant.1 in
    (c.self.invariant.0, kept)

pub grow-requires-clause-there : goal.grow-requires-clause-there
grow-requires-clause-there c = subst (λ (m : ModuleTree). AllByRecursion (λ p. is_some (first p.0 m.own.eager) ≡ true) c.args.there.items) (sym c.self.view_is) c.requires.there

pub grow-requires-clause-new : goal.grow-requires-clause-new
grow-requires-clause-new c = subst (λ (m : ModuleTree). AllByRecursion (λ p. first p.0 m.own.eager ≡ None) c.args.new.items) (sym c.self.view_is) c.requires.new

pub invariant_of-self-in-Ok-1 : goal.invariant_of-self-in-Ok-1
invariant_of-self-in-Ok-1 c =
    let inside = c.self.inside in
    let there = c.args.there.items in
    let new = c.args.new.items in
    let old = inside.eager.pairs in
    let grown = c.grow.new.self in
    let marks = c.mark_pairs.new.filter in
    let held = subst (λ (m : ModuleTree). AllByRecursion (λ p. is_some (first p.0 m.own.eager) ≡ true) there) (sym c.self.view_is) c.requires.there in
    let is = ap (λ (t : Table Declaration). t.pairs) c.in-Ok.ensures.ok in
    let seeds = ap (λ (t : Table Declaration). t.seeds) c.in-Ok.ensures.ok in
    let more : (v : ℕ) → is_marked 8 marks v ≡ (is_marked 8 inside.filter v || list_any (λ p. may_be_dynamic inside.eager.seeds v p.0) new) =
    λ v. c.mark_pairs.ensures v ∙ (λ i. is_marked 8 (c.in_ok-filter.ensures.cases i) v || list_any (λ p. may_be_dynamic (c.seeds.ensures i) v p.0) (c.as_slice.ensures.value i)) in (
      filter_grown inside.filter marks inside.eager.seeds grown.seeds there new old grown.pairs inside.listed c.self.invariant.0 more held seeds is,
      λ kept. absurd (true≢false (sym kept ∙ ap (λ (f : Flagged). f.indexed) c.set_indexed.ensures)),
    )

pub invariant_of-self-in-Err : goal.invariant_of-self-in-Err
invariant_of-self-in-Err c =
    let inside = c.self.inside in
    let vars = c.take_vars_back.ensures inside.vars c.in_ok-vars.ensures.vars_replaced in
    let subs = c.take_back.ensures inside.subs.entries c.in_ok-vars.ensures.subs_replaced in
    let P : Table Declaration × List (Bytes × Tree) × Subs → Type 0 =
    λ p. let m = the_view (record inside { eager = p.0 }) in IsFilter inside.filter m.own × IsKept inside.index.value (with_rest m p.1 p.2) in
    subst P (λ i. (sym c.in-Err.ensures.err i, sym vars i, sym (ap subs_of subs) i)) c.self.invariant

pub returns-in-Err-clause-err : goal.returns-in-Err-clause-err
returns-in-Err-clause-err c =
    let inside = c.self.inside in
    let vars = c.take_vars_back.ensures inside.vars c.in_ok-vars.ensures.vars_replaced in
    let subs = c.take_back.ensures inside.subs.entries c.in_ok-vars.ensures.subs_replaced in
    (λ i. with_rest (the_view (record inside { eager = c.in-Err.ensures.err i })) (vars i) (subs_of (subs i))) ∙ c.self.view_is
