use Rattle.std.proofs.Common.{◌≡◌, ◌||◌, ℕ, sym, ap, subst, ◌∙◌, true≢false}
use Rattle.rhd_hash.specs.Filter.{is_marked}
use Rattle.rhd_decl.specs.Flags.{Flagged}
use Rattle.rhd_module.specs.Tree.{ModuleTree}
use Rattle.rhd_table.specs.Marks.{lists_dynamic}
use Rattle.rhd_module.specs.contracts.module.Module.{the_view}
use Rattle.rhd_module.proofs.JoinParts.{filters_listed}
use Rattle.rhd_module.proofs.module.Module.take_lists.Goals as goal

pub invariant_of-self : goal.invariant_of-self
invariant_of-self c =
    let inside = c.self.inside in
    let own = (the_view inside).own in
    let other = (the_view c.other.inside).own in
    let listed = c.args.lists.listed in
    let P : ModuleTree × ModuleTree → Type 0 =
    λ p. (v : ℕ) → lists_dynamic p.0.own.seeds v listed ≡ (lists_dynamic p.0.own.seeds v p.0.own.listed || lists_dynamic p.0.own.seeds v p.1.own.listed) in
    let all = subst P (λ i. (sym c.self.view_is i, sym c.other.view_is i)) c.requires.listed in
    let marked : (v : ℕ) → is_marked 8 c.mark_parts.new.filter v ≡ (is_marked 8 inside.filter v || lists_dynamic own.seeds v other.listed) =
    λ v. c.mark_parts.ensures v ∙ (λ i. is_marked 8 inside.filter v || lists_dynamic (c.seeds.ensures i) v (c.parts.ensures i)) in (
      filters_listed inside.filter c.mark_parts.new.filter own listed other.listed c.self.invariant.0 marked all,
      λ is. absurd (true≢false (sym is ∙ ap (λ (f : Flagged). f.indexed) c.set_indexed.ensures)),
    )
