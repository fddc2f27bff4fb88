use Rattle.std.proofs.Common.{◌≡◌, ◌||◌, ℕ, List, [], sym, ap, subst, ◌∙◌, Global}
use Rattle.std.specs.List.{list_any}
use Rattle.rhd_hash.specs.Filter.{is_marked}
use Rattle.rhd_hash.specs.Table.{Table}
use Rattle.rhd_decl.specs.Flags.{Flagged}
use Rattle.rhd_decl.specs.declared.declaration.Declaration.{Declaration}
use Rattle.rhd_module.specs.Tree.{ModuleTree, Subs}
use Rattle.rhd_table.specs.Indexed.{Indexed}
use Rattle.rhd_module.specs.Index.{IsIndexOf}
use Rattle.rhd_module.specs.contracts.module.Module.{the_view}
use Rattle.rhd_manifest.specs.Entry.{Entry}
use Rattle.rhd_table.specs.Marks.{may_be_dynamic, lists_dynamic}
use Rattle.rhd_module.proofs.SubModules.{subs_clone}
use Rattle.rhd_module.proofs.module.Module.dup.Goals as goal

pub returns : goal.returns
returns c =
    let inside = c.self.inside in
    let id = c.in_ok-share_id.ensures ∙ ap (λ (m : ModuleTree). m.own.id) (sym c.self.view_is) in
    let eager = c.in_ok-dup-4.ensures in
    let flags = c.dup-6.ensures in
    let subs = subs_clone {Z = Global} inside.subs.entries c.in_ok-clone.field-0.entries c.in_ok-clone.ensures.cases in
    let same : _ ≡ _ = λ i. record {
      own = record {
        id = id i;
        doc = c.in_ok-dup.ensures i;
        types = c.in_ok-dup-2.ensures i;
        vars = c.in_ok-dup-3.ensures i;
        eager = (eager i).pairs;
        manifests = (c.in_ok-from_slice.ensures.items ∙ c.as_slice.ensures.value) i;
        listed = c.in_ok-dup-5.ensures i;
        iterators = [];
        internal = (flags i).internal;
        standard = (flags i).standard;
        indexed = (flags i).indexed;
        seeds = (eager i).seeds;
      };
      subs = subs i;
    } in
    same ∙ c.self.view_is

pub invariant_of-result : goal.invariant_of-result
invariant_of-result c =
    let inside = c.self.inside in
    let eager = c.in_ok-dup-4.ensures in
    let subs = subs_clone {Z = Global} inside.subs.entries c.in_ok-clone.field-0.entries c.in_ok-clone.ensures.cases in
    let P : Indexed × (Table Declaration × (Subs × List Entry)) → Type 0 =
    λ p. IsIndexOf p.0 (record { own = record (the_view inside).own { eager = p.1.0.pairs; listed = p.1.1.1; seeds = p.1.0.seeds }; subs = p.1.1.0 }) in (
      λ v. ap (λ (f : List ℕ). is_marked 8 f v) c.in_ok-clone-2.ensures.cases ∙ c.self.invariant.0 v ∙ (λ i. list_any (λ p. may_be_dynamic (sym eager i).seeds v p.0) (sym eager i).pairs || lists_dynamic (sym eager i).seeds v (sym c.in_ok-dup-5.ensures i)),
      λ is. subst P (λ i. (sym c.in_ok-clone-3.ensures.cases i, (sym eager i, (sym subs i, sym c.in_ok-dup-5.ensures i)))) (c.self.invariant.1 (sym (ap (λ (f : Flagged). f.indexed) c.dup-6.ensures) ∙ is)),
    )
