use Rattle.std.proofs.Common.{◌≡◌, Bool, ◌||◌, ◌++◌, map, sym, ap, subst, ◌∙◌}
use Rattle.std.specs.List.{list_any}
use Rattle.std.specs.Map.{keys_of}
use Rattle.std.specs.Result.{OnOk, IfErr}
use Rattle.rhd_hash.specs.declared.key.Key.{Key}
use Rattle.rhd_manifest.specs.Entry.{entry_key}
use Rattle.rhd_manifest.specs.Rank.{firsts}
use Rattle.rhd_module.specs.Tree.{ModuleTree}
use Rattle.rhd_module.specs.Shown.{shown}
use Rattle.rhd_table.specs.Paths.{pairs_at}
use Rattle.rhd_table.specs.Marks.{may_be_dynamic}
use Rattle.rhd_module.specs.Below.{declares_dynamic, declares_global}
use Rattle.rhd_table.specs.Indexed.{Fills, IsClash}
use Rattle.rhd_table.proofs.Fills.{if_err, if_more}
use Rattle.rhd_module.proofs.Fills.{on_more, fills_lent, clash_lent, clash_last}
use Rattle.rhd_module.specs.contracts.module.Module.{the_view}
use Rattle.rhd_module.proofs.Listed.{any_firsts, any_lent}
use Rattle.rhd_module.proofs.module.Module.put_own.Goals as goal

pub mark_by-requires : goal.mark_by-requires
mark_by-requires c = λ hash.
    let own = (the_view c.self.inside).own in
    let f : Key → Bool = may_be_dynamic own.seeds hash in
    let entries : map (λ e. e.now) c.as_slice.result.now ≡ firsts own.listed = ap (map (λ e. e.now)) c.as_slice.ensures.value ∙ c.in_ok-listed.ensures in
    c.self.invariant.0 hash ∙ ap (λ b. list_any (λ p. f p.0) own.eager || b) (sym (any_lent f c.as_slice.result.now ∙ ap (list_any (λ e. f (entry_key e))) entries ∙ any_firsts f own.listed))

pub returns-in_err-put_listed-clause-clash : goal.returns-in_err-put_listed-clause-clash
returns-in_err-put_listed-clause-clash c =
    let m = the_view c.self.inside in
    let old = c.args.index.now in
    let path = c.args.path.now in
    let fault = c.in_err-put_listed.field-0.0 in
    let first : map (λ e. e.now) c.as_slice.result.now ≡ firsts m.own.listed = ap (map (λ e. e.now)) c.as_slice.ensures.value ∙ c.in_ok-listed.ensures in
    let second : map (λ e. e.now) c.as_slice-2.result.now ≡ firsts m.own.listed = ap (map (λ e. e.now)) c.as_slice-2.ensures.value ∙ c.in_ok-listed.ensures in
    let P : ModuleTree → Type 0 = λ m. IsClash old.seeds (keys_of (pairs_at path (shown m.own)) ++ keys_of old.pairs) fault in
    if_err c.from_residual-in_err-put_listed.result fault _ c.from_residual-in_err-put_listed.ensures
    (subst P c.self.view_is (clash_lent old c.mark_by.new.index c.put_listed.new.self c.put_listed.new.self path m.own c.as_slice.result.now c.as_slice-2.result.now first second fault c.mark_by.ensures c.in_err-put_listed.ensures.clash))

pub returns-clause-fills : goal.returns-clause-fills
returns-clause-fills c =
    let m = the_view c.self.inside in
    let old = c.args.index.now in
    let path = c.args.path.now in
    let first : map (λ e. e.now) c.as_slice.result.now ≡ firsts m.own.listed = ap (map (λ e. e.now)) c.as_slice.ensures.value ∙ c.in_ok-listed.ensures in
    let second : map (λ e. e.now) c.as_slice-2.result.now ≡ firsts m.own.listed = ap (map (λ e. e.now)) c.as_slice-2.ensures.value ∙ c.in_ok-listed.ensures in
    let P : ModuleTree → Type 0 = λ m. OnOk c.put_all.result (Fills old c.put_all.new.self (pairs_at path (shown m.own)) (λ v. declares_dynamic old.seeds v m.own) (declares_global m.own)) in
    subst P c.self.view_is
    (on_more c.put_all.result _ _ (λ own. fills_lent old c.mark_by.new.index c.put_listed.new.self c.put_all.new.self path m.own c.as_slice.result.now c.as_slice-2.result.now first second c.mark_by.ensures c.in_ok-put_listed.ensures.fills own) c.put_all.ensures.fills)

pub returns-clause-clash : goal.returns-clause-clash
returns-clause-clash c =
    let m = the_view c.self.inside in
    let old = c.args.index.now in
    let path = c.args.path.now in
    let first : map (λ e. e.now) c.as_slice.result.now ≡ firsts m.own.listed = ap (map (λ e. e.now)) c.as_slice.ensures.value ∙ c.in_ok-listed.ensures in
    let second : map (λ e. e.now) c.as_slice-2.result.now ≡ firsts m.own.listed = ap (map (λ e. e.now)) c.as_slice-2.ensures.value ∙ c.in_ok-listed.ensures in
    let P : ModuleTree → Type 0 = λ m. IfErr c.put_all.result (IsClash old.seeds (keys_of (pairs_at path (shown m.own)) ++ keys_of old.pairs)) in
    subst P c.self.view_is
    (if_more c.put_all.result _ _ (λ f h. clash_last old c.mark_by.new.index c.put_listed.new.self c.put_all.new.self path m.own c.as_slice.result.now c.as_slice-2.result.now first second f c.mark_by.ensures c.in_ok-put_listed.ensures.fills h) c.put_all.ensures.clash)
