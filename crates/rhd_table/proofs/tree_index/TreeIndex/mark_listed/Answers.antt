use Rattle.std.proofs.Common.{ℕ, Bool, List, [], ◌∷◌, ◌++◌, take, false, Bor, sym, ap, subst, ◌∙◌}
use Rattle.std.specs.List.{list_any}
use Rattle.std.proofs.lemmas.List.{take_more}
use Rattle.rhd_hash.specs.declared.key.Key.{Key}
use Rattle.rhd_hash.specs.declared.mixer.Seeds.{Seeds}
use Rattle.rhd_manifest.specs.Entry.{Entry, entry_key}
use Rattle.rhd_table.specs.Marks.{may_be_dynamic}
use Rattle.rhd_table.specs.Indexed.{Fills}
use Rattle.rhd_table.proofs.Fills.{marks_more}
use Rattle.rhd_table.proofs.tree_index.TreeIndex.mark_listed.Goals as goal

pub loop-entry-preserved : goal.loop-entry-preserved
loop-entry-preserved c =
    let es = c.args.listed.now in
    let i = c.loop-entry.entry-index in
    let x = c.entry-item.result in
    let old = c.args.self.now in
    let new = c.mark.new.self in
    let test : Seeds → ℕ → Bor Entry → Bool = λ s v e. may_be_dynamic s v (entry_key e.now) in
    let one = subst (λ (k : Key). Fills c.loop-entry.self new [] (λ v. may_be_dynamic c.loop-entry.self.seeds v k) false) c.key.ensures c.mark.ensures in
    let next = take_more es i x c.loop-entry-test.true ∙ ap (λ y. take i es ++ y ∷ []) (sym c.entry-item.is) in
    subst (λ (xs : List (Bor Entry)). Fills old new [] (λ v. list_any (test old.seeds v) xs) false) (sym next) (marks_more old c.loop-entry.self new test x (take i es) c.loop-entry.invariant one)
