use Rattle.std.proofs.Common.{◌≡◌, ap, subst, ◌∙◌}
use Rattle.std.specs.List.{AllByRecursion}
use Rattle.rhd_module.specs.Algebra.{merged_with, merged_all, SomeClash, HasOwnTable}
use Rattle.rhd_module.specs.Tree.{ModuleTree, empty_module}
use Rattle.rhd_algebra.proofs.Gathered.{merged_clash, merged_joins}
use Rattle.rhd_module.proofs.JoinParts.{refused_join}
use Rattle.rhd_algebra.proofs.joining.merge_that.Goals as goal

pub returns-in_err-merge-clause-joins : goal.returns-in_err-merge-clause-joins
returns-in_err-merge-clause-joins g c =
    λ tells h.
    let m = c.args.target.now in
    let other = c.args.other.now in
    let fault = c.in_err-merge.field-0.0 in
    let P : ModuleTree → Type 0 = λ t. SomeClash (merged_all tells other t) fault in
    let empty : c.in_ok-made.made ≡ empty_module m.own.seeds = c.in_ok-made.ensures ∙ ap empty_module c.seeds.ensures in
    refused_join c.from_residual-in_err-merge.result fault (merged_all tells other m) (merged_with tells other m) m c.from_residual-in_err-merge.ensures (merged_clash tells other m fault (subst P empty (c.in_err-merge.ensures.clash tells h)))

pub returns-clause-joins : goal.returns-clause-joins
returns-clause-joins g c =
    λ tells h.
    let m = c.args.target.now in
    let other = c.args.other.now in
    let empty : c.in_ok-made.made ≡ empty_module m.own.seeds = c.in_ok-made.ensures ∙ ap empty_module c.seeds.ensures in
    let P : ModuleTree → Type 0 = λ t. AllByRecursion HasOwnTable (merged_all tells other t) in
    merged_joins tells other m c.merge.new.made c.combined.new.target c.combined.result (c.in_ok-merge.ensures.ok tells h ∙ ap (merged_with tells other) empty) (subst P empty (c.in_ok-merge.ensures.tables tells h)) c.combined.ensures
