use Rattle.std.proofs.Common.{◌≡◌, List, map, ap, subst, ◌∙◌}
use Rattle.std.specs.Result.{IfErr}
use Rattle.std.specs.Map.{keys_of}
use Rattle.rhd_hash.specs.declared.mixer.Seeds.{Seeds}
use Rattle.rhd_manifest.specs.Entry.{Entry, entry_pair}
use Rattle.rhd_manifest.specs.Listing.{listed_in}
use Rattle.rhd_module.specs.Algebra.{that_pass, entries_over}
use Rattle.rhd_table.specs.Indexed.{IsClash}
use Rattle.rhd_table.specs.Pairs.{put_back, put_all, Pairs}
use Rattle.rhd_module.specs.Tree.{ModuleTree}
use Rattle.rhd_table.proofs.Fills.{if_err}
use Rattle.rhd_table.proofs.Registers.{clash_all}
use Rattle.rhd_algebra.proofs.joining.register_over.Goals as goal

pub returns-in_err-register_parts_that-clause-clash : goal.returns-in_err-register_parts_that-clause-clash
returns-in_err-register_parts_that-clause-clash g c =
    λ tells h.
    let other = c.args.other.now.own in
    let old = c.args.made.now.own in
    let fault = c.in_err-register_parts_that.field-0.0 in
    let parts : listed_in c.parts.result.now ≡ other.listed = c.parts.ensures ∙ c.listed.ensures in
    let P : List Entry → Type 0 = λ es. IsClash old.seeds (keys_of (put_back (that_pass tells (map (entry_pair old.seeds) es)) old.eager)) fault in
    if_err c.from_residual.result fault _ c.from_residual.ensures
    (clash_all old.seeds (that_pass tells other.eager) (put_back (that_pass tells (map (entry_pair old.seeds) other.listed)) old.eager) fault (subst P parts (c.in_err-register_parts_that.ensures.clash tells h)))

pub returns-clause-clash : goal.returns-clause-clash
returns-clause-clash g c =
    λ tells h.
    let other = c.args.other.now.own in
    let old = c.args.made.now.own in
    let parts : listed_in c.parts.result.now ≡ other.listed = c.parts.ensures ∙ c.listed.ensures in
    let done = c.in_ok-register_parts_that.ensures.ok tells h in
    let seeds : c.register_parts_that.new.made.own.seeds ≡ old.seeds = ap (λ (m : ModuleTree). m.own.seeds) done in
    let eager : c.register_parts_that.new.made.own.eager ≡ entries_over tells other.listed old = ap (λ (m : ModuleTree). m.own.eager) done ∙ ap (λ es. entries_over tells es old) parts in
    let P : Seeds × Pairs → Type 0 = λ q. IfErr c.register_declared_that.result (IsClash q.0 (keys_of (put_all (that_pass tells other.eager) q.1))) in
    subst P (λ i. (seeds i, eager i)) (c.register_declared_that.ensures.clash tells h)
