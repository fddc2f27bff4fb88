use Rattle.std.proofs.Common.{◌≡◌, List, [], map, ap, subst, ◌∙◌}
use Rattle.std.specs.Map.{keys_of}
use Rattle.rhd_manifest.specs.Entry.{Entry, entry_pair}
use Rattle.rhd_manifest.specs.Listing.{listed_in}
use Rattle.rhd_module.specs.Tree.{ModuleTree, empty_module}
use Rattle.rhd_table.specs.Indexed.{IsClash}
use Rattle.rhd_module.specs.Manifests.{lazy}
use Rattle.rhd_table.specs.Pairs.{put_back}
use Rattle.rhd_table.proofs.Fills.{if_err}
use Rattle.rhd_table.proofs.Registers.{clash_all}
use Rattle.rhd_algebra.proofs.listed.registered.Goals as goal

pub returns-in_err-register_parts-clause-clash : goal.returns-in_err-register_parts-clause-clash
returns-in_err-register_parts-clause-clash c =
    let m = c.args.lists.now in
    let fault = c.in_err-register_parts.field-0.0 in
    let target : c.in_ok-target.target ≡ empty_module m.own.seeds = c.in_ok-target.ensures ∙ ap empty_module c.seeds.ensures in
    let parts : listed_in c.parts.result.now ≡ m.own.listed = c.parts.ensures ∙ c.listed.ensures in
    let P : ModuleTree × List Entry → Type 0 = λ t. IsClash t.0.own.seeds (keys_of (put_back (map (entry_pair t.0.own.seeds) t.1) t.0.own.eager)) fault in
    if_err c.from_residual-in_err-register_parts.result fault _ c.from_residual-in_err-register_parts.ensures
    (clash_all m.own.seeds m.own.eager (put_back (lazy m.own) []) fault (subst P (λ i. (target i, parts i)) c.in_err-register_parts.ensures.clash))
