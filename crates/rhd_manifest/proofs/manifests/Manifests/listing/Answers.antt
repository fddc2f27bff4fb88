use Rattle.std.proofs.Common.{◌++◌, sym, ap, append-nil, ◌∙◌}
use Rattle.rhd_manifest.specs.Listing.{listed_in}
use Rattle.rhd_manifest.specs.Rank.{flattened, rank}
use Rattle.rhd_manifest.proofs.Ranks.{flattened-is}
use Rattle.rhd_manifest.proofs.manifests.Manifests.listing.Goals as goal

pub returns-then-flatten : goal.returns-then-flatten
returns-then-flatten c =
    let table = c.args.self.now in
    let own = flattened table c.args.id in
    c.in_ok-list_flattened.ensures ∙ ap (λ ps. own ++ listed_in ps) c.new-parts.ensures.items ∙ append-nil own ∙ flattened-is table c.in-Some.ensures.lower c.args.id ∙ (λ i. rank table c.args.id (sym c.if-flatten.true i))
