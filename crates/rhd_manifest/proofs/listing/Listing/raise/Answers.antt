use Rattle.std.proofs.Common.{◌++◌, ap, ◌∙◌}
use Rattle.rhd_manifest.specs.Listing.{listed_in}
use Rattle.rhd_manifest.proofs.Firsts.{listed_append}
use Rattle.rhd_manifest.proofs.listing.Listing.raise.Goals as goal

pub returns-clause-ok : goal.returns-clause-ok
returns-clause-ok c = ap listed_in c.in_ok-append.ensures.items ∙ listed_append c.self.inside.parts.items _ ∙ (λ i. c.others.view_is i ++ c.self.view_is i)
