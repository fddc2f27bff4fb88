use Rattle.std.proofs.Common.{◌&&◌, nat_eq, length, ap, ◌∙◌}
use Rattle.rhd_manifest.specs.Listing.{is_none_of}
use Rattle.rhd_manifest.proofs.Empty.{none_of}
use Rattle.rhd_algebra.proofs.joining.only_declares.Goals as goal

pub returns : goal.returns
returns c =
    let manifests = ap (λ n. nat_eq n 0) (ap length c.iter_manifests.ensures) ∙ none_of c.args.of.now.own.manifests in
    let listed = c.is_empty-none_listed.ensures ∙ ap is_none_of c.listed.ensures in
    λ i. c.has_no_sub_modules-no_subs.ensures i && (manifests i && listed i)
