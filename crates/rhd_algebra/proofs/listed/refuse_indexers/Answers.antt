use Rattle.std.proofs.Common.{◌≡◌, List, None, Some, sym, subst, ◌∙◌}
use Rattle.rhd_manifest.specs.Entry.{Entry}
use Rattle.rhd_module.specs.Manifests.{first_banned}
use Rattle.rhd_algebra.proofs.listed.refuse_indexers.Goals as goal

pub returns-in-None : goal.returns-in-None
returns-in-None c =
    let P : List Entry → Type 0 = λ es. first_banned es ≡ None in
    subst P (c.parts.ensures ∙ c.in_ok-listing.ensures) (sym c.in-None.ensures)

pub returns : goal.returns
returns c =
    let P : List Entry → Type 0 = λ es. first_banned es ≡ Some c.in-Some.entry.now in
    (c.in-Some.entry.now, subst P (c.parts.ensures ∙ c.in_ok-listing.ensures) (sym c.in-Some.ensures), c.in_ok-key-in-Some.ensures ∙ c.in_ok-dup-in-Some.ensures ∙ c.key.ensures)
