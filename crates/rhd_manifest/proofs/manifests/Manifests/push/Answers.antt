use Rattle.std.proofs.Common.{List, [], ◌∷◌, ◌++◌, sym, ap, subst, ◌∙◌}
use Rattle.rhd_manifest.specs.Manifest.{ManifestLists, AreLower}
use Rattle.rhd_manifest.proofs.Tables.{lower_push}
use Rattle.rhd_manifest.proofs.manifests.Manifests.push.Goals as goal

pub invariant_of-self-2 : goal.invariant_of-self-2
invariant_of-self-2 c =
    let P : List ManifestLists → Type 0 = λ t. AreLower t in
    subst P (sym (c.in_ok-push.ensures.items ∙ ap (λ m. c.self.inside.items.items ++ m ∷ []) c.in_ok-new.ensures)) (lower_push c.self.inside.items.items c.self.invariant)
