use Rattle.std.proofs.Common.{◌≡◌, [], ◌∷◌, ◌++◌, ap, ◌∙◌}
use Rattle.indexmap.specs.IndexMap.{insert_entry}
use Rattle.rhd_value.specs.Same.{text_eq}
use Rattle.rhd_loader.proofs.ImportLaws.{added_first}
use Rattle.rhd_loader.proofs.imports.ImportScripts.add_first.Goals as goal

pub returns : goal.returns
returns c =
    let pushed : c.push.new.self ≡ c.args.def ∷ [] = c.in_ok-push.ensures ∙ ap (λ ds. ds ++ c.args.def ∷ []) c.new-scripts.ensures in
    c.in_ok-insert.ensures.entries ∙ (λ i. insert_entry text_eq (c.self.view_is i) c.args.name (pushed i)) ∙ added_first c.args.name c.args.def c.args.self.now c.requires
