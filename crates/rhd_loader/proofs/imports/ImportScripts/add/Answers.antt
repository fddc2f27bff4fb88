use Rattle.std.proofs.Common.{sym, ap, ◌∙◌}
use Rattle.std.specs.Map.{lookup, set_value}
use Rattle.rhd_value.specs.Same.{text_eq}
use Rattle.rhd_loader.specs.Imports.{ImportedScripts}
use Rattle.rhd_loader.proofs.ImportLaws.{added_through}
use Rattle.rhd_loader.proofs.imports.ImportScripts.add.Goals as goal

pub returns-in-Some : goal.returns-in-Some
returns-in-Some c =
    let name = c.args.name in
    let w = c.push.new.self in
    let is = c.args.self.now in
    let found = ap (λ (es : ImportedScripts). lookup (text_eq name) es) (sym c.self.view_is) ∙ sym c.in-Some.ensures.value in
    let writes = (c.get_mut.follows.holds w).0 ∙ ap (λ (es : ImportedScripts). set_value (text_eq name) es w) c.self.view_is in
    added_through name c.args.def c.push.result is (c.get_mut.follows.lender w).entries c.in-Some.scripts.now w c.push.ensures found writes
