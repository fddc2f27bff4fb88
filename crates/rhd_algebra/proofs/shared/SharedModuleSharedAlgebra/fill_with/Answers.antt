use Rattle.std.proofs.Common.{◌≡◌, rules, subst}
use Rattle.rhd_module.specs.Algebra.{Fills}
use Rattle.rhd_module.specs.Tree.{ModuleTree}
use Rattle.rhd_algebra.proofs.shared.SharedModuleSharedAlgebra.fill_with.Goals as goal

pub returns : goal.returns
returns c =
    let before : c.in_ok-module.module.now ≡ c.args.self.now = search rules in
    let P : ModuleTree → Type 0 = λ m. Fills c.args.other.now m c.fill_with.result c.fill_with.new.self in
    subst P before c.fill_with.ensures
