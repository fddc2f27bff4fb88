use Rattle.std.proofs.Common.{◌≡◌, ℕ, List, Bool, true, false, not, is_none, refl, sym, ap, ◌∙◌}
use Rattle.rhd_hash.specs.Covers.{Covers}
use Rattle.rhd_hash.specs.Filter.{is_marked}
use Rattle.rhd_hash.proofs.Covered.{not_marked}
use Rattle.rhd_module.specs.Tree.{ModuleTree}
use Rattle.rhd_module.specs.Walk.{qualified}
use Rattle.rhd_layers.specs.Marks.{lacks_below}
use Rattle.rhd_layers.proofs.marked_module.MarkedModule.may_have.Goals as goal

is_absent : (b : Bool) → not b ≡ false → b ≡ true
is_absent true e = refl
is_absent false e = absurd cc

pub returns : goal.returns
unfolding Covers qualified
returns c = λ told.
    let t = c.self.inside in
    let key = c.args.key.now in
    let unmarked = not_marked (is_marked 8192 c.deref.result.now c.hash_under.result) c.is_absent.result c.is_absent.ensures (is_absent c.is_absent.result told) in
    let same = ap (λ (marks : List ℕ). is_marked 8192 marks c.hash_under.result) (sym c.deref.ensures) in
    ap (λ (m : ModuleTree). lacks_below key m) (sym c.self.view_is) ∙ ap is_none (c.self.invariant key (ap (is_marked 8192 t.marks.value) (sym c.hash_under.ensures) ∙ same ∙ unmarked))
