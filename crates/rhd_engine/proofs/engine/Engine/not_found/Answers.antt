use Rattle.std.proofs.Common.{refl, ◌∙◌}
use Rattle.rhd_func.specs.Shapes.{all_args}
use Rattle.rhd_engine.specs.Of.{lists_of}
use Rattle.rhd_engine.proofs.Unfound.{row_get_index, row_set_index, row_get_property, row_set_property, row_other}
use Rattle.rhd_engine.proofs.engine.Engine.not_found.Goals as goal

pub returns-then-eq : goal.returns-then-eq
returns-then-eq g c =
    let types = c.as_slice.ensures ∙ c.in_ok-types.ensures in
    rw (row_get_index (lists_of (λ z. (goal.PluginFunc-dyn g z).info z.1) c.args.self.now) _ _ _ _ _ (all_args c.args.shape.now) refl c.as_str-text.ensures types c.if-eq.ensures) at c.get_index.ensures

pub returns-then-eq-2 : goal.returns-then-eq-2
returns-then-eq-2 g c =
    let types = c.as_slice-then-eq-2.ensures ∙ c.in_ok-types.ensures in
    rw (row_set_index (lists_of (λ z. (goal.PluginFunc-dyn g z).info z.1) c.args.self.now) _ _ _ _ _ (all_args c.args.shape.now) refl c.as_str-text.ensures types c.if-eq.ensures c.if-eq-2.ensures) at c.set_index.ensures

pub returns-in-Some : goal.returns-in-Some
returns-in-Some g c =
    let types = c.as_slice-in-Some.ensures ∙ c.in_ok-types.ensures in
    rw (row_get_property (lists_of (λ z. (goal.PluginFunc-dyn g z).info z.1) c.args.self.now) _ _ _ _ _ (all_args c.args.shape.now) c.in-Some.property.now refl c.as_str-text.ensures types c.if-eq.ensures c.if-eq-2.ensures c.in-Some.ensures.cases) at c.get_property.ensures

pub returns-in-Some-strip_prefix : goal.returns-in-Some-strip_prefix
returns-in-Some-strip_prefix g c =
    let types = c.as_slice-in-Some-strip_prefix.ensures ∙ c.in_ok-types.ensures in
    rw (row_set_property (lists_of (λ z. (goal.PluginFunc-dyn g z).info z.1) c.args.self.now) _ _ _ _ _ (all_args c.args.shape.now) c.in-Some-strip_prefix.property.now refl c.as_str-text.ensures types c.if-eq.ensures c.if-eq-2.ensures c.in_default.ensures.cases c.in-Some-strip_prefix.ensures.cases) at c.set_property.ensures

pub returns : goal.returns
returns g c =
    row_other _ _ _ _ _ (all_args c.args.shape.now) _ refl c.as_str-text.ensures c.in_ok-signature.ensures c.if-eq.ensures c.if-eq-2.ensures c.in_default.ensures.cases c.in_default-strip_prefix.ensures.cases
