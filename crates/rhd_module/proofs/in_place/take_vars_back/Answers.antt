use Rattle.std.proofs.Common.{List, reverse, sym, subst, ◌∙◌}
use Rattle.rhd_value.specs.Tree.{Bytes, Tree}
use Rattle.rhd_map.specs.Puts.{IsPut}
use Rattle.rhd_module.proofs.in_place.take_vars_back.Goals as goal

pub returns : goal.returns
returns c =
    λ before put.
    let P : List (Bytes × Tree) → Type 0 = λ es. IsPut (reverse c.args.replaced.items) before es in
    c.from_map.ensures ∙ c.take_back.ensures before (subst P (sym (c.into_map-map.ensures ∙ c.replace.ensures.value)) put)
