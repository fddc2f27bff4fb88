use Rattle.std.proofs.Common.{rules, ◌≡◌, length, List, reverse, sym, ap, subst}
use Rattle.std.proofs.lemmas.List.{nil_from_length}
use Rattle.rhd_value.specs.Tree.{Bytes}
use Rattle.rhd_map.specs.Puts.{IsPut}
use Rattle.rhd_map.proofs.puts.take_back.Goals as goal

pub returns : goal.returns
returns g c = λ es put.
    let z : length c.loop-name.replaced.items ≡ 0 = search rules in
    subst (λ ns. IsPut (reverse ns) es c.loop-name.map.entries) (nil_from_length _ z) (c.loop-name.invariant es put)
