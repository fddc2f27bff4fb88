use Rattle.std.proofs.Common.{◌≡◌, List, None, Some, sym, ap, ◌∙◌}
use Rattle.std.specs.BTreeMap.{insert_entry, is_at}
use Rattle.std.specs.Map.{lookup, remove_entry}
use Rattle.rhd_value.specs.Tree.{Bytes}
use Rattle.rhd_map.proofs.Undone.{order, put_there, put_again, removed, some_none, or_ok}
use Rattle.rhd_map.proofs.puts.put_back.Goals as goal

pub returns-in-Some : goal.returns-in-Some
returns-in-Some g c =
    λ es value is was sorted.
    let n = c.args.name in
    let w = c.in-Some.value in
    let there = ap (lookup (is_at (order n))) is ∙ put_there n value es in
    or_ok c.insert-put.result c.insert-put.ensures.entries c.insert-put.ensures.absent (λ none. some_none value (sym there ∙ none))
    ∙ ap (λ es. insert_entry order es n w) is ∙ put_again n value w es (was ∙ c.in-Some.is) sorted

pub returns-in-None : goal.returns-in-None
returns-in-None g c =
    λ es value is was sorted.
    let n = c.args.name in
    c.remove.ensures.entries ∙ ap (remove_entry (is_at (order n))) is ∙ removed n value es (was ∙ c.in-None.is)
