use Rattle.std.proofs.Common.{◌≡◌, List, reverse, sym, ap, subst, ◌∙◌}
use Rattle.std.specs.BTreeMap.{insert_entry}
use Rattle.rhd_map.specs.Puts.{IsPut}
use Rattle.rhd_map.proofs.Undone.{order, put_more, note_more}
use Rattle.rhd_map.proofs.puts.put_all.Goals as goal

pub returns-in-Err-clause-err : goal.returns-in-Err-clause-err
returns-in-Err-clause-err g c =
    let before = c.args.map.now.entries in
    c.take_back.ensures before
    (subst (λ es. IsPut (reverse c.put.new.replaced.items) before es) (sym c.in-Err.ensures.err) (subst (λ ns. IsPut (reverse ns) before c.loop-name.map.entries) (sym c.in-Err.ensures.still) c.loop-name.invariant.replaced))

pub loop-name-preserved : goal.loop-name-preserved
loop-name-preserved g c =
    let before = c.args.map.now.entries in
    let es = c.loop-name.map.entries in
    let name = c.in-Some.name in
    let value = c.in-Some.value in
    let more = c.in_default.ensures.put in
    record {
      put = more ∙ ap (λ es. insert_entry order es name value) c.loop-name.invariant.put ∙ sym (put_more c.loop-name.yielded (name, value) before);
      replaced =
          note_more c.loop-name.replaced.items name value before es c.put.new.map.entries c.put.new.replaced.items c.in_default.ensures.noted c.loop-name.invariant.replaced more
          c.in_default.ensures.sorted;
    }
