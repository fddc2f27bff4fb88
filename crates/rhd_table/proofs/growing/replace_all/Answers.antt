use Rattle.std.proofs.Common.{◌≡◌, ◌∷◌, ◌++◌, [], true, is_some, sym, ap, ◌∙◌}
use Rattle.std.specs.Vec.Iter.{into_iter_items}
use Rattle.rhd_hash.specs.Table.{Table}
use Rattle.rhd_hash.specs.declared.key.Key.{Key}
use Rattle.rhd_decl.specs.declared.declaration.Declaration.{Declaration}
use Rattle.rhd_table.specs.Pairs.{put, Pairs}
use Rattle.rhd_table.proofs.Lookups.{first}
use Rattle.rhd_table.proofs.PutParts.{taken_front, holds_at, still_all}
use Rattle.rhd_table.proofs.Registers.{all_append}
use Rattle.rhd_table.proofs.growing.replace_all.Goals as goal

pub replace-requires : goal.replace-requires
replace-requires c =
    let p : Key × Declaration = (c.in-Some.key, c.in-Some.declaration) in
    let done = c.loop-key.yielded in
    let later = into_iter_items c.next.new.self in
    let old = c.args.table.now in
    let items : c.args.pairs.items ≡ done ++ p ∷ later =
    sym c.into_iter-key-iterator.ensures.into_iter_gives.0 ∙ taken_front c.into_iter-key-iterator.result done c.loop-key.key-iterator c.loop-key.yielded_by ∙ ap (λ (ps : Pairs). done ++ ps) c.in-Some.ensures.steps.0 in
    let there : is_some (first p.0 old.pairs) ≡ true = holds_at (λ q. is_some (first q.0 old.pairs) ≡ true) done later c.args.pairs.items p items c.requires.there in
    record { there = ap (λ (t : Table Declaration). is_some (first p.0 t.pairs)) c.loop-key.invariant ∙ still_all p.0 done old.pairs there }

pub loop-key-preserved : goal.loop-key-preserved
loop-key-preserved c =
    let p : Key × Declaration = (c.in-Some.key, c.in-Some.declaration) in
    let done = c.loop-key.yielded in
    let old = c.args.table.now in
    let table : Pairs → Table Declaration = λ ps. record { seeds = old.seeds; pairs = ps } in
    c.replace.ensures ∙ (λ k. record (c.loop-key.invariant k) { pairs = put p.0 p.1 (c.loop-key.invariant k).pairs }) ∙ ap table (sym (all_append done (p ∷ []) old.pairs))
