use Rattle.std.proofs.Common.{◌≡◌, ◌∷◌, ◌++◌, [], None, sym, ap, subst, ◌∙◌}
use Rattle.std.specs.Map.{keys_of}
use Rattle.std.specs.Vec.Iter.{into_iter_items}
use Rattle.rhd_hash.specs.Table.{Table}
use Rattle.rhd_hash.specs.declared.key.Key.{Key}
use Rattle.rhd_decl.specs.declared.declaration.Declaration.{Declaration}
use Rattle.rhd_table.specs.Indexed.{IsClash}
use Rattle.rhd_table.specs.Pairs.{put_all, put, Pairs}
use Rattle.rhd_table.proofs.Fills.{if_err}
use Rattle.rhd_table.proofs.Lookups.{first}
use Rattle.rhd_table.proofs.PutParts.{taken_front, holds_at, refusal_clash, put_behind}
use Rattle.rhd_table.proofs.Registers.{all_append, clash_at_pair}
use Rattle.rhd_table.proofs.growing.insert_all.Goals as goal

pub loop-key-preserved : goal.loop-key-preserved
loop-key-preserved c =
    let p : Key × Declaration = (c.in-Some.key, c.in-Some.declaration) in
    let done = c.loop-key.yielded in
    let later = into_iter_items c.next.new.self in
    let old = c.args.table.now in
    let more = c.loop-key.invariant.0 in
    let items : c.args.pairs.items ≡ done ++ p ∷ later =
    sym c.into_iter-key-iterator.ensures.into_iter_gives.0 ∙ taken_front c.into_iter-key-iterator.result done c.loop-key.key-iterator c.loop-key.yielded_by ∙ ap (λ (ps : Pairs). done ++ ps) c.in-Some.ensures.steps.0 in
    let none : first p.0 old.pairs ≡ None = holds_at (λ q. first q.0 old.pairs ≡ None) done later c.args.pairs.items p items c.requires.new in
    let table : Pairs → Table Declaration = λ ps. record { seeds = old.seeds; pairs = ps } in (
      put p.0 p.1 more,
      c.in_ok-put_pair.ensures.pairs ∙ (λ k. record (c.loop-key.invariant.1 k) { pairs = put p.0 p.1 (c.loop-key.invariant.1 k).pairs }) ∙ ap table (put_behind p.0 p.1 old.pairs more none),
      ap (λ (t : Table Declaration). t.pairs) c.in_ok-put_pair.ensures.pairs ∙ ap (put p.0 p.1) c.loop-key.invariant.2 ∙ sym (all_append done (p ∷ []) old.pairs),
    )

pub returns-in_err-put_pair-clause-clash : goal.returns-in_err-put_pair-clause-clash
returns-in_err-put_pair-clause-clash c =
    let p : Key × Declaration = (c.in-Some.key, c.in-Some.declaration) in
    let done = c.loop-key.yielded in
    let later = into_iter_items c.next.new.self in
    let old = c.args.table.now in
    let fault = c.in_err-put_pair.field-0.0 in
    let items : c.args.pairs.items ≡ done ++ p ∷ later =
    sym c.into_iter-key-iterator.ensures.into_iter_gives.0 ∙ taken_front c.into_iter-key-iterator.result done c.loop-key.key-iterator c.loop-key.yielded_by ∙ ap (λ (ps : Pairs). done ++ ps) c.in-Some.ensures.steps.0 in
    let why = c.in_err-put_pair.ensures.refused in
    let now = c.loop-key.table in
    let clash : IsClash now.seeds (keys_of (put p.0 p.1 now.pairs)) fault = refusal_clash now.seeds now.pairs p.0 p.1 why.0 fault why.1 why.2 in
    let seeds = ap (λ (t : Table Declaration). t.seeds) c.loop-key.invariant.1 in
    let at : IsClash old.seeds (keys_of (put p.0 p.1 (put_all done old.pairs))) fault = subst (λ (t : Table Declaration). IsClash t.seeds (keys_of (put p.0 p.1 t.pairs)) fault) (λ k. record { seeds = seeds k; pairs = c.loop-key.invariant.2 k }) clash in
    if_err c.from_residual.result fault _ c.from_residual.ensures (clash_at_pair old.seeds done later c.args.pairs.items p old.pairs fault items at)
