use Rattle.std.proofs.Common.{sym, ap, ◌∙◌}
use Rattle.rhd_hash.specs.Table.{Table}
use Rattle.rhd_decl.specs.declared.declaration.Declaration.{Declaration}
use Rattle.rhd_table.specs.Pairs.{Pairs, put}
use Rattle.rhd_table.proofs.Commented.{put_commented, none_commented}
use Rattle.rhd_table.proofs.declarations.comment_pair.Goals as goal

pub returns-in-None-clause-ok : goal.returns-in-None-clause-ok
returns-in-None-clause-ok c =
    let t = c.args.table.now in
    let table : Pairs → Table Declaration = λ ps. record { seeds = t.seeds; pairs = ps } in
    ap table (sym (none_commented c.args.key.now c.args.comments t.pairs (sym c.in-None.ensures)))

pub returns-in-Ok-clause-ok : goal.returns-in-Ok-clause-ok
returns-in-Ok-clause-ok c =
    let t = c.args.table.now in
    let table : Pairs → Table Declaration = λ ps. record { seeds = t.seeds; pairs = ps } in
    c.in-Ok.ensures.pairs
    ∙ (λ i. table (put ((c.in_ok-key.ensures ∙ c.in_ok-dup.ensures) i) (c.in_ok-declaration-in-Some.ensures i) t.pairs))
    ∙ ap table (put_commented c.args.key.now c.args.comments c.in-Some.declaration.now t.pairs (sym c.in-Some.ensures))
