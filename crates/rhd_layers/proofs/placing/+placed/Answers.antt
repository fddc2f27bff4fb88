use Rattle.std.proofs.Common.{◌-◌, length, take, drop}
use Rattle.std.specs.Option.{option_copied}
use Rattle.std.proofs.lemmas.Result.{IfErr-weaker}
use Rattle.rhd_layers.proofs.Placed.{more_is, next_refused, next_clear, here_refused, if_err, on_ok}
use Rattle.rhd_layers.proofs.placing.+placed.Goals as goal

pub returns-in_err-inner-in-len1-up-clause-refused : goal.returns-in_err-inner-in-len1-up-clause-refused
returns-in_err-inner-in-len1-up-clause-refused t c =
    let more = c.args.more.now in
    let next = c.next-item.result in
    let is = more_is more next c.in-len1-up.len_at_least c.next-item.is in
    if_err c.from_residual.result c.in_err-inner-in-len1-up.field-0.0 _ c.from_residual.ensures
    (next_refused c.args.seeds c.args.added c.args.part.now more next (take (length more - 1) (drop 1 more)) (option_copied c.args.held) (option_copied c.sub_of.result) is c.sub_of.ensures c.in_err-inner-in-len1-up.field-0.0 c.in_err-inner-in-len1-up.ensures.refused)

pub returns-in_ok-outer-in-len1-up-clause-clear : goal.returns-in_ok-outer-in-len1-up-clause-clear
returns-in_ok-outer-in-len1-up-clause-clear t c =
    let more = c.args.more.now in
    let next = c.next-item.result in
    let is = more_is more next c.in-len1-up.len_at_least c.next-item.is in
    let inner = c.in_ok-inner-in-len1-up in
    let outer = c.in_ok-outer-in-len1-up in
    on_ok c.finished-in-len1-up.result _ _
    (next_clear c.args.seeds c.args.added c.args.part.now more next (take (length more - 1) (drop 1 more)) (option_copied c.args.held) (option_copied c.sub_of.result) is c.sub_of.ensures inner.inner outer.outer inner.ensures.made outer.ensures inner.ensures.clear) c.finished-in-len1-up.ensures.clear

pub returns-in_ok-outer-in-len1-up-clause-refused : goal.returns-in_ok-outer-in-len1-up-clause-refused
returns-in_ok-outer-in-len1-up-clause-refused t c =
    let more = c.args.more.now in
    let next = c.next-item.result in
    let is = more_is more next c.in-len1-up.len_at_least c.next-item.is in
    let inner = c.in_ok-inner-in-len1-up in
    let outer = c.in_ok-outer-in-len1-up in
    IfErr-weaker c.finished-in-len1-up.result _ _
    (here_refused c.args.seeds c.args.added c.args.part.now more next (take (length more - 1) (drop 1 more)) (option_copied c.args.held) (option_copied c.sub_of.result) is c.sub_of.ensures inner.inner outer.outer inner.ensures.made outer.ensures) c.finished-in-len1-up.ensures.refused
