use Rattle.rhd_module.specs.Lazy.{touched, touched_below}
use Rattle.rhd_table.proofs.Fills.{if_err}
use Rattle.rhd_module.proofs.LazyParts.{below_touched, clash_more}
use Rattle.rhd_algebra.proofs.lazy.registered_parts.Goals as goal

pub returns-in_err-subs-clause-clash : goal.returns-in_err-subs-clause-clash
returns-in_err-subs-clause-clash c =
    let m = c.args.of.now in
    let fault = c.in_err-subs.field-0.0 in
    if_err c.from_residual-in_err-subs.result fault _ c.from_residual-in_err-subs.ensures
    (clash_more (touched_below m.subs) (touched_below m.subs) (touched m) (touched_below m.subs) fault (λ t h. below_touched m t c.requires h) (λ t h. h) c.in_err-subs.ensures.clash)
