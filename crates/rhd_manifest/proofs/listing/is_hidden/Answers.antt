use Rattle.std.proofs.Common.{◌≡◌, ◌+◌, suc, drop, ap, ◌∙◌, arith}
use Rattle.std.specs.List.{list_any}
use Rattle.rhd_manifest.specs.Listing.{listed_in}
use Rattle.rhd_manifest.proofs.Firsts.{under, hidden_there, hidden_above}
use Rattle.rhd_manifest.proofs.listing.is_hidden.Goals as goal

pub returns-then-has_behind : goal.returns-then-has_behind
returns-then-has_behind c =
    let next : suc c.args.place ≡ c.args.place + 1 = omega arith in
    hidden_there (under c.args.key.now) (listed_in c.args.above.now) (drop (c.args.place + 1) c.args.part.now) c.has_behind.result (c.has_behind.ensures ∙ ap (λ n. list_any (under c.args.key.now) (drop n c.args.part.now)) next) c.if-has_behind.true

pub returns-else-has_behind : goal.returns-else-has_behind
returns-else-has_behind c =
    let next : suc c.args.place ≡ c.args.place + 1 = omega arith in
    hidden_above (under c.args.key.now) (listed_in c.args.above.now) (drop (c.args.place + 1) c.args.part.now) c.has_behind.result (c.has_behind.ensures ∙ ap (λ n. list_any (under c.args.key.now) (drop n c.args.part.now)) next) c.if-has_behind.false c.any_has.result c.any_has.ensures
