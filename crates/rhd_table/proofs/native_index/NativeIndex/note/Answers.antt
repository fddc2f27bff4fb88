use Rattle.std.proofs.Common.{nat_eq, ap, rules}
use Rattle.std.specs.HashMap.{get}
use Rattle.rhd_table.proofs.Noted.{one_more_than, same_as, on_err}
use Rattle.rhd_table.proofs.native_index.NativeIndex.note.Goals as goal

pub returns-in_err-push-in-Some-clause-err : goal.returns-in_err-push-in-Some-clause-err
returns-in_err-push-in-Some-clause-err c =
    let m = c.args.self.now.places in
    let w = c.push.new.self in
    let n = c.get_mut.follows.lender w in
    let changes = ((c.get_mut.follows.holds w).3 (search rules)).0 in
    on_err c.from_residual.result
    (same_as (λ v. v.items) (get nat_eq m) (get nat_eq n) c.args.hash w changes c.in-Some.places.now c.in-Some.ensures.value (ap (λ v. v.items) c.in_err-push-in-Some.ensures.err))

pub returns-in_ok-push-in-Some-clause-ok : goal.returns-in_ok-push-in-Some-clause-ok
returns-in_ok-push-in-Some-clause-ok c =
    let m = c.args.self.now.places in
    let w = c.push.new.self in
    let n = c.get_mut.follows.lender w in
    let changes = ((c.get_mut.follows.holds w).3 (search rules)).0 in
    one_more_than (λ v. v.items) (get nat_eq m) (get nat_eq n) c.args.hash w changes c.in-Some.places.now c.in-Some.ensures.value c.args.place c.in_ok-push-in-Some.ensures.ok
