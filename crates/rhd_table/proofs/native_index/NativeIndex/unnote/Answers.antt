use Rattle.std.proofs.Common.{nat_eq, refl, rules}
use Rattle.std.specs.HashMap.{get}
use Rattle.rhd_table.proofs.PlacesBack.{one_less}
use Rattle.rhd_table.proofs.native_index.NativeIndex.unnote.Goals as goal

pub returns-in-Some : goal.returns-in-Some
returns-in-Some c =
    let m = c.args.self.now.places in
    let w = c.pop.new.self in
    let n = c.get_mut.follows.lender w in
    let changes = ((c.get_mut.follows.holds w).3 (search rules)).0 in
    let was = c.in-Some.places.now in
    one_less (λ v. v.items) (get nat_eq m) (get nat_eq n) c.args.hash w changes was c.in-Some.ensures.value _ refl c.pop.ensures.rest
