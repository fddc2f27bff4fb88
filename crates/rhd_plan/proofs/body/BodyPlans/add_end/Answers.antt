use Rattle.std.proofs.Common.{◌≡◌, length, vec_len, refl, rules}
use Rattle.rhd_plan.specs.Session.{ended}
use Rattle.rhd_plan.proofs.BodyLaws.{latest_changed}
use Rattle.rhd_plan.proofs.body.BodyPlans.add_end.Goals as goal

pub returns : goal.returns
returns c =
    let same : vec_len c.self.inside.items ≡ length c.self.inside.items.items = search rules in
    rw (← c.self.view_is) (latest_changed c.self.inside.items.items (vec_len c.self.inside.items) (ended c.args.end) c.in-Some.body.now c.add_end.new.self c.add_end.result same (c.in-Some.ensures.variant.0 refl) (c.in-Some.ensures.value) c.add_end.ensures)
