use Rattle.std.proofs.Common.{◌≡◌, length, vec_len, refl, rules}
use Rattle.rhd_plan.specs.Session.{stepped}
use Rattle.rhd_plan.proofs.BodyLaws.{latest_changed}
use Rattle.rhd_plan.proofs.body.BodyPlans.add_call.Goals as goal

pub returns : goal.returns
returns c =
    let same : vec_len c.self.inside.items ≡ length c.self.inside.items.items = search rules in
    rw (← c.self.view_is) (latest_changed c.self.inside.items.items (vec_len c.self.inside.items) (stepped c.args.call) c.in-Some.body.now c.add_call.new.self c.add_call.result same (c.in-Some.ensures.variant.0 refl) (c.in-Some.ensures.value) c.add_call.ensures)
