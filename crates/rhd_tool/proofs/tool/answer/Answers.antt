use Rattle.std.proofs.Common.{◌≡◌, length, ap, refl, arith}
use Rattle.rhd_machine.specs.Objects.{objects_of}
use Rattle.rhd_loader.specs.Loads.{PlanLoads}
use Rattle.rhd_tool.specs.Handed.{handed_of}
use Rattle.rhd_kit.specs.PlanBodies.{plan_starts, plan_resumes}
use Rattle.rhd_kit.specs.TableHost.{table_answers}
use Rattle.rhd_tool.proofs.Sessions.{none_answered, start_same, all_answered, some_answered}
use Rattle.rhd_tool.proofs.tool.answer.Goals as goal

pub returns-in_default-clause-some : goal.returns-in_default-clause-some
returns-in_default-clause-some g c = none_answered _ c.args.text c.args.text.commands c.new-in_default.result c.new-in_default.ensures

pub returns-clause-all : goal.returns-clause-all
unfolding handed_of
returns-clause-all g c =
    all_answered _ c.args.text c.args.text.commands _ _ _ c.run_commands-answered.result _ _
    c.run_commands-answered.ensures.gives
    (λ i. record { objects = objects_of (λ z. (goal.PluginFunc-dyn g z).allows_call z.1) (λ z. (goal.PluginFunc-dyn g z).allows_resume z.1) plan_starts plan_resumes table_answers (c.in-Ok.ensures.natives i); loads = PlanLoads })
    (start_same _ c.args.text _ _ _ _ c.in-Ok.ensures.state c.unwrap_or-seeds.ensures c.unwrap_or-limits.ensures (rw c.new-files.ensures refl))
    (rw (c.in-Ok.ensures.begun, c.new-host.ensures, c.new-bodies.ensures) refl)

pub returns-clause-some : goal.returns-clause-some
unfolding handed_of
returns-clause-some g c =
    some_answered _ c.args.text c.args.text.commands _ _ _ c.run_commands-answered.result _ _
    c.run_commands-answered.ensures.gives
    (λ i. record { objects = objects_of (λ z. (goal.PluginFunc-dyn g z).allows_call z.1) (λ z. (goal.PluginFunc-dyn g z).allows_resume z.1) plan_starts plan_resumes table_answers (c.in-Ok.ensures.natives i); loads = PlanLoads })
    (start_same _ c.args.text _ _ _ _ c.in-Ok.ensures.state c.unwrap_or-seeds.ensures c.unwrap_or-limits.ensures (rw c.new-files.ensures refl))
    (rw (c.in-Ok.ensures.begun, c.new-host.ensures, c.new-bodies.ensures) refl)

pub run_commands-answered-requires : goal.run_commands-answered-requires
run_commands-answered-requires g c =
    let none : length c.in-Ok.session.core.modules.items ≡ 0 = ap (λ s. length s.world.modules) c.in-Ok.ensures.state in
    omega (arith, none, c.requires.count)
