use Rattle.std.proofs.Common.{refl, sym, ap, List, ◌∙◌}
use Rattle.rhd_module.specs.Tree.{ModuleTree}
use Rattle.rhd_call.specs.declared.command.Command.TheVariants as commands
use Rattle.rhd_session.proofs.Declared.{goes_refused, pop_goes, pop_refused}
use Rattle.rhd_session.proofs.session_core.SessionCore.pop_lib.Goals as goal

pub returns-in-Some-clause-goes : goal.returns-in-Some-clause-goes
returns-in-Some-clause-goes g c = pop_goes _ _ _ c.pop.new.self c.in-Some._library c.in-Some.ensures refl

pub returns-in-None-clause-goes : goal.returns-in-None-clause-goes
returns-in-None-clause-goes g c = goes_refused _ _ commands.PopLib c.unknown.result _ _ c.unknown.ensures (pop_refused _ _ _ c.in-None.ensures.0 (ap (λ (ms : List ModuleTree). record c.args.self.now.state { lib = ms }) (c.in-None.ensures.1 ∙ sym c.in-None.ensures.0)))
