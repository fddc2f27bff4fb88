use Rattle.std.proofs.Common.{sym, ap, ◌∙◌, refl}
use Rattle.rhd_engine.specs.Engine.{Imports}
use Rattle.rhd_call.specs.declared.command.Command.TheVariants as commands
use Rattle.rhd_session.proofs.Declared.{goes_refused, pop_import_goes, pop_import_refused}
use Rattle.rhd_session.proofs.session_core.SessionCore.pop_import.Goals as goal

pub returns-in-Some-clause-goes : goal.returns-in-Some-clause-goes
returns-in-Some-clause-goes g c = pop_import_goes _ _ _ c.pop.new.self _ c.in-Some.ensures refl

pub returns-in-None-clause-goes : goal.returns-in-None-clause-goes
returns-in-None-clause-goes g c = goes_refused _ _ commands.PopImport c.unknown.result _ _ c.unknown.ensures (pop_import_refused _ _ _ c.in-None.ensures.0 (ap (λ (es : Imports). record c.args.self.now.state { imports = es }) (c.in-None.ensures.1 ∙ sym c.in-None.ensures.0)))
