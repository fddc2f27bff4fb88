use Rattle.rhd_session.proofs.Imported.{path_ends, path_stays}
use Rattle.rhd_session.proofs.session.Session.import_path.Goals as goal

pub returns-clause-imports : goal.returns-clause-imports
returns-clause-imports g c =
    let h = c.in_ok-hold_import.ensures.held in
    path_ends _ _ _ _ _ _ _ _ _ _ _ c.args.name c.args.path.now h.0 c.in_ok-hold_import.ensures.world h.1 c.ask-answer.ensures.frame c.end_import.ensures.world
    c.ask-answer.result c.end_import.result c.ask-answer.ensures.world c.ask-answer.ensures.refused c.ask-answer.ensures.asked c.end_import.ensures.ends

pub returns-clause-stays : goal.returns-clause-stays
returns-clause-stays g c =
    let h = c.in_ok-hold_import.ensures.held in
    path_stays (g.L.Loader.allows_load c.args.self.now.resolver.loader) _ _ _ _ _ _ _ _ _ _ c.args.name c.args.path.now h.0 c.in_ok-hold_import.ensures.world h.1 c.ask-answer.ensures.frame c.end_import.ensures.world
    c.ask-answer.result c.end_import.result c.ask-answer.ensures.refused c.ask-answer.ensures.read c.end_import.ensures.ends
