use Rattle.std.proofs.Common.{sym, ◌∙◌}
use Rattle.rhd_dispatch.proofs.NativeLooks.{no_root_key}
use Rattle.rhd_dispatch.proofs.qualified.RootLook.may_match.Goals as goal

pub returns : goal.returns
returns c none types matches dynamic = no_root_key c.args.key.now c.args.self.layer types c.args._place c.args.self.place.now c.args.self.is_indexed matches dynamic (sym c.tree_may_have.ensures ∙ none)
