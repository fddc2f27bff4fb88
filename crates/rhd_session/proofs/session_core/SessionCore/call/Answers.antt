use Rattle.std.proofs.Common.{rules, ◌≡◌, refl, length}
use Rattle.std.proofs.lemmas.Result.{on_ok_weaker}
use Rattle.rhd_session.proofs.Placed.{placed, last_begun}
use Rattle.rhd_session.proofs.session_core.SessionCore.call.Goals as goal

pub fill-filled-requires-clause-begun : goal.fill-filled-requires-clause-begun
fill-filled-requires-clause-begun g c =
    let at : c.len-last.result ≡ length c.args.replies.now.items = search rules in
    (c.args.request, last_begun c.args.replies.now.items c.push_reserved.new.self.items c.len-last.result c.index_mut.result.now c.begun.result c.args.request c.push_reserved.ensures.items at c.index_mut.ensures.value c.begun.ensures)

pub returns-else-is_err-clause-replied : goal.returns-else-is_err-clause-replied
returns-else-is_err-clause-replied g c =
    let at : c.len-last.result ≡ length c.args.replies.now.items = search rules in
    let begun = last_begun c.args.replies.now.items c.push_reserved.new.self.items c.len-last.result c.index_mut.result.now c.begun.result c.args.request c.push_reserved.ensures.items at c.index_mut.ensures.value c.begun.ensures in
    on_ok_weaker c.fill-filled.result (λ replied. placed _ _ c.args.self.now.state c.args.replies.now.items c.push_reserved.new.self.items c.len-last.result _ c.fill-filled.new.reply c.args.request c.args.request _ _ c.push_reserved.ensures.items at refl replied) (c.fill-filled.ensures.replied c.args.self.now.modules.items c.args.request begun)
