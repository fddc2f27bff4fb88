use Rattle.std.proofs.Common.{◌||◌}
use Rattle.rhd_dispatch.proofs.Lacking.{nowhere}
use Rattle.rhd_dispatch.proofs.NativeLooks.{any_parts}
use Rattle.rhd_dispatch.proofs.search.may_have_script.Goals as goal

pub returns : goal.returns
returns c = λ none key script.
    let m = c.args.modules in
    let g = c.may_have_script.result in
    let l = c.may_have_script-2.result in
    let i = c.may_have_script-3.result in
    let p = any_parts ((g || l) || i) c.may_have_script-4.result none in
    let q = any_parts (g || l) i p.0 in
    let r = any_parts g l q.0 in
    nowhere m.state.now.lib m.globals.now m.state.now.imports m.statics.now key (c.may_have_script-2.ensures r.1 key script) (c.may_have_script.ensures r.0 key script) (c.may_have_script-3.ensures q.1 key script) (c.may_have_script-4.ensures p.1 key script)
