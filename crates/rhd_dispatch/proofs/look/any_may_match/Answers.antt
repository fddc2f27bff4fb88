use Rattle.std.proofs.Common.{◌∙◌, ap, sym}
use Rattle.rhd_hash.specs.Keys.{key_name, key_params, key_types}
use Rattle.rhd_dispatch.specs.Walks.{any_may_show}
use Rattle.rhd_dispatch.proofs.NativeLooks.{none_by_filter, none_by_names}
use Rattle.rhd_dispatch.proofs.look.any_may_match.Goals as goal

pub returns-then-not-may_have_dynamic : goal.returns-then-not-may_have_dynamic
returns-then-not-may_have_dynamic c = λ _. none_by_filter c.args.place c.args.key.now c.args.modules.now c.requires.count (c.may_have_dynamic.ensures c.if-not-may_have_dynamic.true)

pub returns : goal.returns
returns c = λ none.
    let key = c.args.key.now in
    none_by_names c.args.place key c.args.modules.now c.requires.count (ap (any_may_show c.args.place (key_name key) (key_params key) (key_types key)) (sym c.as_slice.ensures) ∙ sym c.any_may_show.ensures ∙ none)
