use Rattle.std.proofs.Common.{◌≡◌, false, None, length, ap, sym, ◌∙◌}
use Rattle.std.specs.Option.{option_copied}
use Rattle.rhd_engine.specs.Engine.{Imports}
use Rattle.rhd_value.specs.Tree.{Bytes}
use Rattle.rhd_hash.specs.declared.key.Key.{Key}
use Rattle.rhd_hash.specs.declared.key.Key.TheVariants.{Native}
use Rattle.rhd_hash.specs.Keys.{key_name, key_params, key_types}
use Rattle.rhd_dispatch.specs.Walks.{any_may_have, found_in, with_types}
use Rattle.rhd_dispatch.proofs.NativeLooks.{not_found}
use Rattle.rhd_dispatch.proofs.Typed.{native_is_key}
use Rattle.rhd_dispatch.proofs.look.AllModulesLook.may_match.Goals as goal

-- a native has as many parameters as types
counted : (key : Key) (name : Bytes) → key ≡ Native None name (key_types key) → length (key_types key) ≡ key_params key
counted key name own = sym (ap key_params own)

pub any_may_match-requires-clause-count : goal.any_may_match-requires-clause-count
any_may_match-requires-clause-count c = counted c.args.key.now _ (native_is_key c.args.key.now _ (sym c.native_name.ensures ∙ ap option_copied c.in-Some.is))

pub any_may_match-requires-2-clause-count : goal.any_may_match-requires-2-clause-count
any_may_match-requires-2-clause-count c = counted c.args.key.now _ (native_is_key c.args.key.now _ (sym c.native_name.ensures ∙ ap option_copied c.in-Some.is))

pub returns : goal.returns
returns c none types matches dynamic =
    let s = c.args.self in
    let key = c.args.key.now in
    let name = key_name key in
    let kinds = key_types key in
    let own = native_is_key key _ (sym c.native_name.ensures ∙ ap option_copied c.in-Some.is) in
    let count : length kinds ≡ key_params key = sym (ap key_params own) in
    let have : (es : Imports) → any_may_have name (key_params key) es ≡ false → any_may_have name (length kinds) es ≡ false = λ es none. ap (λ n. any_may_have name n es) count ∙ none in
    ap (λ k. found_in s.state.now.lib s.globals.now s.state.now.imports s.statics.now (with_types types k)) own
    ∙ not_found s.state.now.lib s.globals.now s.state.now.imports s.statics.now c.args.place name kinds types
    c.any_import_may_have.ensures.indexed c.any_static_may_have.ensures.indexed matches dynamic
    (c.any_may_match.ensures c.if-any_may_match.false types matches dynamic)
    (c.any_may_match-2.ensures c.if-any_may_match-2.false types matches dynamic)
    (have s.state.now.imports (c.any_import_may_have.ensures.none c.if-any_import_may_have.false))
    (have s.statics.now (c.any_static_may_have.ensures.none none))
