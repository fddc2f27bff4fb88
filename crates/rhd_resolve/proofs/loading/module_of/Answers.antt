use Rattle.std.proofs.Common.{◌≡◌, Some, inl, inr, ap, subst, ◌∙◌}
use Rattle.std.specs.Map.{keys_of}
use Rattle.rhd_hash.specs.declared.mixer.Seeds.{Seeds}
use Rattle.rhd_module.specs.Algebra.{HasOwnTable}
use Rattle.rhd_table.specs.Indexed.{IsClash, NoneClash}
use Rattle.rhd_module.specs.Index.{indexed}
use Rattle.rhd_module.specs.Tree.{ModuleTree}
use Rattle.rhd_module.specs.Walk.{tree}
use Rattle.rhd_table.proofs.Fills.{if_err}
use Rattle.rhd_resolve.specs.Loading.{with_scripts, public_functions, contents_of, module_of}
use Rattle.rhd_resolve.proofs.ScriptsDeclared.{scripts_same, scripts_seeds, source_seeds, index_clash}
use Rattle.rhd_resolve.proofs.loading.module_of.Goals as goal

pub returns-in_err-declare_public-clause-clash : goal.returns-in_err-declare_public-clause-clash
returns-in_err-declare_public-clause-clash c =
    let seeds = c.args.seeds in
    let loaded = c.args.loaded.now in
    let fault = c.in_err-declare_public.field-0.0 in
    let env = Some c.args.env in
    let made = c.in_ok-made.made in
    let is = c.in_ok-made.ensures in
    let same = ap (λ (t : ModuleTree). t.own.eager) (scripts_same env (public_functions loaded.functions.items) made (contents_of seeds loaded) (ap indexed is)) in
    let first = ap (λ (t : ModuleTree). t.own.seeds) is ∙ source_seeds seeds loaded.source in
    let functions = ap (λ defs. (with_scripts env (public_functions defs) made).own.eager) c.as_slice.ensures.value in
    if_err c.from_residual-in_err-declare_public.result fault _ c.from_residual-in_err-declare_public.ensures (inl (subst (λ ps. IsClash seeds (keys_of ps) fault) (functions ∙ same)
    (subst (λ (s : Seeds). IsClash s (keys_of (with_scripts env (public_functions c.as_slice.result.now) made).own.eager) fault) first c.in_err-declare_public.ensures.clash)))

pub returns-in_err-build_index-clause-clash : goal.returns-in_err-build_index-clause-clash
returns-in_err-build_index-clause-clash c =
    let seeds = c.args.seeds in
    let loaded = c.args.loaded.now in
    let fault = c.in_err-build_index.field-0.0 in
    let env = Some c.args.env in
    let pubs = public_functions loaded.functions.items in
    let made = c.in_ok-made.made in
    let declared = c.declare_public.new.target in
    let functions = c.in_ok-declare_public.ensures.ok ∙ ap (λ defs. with_scripts env (public_functions defs) made) c.as_slice.ensures.value in
    let whole : indexed declared ≡ module_of seeds c.args.env loaded = ap indexed functions ∙ scripts_same env pubs made (contents_of seeds loaded) (ap indexed c.in_ok-made.ensures) in
    let P : ModuleTree → Type 0 = λ t. IsClash t.own.seeds (keys_of (tree t)) fault in
    let at = subst P whole (index_clash (Unit {0}) declared c.build_index.new.self fault c.in_err-build_index.ensures) in
    let first = scripts_seeds env pubs (contents_of seeds loaded) ∙ source_seeds seeds loaded.source in
    if_err c.from_residual-in_err-build_index.result fault _ c.from_residual-in_err-build_index.ensures (inr (subst (λ (s : Seeds). IsClash s (keys_of (tree (module_of seeds c.args.env loaded))) fault) first at))

pub returns-clause-ok : goal.returns-clause-ok
returns-clause-ok c =
    let seeds = c.args.seeds in
    let loaded = c.args.loaded.now in
    let env = Some c.args.env in
    let pubs = public_functions loaded.functions.items in
    let made = c.in_ok-made.made in
    let functions = c.in_ok-declare_public.ensures.ok ∙ ap (λ defs. with_scripts env (public_functions defs) made) c.as_slice.ensures.value in
    c.in_ok-build_index.ensures.1 ∙ ap indexed functions ∙ scripts_same env pubs made (contents_of seeds loaded) (ap indexed c.in_ok-made.ensures)

pub returns-clause-table : goal.returns-clause-table
returns-clause-table c =
    let seeds = c.args.seeds in
    let loaded = c.args.loaded.now in
    let env = Some c.args.env in
    let pubs = public_functions loaded.functions.items in
    let made = c.in_ok-made.made in
    let functions = c.in_ok-declare_public.ensures.ok ∙ ap (λ defs. with_scripts env (public_functions defs) made) c.as_slice.ensures.value in
    subst HasOwnTable (c.in_ok-build_index.ensures.1 ∙ ap indexed functions ∙ scripts_same env pubs made (contents_of seeds loaded) (ap indexed c.in_ok-made.ensures)) c.iter_fn-apart.ensures.apart

pub returns-clause-index : goal.returns-clause-index
returns-clause-index c =
    let seeds = c.args.seeds in
    let loaded = c.args.loaded.now in
    let env = Some c.args.env in
    let pubs = public_functions loaded.functions.items in
    let made = c.in_ok-made.made in
    let functions = c.in_ok-declare_public.ensures.ok ∙ ap (λ defs. with_scripts env (public_functions defs) made) c.as_slice.ensures.value in
    let whole : indexed c.declare_public.new.target ≡ module_of seeds c.args.env loaded = ap indexed functions ∙ scripts_same env pubs made (contents_of seeds loaded) (ap indexed c.in_ok-made.ensures) in
    let at = subst (λ (t : ModuleTree). NoneClash t.own.seeds (keys_of (tree t))) whole c.in_ok-build_index.ensures.0 in
    subst (λ (s : Seeds). NoneClash s (keys_of (tree (module_of seeds c.args.env loaded)))) (scripts_seeds env pubs (contents_of seeds loaded) ∙ source_seeds seeds loaded.source) at
