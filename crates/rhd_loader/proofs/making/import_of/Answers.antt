use Rattle.std.proofs.Common.{◌≡◌, None, ap, subst, ◌∙◌}
use Rattle.std.specs.Map.{keys_of}
use Rattle.rhd_hash.specs.declared.mixer.Seeds.{Seeds}
use Rattle.rhd_module.specs.Algebra.{HasOwnTable}
use Rattle.rhd_table.specs.Indexed.{IsClash, NoneClash}
use Rattle.rhd_module.specs.Index.{indexed}
use Rattle.rhd_module.specs.Tree.{ModuleTree, empty_module}
use Rattle.rhd_module.specs.Walk.{tree}
use Rattle.rhd_table.proofs.Fills.{if_err}
use Rattle.rhd_resolve.specs.Loading.{with_scripts}
use Rattle.rhd_resolve.proofs.ScriptsDeclared.{scripts_seeds, index_clash}
use Rattle.rhd_loader.specs.Loads.{import_of}
use Rattle.rhd_loader.specs.Making.{ToldClash}
use Rattle.rhd_loader.proofs.ImportsMade.{told_eager, told_tree}
use Rattle.rhd_loader.proofs.making.import_of.Goals as goal

pub returns-in_err-declare_all-clause-clash : goal.returns-in_err-declare_all-clause-clash
returns-in_err-declare_all-clause-clash c =
    let seeds = c.args.seeds in
    let defs = c.args.defs.now in
    let fault = c.in_err-declare_all.field-0.0 in
    let P : ModuleTree → Type 0 = λ t. IsClash t.own.seeds (keys_of (with_scripts None defs t).own.eager) fault in
    if_err c.from_residual-in_err-declare_all.result fault (ToldClash seeds defs) c.from_residual-in_err-declare_all.ensures (told_eager seeds defs fault (subst P c.in_ok-made.ensures c.in_err-declare_all.ensures.clash))

pub returns-in_err-build_index-clause-clash : goal.returns-in_err-build_index-clause-clash
returns-in_err-build_index-clause-clash c =
    let seeds = c.args.seeds in
    let defs = c.args.defs.now in
    let fault = c.in_err-build_index.field-0.0 in
    let declared = c.declare_all.new.target in
    let whole : declared ≡ with_scripts None defs (empty_module seeds) = c.in_ok-declare_all.ensures.ok ∙ ap (with_scripts None defs) c.in_ok-made.ensures in
    let P : ModuleTree → Type 0 = λ t. IsClash t.own.seeds (keys_of (tree t)) fault in
    let at = subst P whole (index_clash (Unit {0}) declared c.build_index.new.self fault c.in_err-build_index.ensures) in
    if_err c.from_residual-in_err-build_index.result fault (ToldClash seeds defs) c.from_residual-in_err-build_index.ensures
    (told_tree seeds defs fault (subst (λ (s : Seeds). IsClash s (keys_of (tree (import_of seeds defs))) fault) (scripts_seeds None defs (empty_module seeds)) at))

pub returns-clause-ok : goal.returns-clause-ok
returns-clause-ok c = c.in_ok-build_index.ensures.1 ∙ ap indexed (c.in_ok-declare_all.ensures.ok ∙ ap (with_scripts None c.args.defs.now) c.in_ok-made.ensures)

pub returns-clause-apart : goal.returns-clause-apart
returns-clause-apart c =
    let seeds = c.args.seeds in
    let defs = c.args.defs.now in
    let whole : c.declare_all.new.target ≡ with_scripts None defs (empty_module seeds) = c.in_ok-declare_all.ensures.ok ∙ ap (with_scripts None defs) c.in_ok-made.ensures in
    let at = subst (λ (t : ModuleTree). NoneClash t.own.seeds (keys_of (tree t))) whole c.in_ok-build_index.ensures.0 in (
      subst HasOwnTable (c.in_ok-build_index.ensures.1 ∙ ap indexed whole) c.iter_fn-apart.ensures.apart,
      subst (λ (s : Seeds). NoneClash s (keys_of (tree (import_of seeds defs)))) (scripts_seeds None defs (empty_module seeds)) at,
    )
