use Rattle.std.proofs.Common.{Ok, ap, subst, ◌∙◌}
use Rattle.std.specs.Map.{keys_of}
use Rattle.rhd_hash.specs.declared.mixer.Seeds.{Seeds}
use Rattle.rhd_func.specs.declared.access.EnvId.{EnvId}
use Rattle.rhd_module.specs.Algebra.{HasOwnTable}
use Rattle.rhd_table.specs.Indexed.{NoneClash}
use Rattle.rhd_module.specs.Walk.{tree}
use Rattle.rhd_resolve.specs.Environs.{with_env}
use Rattle.rhd_resolve.specs.Loading.{library_of, module_of}
use Rattle.rhd_resolve.proofs.LoadedFits.{loads_given, loads_adds}
use Rattle.rhd_resolve.proofs.loading.ModuleModuleLoading.eval_ast_as_new.Goals as goal

pub returns-clause-loads : goal.returns-clause-loads
returns-clause-loads c =
    let loaded = c.args.loaded.now in
    let envs = c.args.envs.now in
    let seeds = c.seeds-seeds.ensures in
    let env = c.in-Some.ensures.some in
    let lib = c.in_ok-lib.ensures ∙ c.in_ok-library.ensures.ok ∙ ap (λ (s : Seeds). library_of s loaded) seeds in (
      subst (λ (s : Seeds). HasOwnTable (library_of s loaded)) seeds c.in_ok-library.ensures.table,
      subst (λ (p : Seeds × EnvId). HasOwnTable (module_of p.0 p.1 loaded)) (λ i. (seeds i, env i)) c.in_ok-made.ensures.table,
      subst (λ (p : Seeds × EnvId). NoneClash p.0 (keys_of (tree (module_of p.0 p.1 loaded)))) (λ i. (seeds i, env i)) c.in_ok-made.ensures.index,
      c.in_ok-made.ensures.ok ∙ (λ i. module_of (seeds i) (env i) loaded),
      c.in_ok-push.ensures ∙ (λ i. with_env (record { lib = lib i; imports = c.in_ok-imports.ensures i }) envs),
    )

pub returns-clause-given : goal.returns-clause-given
returns-clause-given c = λ manifests given. loads_given manifests c.args.loaded.now c.args.envs.now _ (Ok c.in_ok-made.made) given (returns-clause-loads c)

pub returns-clause-adds : goal.returns-clause-adds
returns-clause-adds c = λ manifests given. loads_adds manifests c.args.loaded.now c.args.envs.now _ (Ok c.in_ok-made.made) given (returns-clause-loads c)
