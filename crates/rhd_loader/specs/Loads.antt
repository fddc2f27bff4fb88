-- WHAT A LOADER OF MODULE TEXTS ANSWERS.
use Rattle.std.specs.Prelude.{◌≡◌, ◌⊎◌, List, map, None, Result, Ok, Err}
use Rattle.std.specs.List.{AllByRecursion, Contains}
use Rattle.std.specs.Map.{keys_of}
use Rattle.rhd_value.specs.Tree.{Bytes}
use Rattle.rhd_value.specs.declared.fault.EvalAltResult.TheVariants as faults
use Rattle.rhd_hash.specs.declared.key.Key.{Key}
use Rattle.rhd_hash.specs.declared.mixer.Seeds.{Seeds}
use Rattle.rhd_hash.specs.Table.{Clashing}
use Rattle.rhd_func.specs.declared.func.ScriptFuncDef.{ScriptFuncDef}
use Rattle.rhd_manifest.specs.Manifest.{ManifestLists}
use Rattle.rhd_module.specs.Algebra.{HasOwnTable}
use Rattle.rhd_table.specs.Indexed.{NoneClash}
use Rattle.rhd_module.specs.Index.{indexed}
use Rattle.rhd_module.specs.Tree.{ModuleTree, empty_module}
use Rattle.rhd_module.specs.Walk.{tree}
use Rattle.rhd_layers.specs.Lists.{Imports}
use Rattle.rhd_resolve.specs.declared.fault.ResolveFault.{ResolveFault}
use Rattle.rhd_resolve.specs.declared.fault.ResolveFault.TheVariants as refusal
use Rattle.rhd_resolve.specs.declared.loaded.LoadedScript.{LoadedScript}
use Rattle.rhd_resolve.specs.Environs.{Envs}
use Rattle.rhd_resolve.specs.Loading.{with_scripts}
use Rattle.rhd_text.specs.Rows.{nowhere}
use Rattle.rhd_loader.specs.declared.said.Said.{Said}
use Rattle.rhd_loader.specs.Imports.{ImportedScripts}
use Rattle.rhd_loader.specs.Says.{Says}

-- an imported module has these functions, which run in no environment; it has no id, and is indexed
abbrev pub import_of : Seeds → List ScriptFuncDef → ModuleTree
import_of seeds defs = indexed (with_scripts None defs (empty_module seeds))

-- all imported modules under their names
abbrev pub imports_of : Seeds → ImportedScripts → Imports
imports_of seeds imports = map (λ i. (i.0, import_of seeds i.1)) imports

-- no two keys of such a module clash, of its declarations and of its index
abbrev pub IsApart : Seeds → List ScriptFuncDef → Type 0
IsApart seeds defs = HasOwnTable (import_of seeds defs) × NoneClash seeds (keys_of (tree (import_of seeds defs)))

-- two of them clash
abbrev pub ClashIn : Seeds → List ScriptFuncDef → Key → Key → Type 0
ClashIn seeds defs held new = Clashing seeds (keys_of (import_of seeds defs).own.eager) held new ⊎ Clashing seeds (keys_of (tree (import_of seeds defs))) held new

-- this holds of each imported module's functions
abbrev pub AreApart : Seeds → ImportedScripts → Type 0
AreApart seeds imports = AllByRecursion (λ i. IsApart seeds i.1) imports

-- what is said as a script, which has no source yet
pub record IsScript (seeds : Seeds) (s : Said) (script : LoadedScript) : Type 0 where
  pub scope : script.scope.items ≡ s.scope
  pub imports : script.imports ≡ imports_of seeds s.imports
  pub functions : script.functions.items ≡ s.functions
  pub source : script.source ≡ None
  pub doc : script.doc ≡ s.doc

-- fault 15 of a text
abbrev pub failed_with : Bytes → ResolveFault
failed_with text = refusal.Fault (faults.ErrorRuntime text nowhere)

-- What a loader may answer, whatever the manifests are. Each line says something, and no two keys of an imported module clash:
-- the script that is said. Each line says something, and two keys of an imported module clash: these two. A line is a fault or
-- no line: fault 15 of the first such line's text.
pub data PlanLoads (manifests : List ManifestLists) (text : Bytes) (envs : Envs) (r : Result LoadedScript ResolveFault) : Type 0 where
  loaded : (s : Said) (script : LoadedScript) → Says text (Ok s) → AreApart envs.seeds s.imports → IsScript envs.seeds s script → r ≡ Ok script → PlanLoads manifests text envs r
  collided : (s : Said) (i : Bytes × List ScriptFuncDef) (held new : Key) → Says text (Ok s) → Contains s.imports i → ClashIn envs.seeds i.1 held new → r ≡ Err (refusal.HashCollision held new) → PlanLoads manifests text envs r
  failed : (fault : Bytes) → Says text (Err fault) → r ≡ Err (failed_with fault) → PlanLoads manifests text envs r
