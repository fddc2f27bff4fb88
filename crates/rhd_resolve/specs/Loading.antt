-- How a loaded script becomes a module, and what refuses it.
use Rattle.std.specs.Prelude.{◌≡◌, ◌⊎◌, Bool, true, false, List, [], ◌∷◌, map, Option, None, Some, Result, Ok, Err}
use Rattle.std.specs.List.{filter, flat_map}
use Rattle.std.specs.Map.{keys_of}
use Rattle.rhd_value.specs.Tree.{Bytes, Tree}
use Rattle.rhd_hash.specs.declared.mixer.Seeds.{Seeds}
use Rattle.rhd_func.specs.declared.access.EnvId.{EnvId}
use Rattle.rhd_func.specs.declared.access.FnAccess.{FnAccess}
use Rattle.rhd_func.specs.declared.access.FnAccess.TheVariants.{Private, Public}
use Rattle.rhd_func.specs.declared.func.ScriptFuncDef.{ScriptFuncDef}
use Rattle.rhd_decl.specs.declared.fault.DeclFault.{DeclFault}
use Rattle.rhd_module.specs.Algebra.{HasOwnTable}
use Rattle.rhd_module.specs.Contents.{with_id, put_sub}
use Rattle.rhd_module.specs.Index.{indexed}
use Rattle.rhd_table.specs.Indexed.{IsClash, NoneClash}
use Rattle.rhd_module.specs.Manifests.{put_vars}
use Rattle.rhd_module.specs.Registered.{with_decl}
use Rattle.rhd_decl.specs.Registration.{script_key, script_decl}
use Rattle.rhd_module.specs.Tree.{ModuleTree, Subs, no_subs, empty_module}
use Rattle.rhd_module.specs.Walk.{tree}
use Rattle.rhd_layers.specs.Lists.{Imports}
use Rattle.rhd_resolve.specs.declared.environs.EncapsulatedEnviron.{EncapsulatedEnviron}
use Rattle.rhd_resolve.specs.declared.loaded.LoadedScript.{LoadedScript}
use Rattle.rhd_resolve.specs.declared.loaded.ScopeEntry.{ScopeEntry}
use Rattle.rhd_resolve.specs.Environs.{Envs, next_env, with_env}

-- a value of a script under each of its names
abbrev pub value_named : ScopeEntry → List (Bytes × Tree)
value_named entry = map (λ name. (name, entry.value)) entry.aliases

-- all of them, in order: the latest of a name is the one that stays
abbrev pub named_values : List ScopeEntry → List (Bytes × Tree)
named_values scope = flat_map value_named scope

-- imports as sub-modules: the latest of a name is the one that stays
abbrev pub imported : Imports → Subs → Subs
imported [] held = held
imported (i ∷ imports) held = imported imports (put_sub i.0 i.1 held)

-- scripts declared one after the other, each in this environment, if there is one
abbrev pub with_scripts : Option EnvId → List ScriptFuncDef → ModuleTree → ModuleTree
with_scripts env [] m = m
with_scripts env (def ∷ defs) m = with_scripts env defs (with_decl (script_key def) (script_decl m.own.seeds def env) m)

abbrev pub is_public : FnAccess → Bool
is_public Private = false
is_public Public = true

abbrev pub public_functions : List ScriptFuncDef → List ScriptFuncDef
public_functions defs = filter (λ def. is_public def.access) defs

-- a new module whose id is the source
abbrev pub of_source : Seeds → Option Bytes → ModuleTree
of_source seeds None = empty_module seeds
of_source seeds (Some source) = with_id source (empty_module seeds)

-- the library of all functions of a script
abbrev pub library_of : Seeds → LoadedScript → ModuleTree
library_of seeds loaded = with_scripts None loaded.functions.items (of_source seeds loaded.source)

-- what a script's module has but for its functions
abbrev pub contents_of : Seeds → LoadedScript → ModuleTree
contents_of seeds loaded = record {
  own = record (of_source seeds loaded.source).own { doc = loaded.doc; vars = put_vars (named_values loaded.scope.items) [] };
  subs = imported loaded.imports no_subs;
}

-- the module of a script: its public functions run in an environment of this number; it is indexed
abbrev pub module_of : Seeds → EnvId → LoadedScript → ModuleTree
module_of seeds env loaded = indexed (with_scripts (Some env) (public_functions loaded.functions.items) (contents_of seeds loaded))

-- the environment of a script
abbrev pub environ_of : Seeds → LoadedScript → EncapsulatedEnviron
environ_of seeds loaded = record { lib = library_of seeds loaded; imports = loaded.imports }

-- What loading a script answers, and the environments that it leaves: two keys that clash of the declarations of the library or of the module, or of the module's index, refuse it.
abbrev pub Loads : LoadedScript → Envs → Result ModuleTree DeclFault → Envs → Type 0
Loads loaded old (Ok made) new =
    let lib = library_of old.seeds loaded in
    let done = module_of old.seeds (next_env old) loaded in
    HasOwnTable lib × HasOwnTable done × NoneClash old.seeds (keys_of (tree done)) × (made ≡ done) × (new ≡ with_env (environ_of old.seeds loaded) old)
Loads loaded old (Err fault) new =
    let lib = library_of old.seeds loaded in
    let done = module_of old.seeds (next_env old) loaded in
    (IsClash old.seeds (keys_of lib.own.eager) fault ⊎ IsClash old.seeds (keys_of done.own.eager) fault ⊎ IsClash old.seeds (keys_of (tree done)) fault) × (new ≡ old)
