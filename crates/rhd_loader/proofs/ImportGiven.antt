-- An imported module may be given in each session of its seeds.
use Rattle.std.proofs.Common.{◌≡◌, ℕ, Bool, true, false, cond, List, [], ◌∷◌, None, refl}
use Rattle.std.specs.List.{list_all}
use Rattle.rhd_hash.specs.declared.key.Key.{Key}
use Rattle.rhd_hash.specs.Keys.{key_eq}
use Rattle.rhd_func.specs.declared.func.ScriptFuncDef.{ScriptFuncDef}
use Rattle.rhd_decl.specs.declared.declaration.Declaration.{Declaration}
use Rattle.rhd_table.specs.Pairs.{put, Pairs}
use Rattle.rhd_module.specs.Registered.{with_decl}
use Rattle.rhd_decl.specs.Registration.{script_key, script_decl}
use Rattle.rhd_module.specs.Tree.{ModuleTree, empty_module}
use Rattle.rhd_layers.proofs.Bools.{both, parts}
use Rattle.rhd_engine.proofs.HeldLaws.{stays_held}
use Rattle.rhd_resolve.specs.Held.{env_held, own_envs_held, envs_held_below}
use Rattle.rhd_resolve.specs.Loading.{with_scripts}
use Rattle.rhd_resolve.specs.Sessions.{Seen, IsMade, IsGiven, AreGiven}
use Rattle.rhd_loader.specs.Imports.{ImportedScripts}
use Rattle.rhd_loader.specs.Loads.{import_of, imports_of}

module _ (n : ℕ) where
  abbrev pairs_held : Pairs → Bool
  pairs_held ps = list_all (λ p. env_held n p.1.func) ps

  put_step : (k : Key) (d : Declaration) (p : Key × Declaration) (ps : Pairs) (same : Bool) → env_held n d.func ≡ true → pairs_held (p ∷ ps) ≡ true → pairs_held (put k d ps) ≡ true
      → pairs_held (cond same ((p.0, d) ∷ ps) (p ∷ put k d ps)) ≡ true
  put_step k d p ps true h all deeper = both (env_held n d.func) (pairs_held ps) h (parts (env_held n p.1.func) (pairs_held ps) all).1
  put_step k d p ps false h all deeper = both (env_held n p.1.func) (pairs_held (put k d ps)) (parts (env_held n p.1.func) (pairs_held ps) all).0 deeper

  put_held : (k : Key) (d : Declaration) (ps : Pairs) → env_held n d.func ≡ true → pairs_held ps ≡ true → pairs_held (put k d ps) ≡ true
  put_held k d [] h all = both (env_held n d.func) true h refl
  put_held k d (p ∷ ps) h all = put_step k d p ps (key_eq k p.0) h all (put_held k d ps h (parts (env_held n p.1.func) (pairs_held ps) all).1)

module _ (s : Seen) where
  -- a function that runs in no environment is declared
  declared_made : (d : ScriptFuncDef) (m : ModuleTree) → IsMade s m → IsMade s (with_decl (script_key d) (script_decl m.own.seeds d None) m)
  declared_made d m made =
      let k = script_key d in
      let decl = script_decl m.own.seeds d None in
      let p = parts (own_envs_held s.envs m.own) (envs_held_below s.envs m.subs) made.envs in
      let held = made.lists.0 in
      record {
        natives = stays_held s.natives k decl m refl made.natives;
        envs = both (own_envs_held s.envs (with_decl k decl m).own) (envs_held_below s.envs m.subs) (put_held s.envs k decl m.own.eager refl p.0) p.1;
        lists = (record { own_seeds = held.own_seeds; iterators_held = held.iterators_held; manifests_held = held.manifests_held; listed = held.listed }, made.lists.1);
      }

  scripts_made : (defs : List ScriptFuncDef) (m : ModuleTree) → IsMade s m → IsMade s (with_scripts None defs m)
  scripts_made [] m made = made
  scripts_made (d ∷ defs) m made = scripts_made defs (with_decl (script_key d) (script_decl m.own.seeds d None) m) (declared_made d m made)

  empty_made : IsMade s (empty_module s.seeds)
  empty_made = record { natives = refl; envs = refl; lists = (record { own_seeds = refl; iterators_held = refl; manifests_held = refl; listed = refl }, tt) }

  import_given : (defs : List ScriptFuncDef) → IsGiven s (import_of s.seeds defs)
  import_given defs =
      let made = scripts_made defs (empty_module s.seeds) empty_made in
      let held = made.lists.0 in
      record {
        made = record {
          natives = made.natives;
          envs = made.envs;
          lists = (record { own_seeds = held.own_seeds; iterators_held = held.iterators_held; manifests_held = held.manifests_held; listed = held.listed }, made.lists.1);
        };
        indexed = refl;
      }

  pub imports_given : (imports : ImportedScripts) → AreGiven s (imports_of s.seeds imports)
  imports_given [] = tt
  imports_given (i ∷ imports) = (import_given i.1, imports_given imports)
