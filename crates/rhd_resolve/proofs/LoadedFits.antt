-- The module of a loaded script may be given, and its environment was made in the same session.
use Rattle.std.proofs.Common.{◌≡◌, ℕ, ◌<◌, Bool, true, false, cond, ◌&&◌, List, [], ◌∷◌, length, refl, arith, length-append}
use Rattle.std.specs.Prelude.{Option, None, Some, Result, Ok, Err, IfOk, OnOk}
use Rattle.std.specs.List.{list_all}
use Rattle.std.specs.Ordering.{match_ordering, nat_cmp}
use Rattle.std.specs.declared.cmp.Ordering.{Ordering}
use Rattle.std.specs.declared.cmp.Ordering.TheVariants.{Less, Equal, Greater}
use Rattle.std.specs.Cmp.Lexicographic.{slice_cmp}
use Rattle.std.proofs.lemmas.Bool.{lt-ltb}
use Rattle.rhd_value.specs.Tree.{Bytes}
use Rattle.rhd_hash.specs.declared.key.Key.{Key}
use Rattle.rhd_hash.specs.Keys.{key_eq}
use Rattle.rhd_func.specs.declared.access.EnvId.{EnvId}
use Rattle.rhd_func.specs.declared.func.ScriptFuncDef.{ScriptFuncDef}
use Rattle.rhd_decl.specs.declared.fault.DeclFault.{DeclFault}
use Rattle.rhd_decl.specs.declared.declaration.Declaration.{Declaration}
use Rattle.rhd_manifest.specs.Manifest.{ManifestLists}
use Rattle.rhd_module.specs.Contents.{put_sub}
use Rattle.rhd_module.specs.Index.{indexed}
use Rattle.rhd_table.specs.Pairs.{put, Pairs}
use Rattle.rhd_module.specs.Registered.{with_decl}
use Rattle.rhd_decl.specs.Registration.{script_key, script_decl}
use Rattle.rhd_module.specs.Tree.{ModuleTree, Lists, Subs, no_subs, sub}
use Rattle.rhd_engine.specs.Held.{own_held, below_held}
use Rattle.rhd_layers.specs.Lists.{Imports}
use Rattle.rhd_layers.proofs.Bools.{both, parts}
use Rattle.rhd_engine.proofs.HeldLaws.{stays_held}
use Rattle.rhd_engine.proofs.HeldTrees.{three, put_sub_held}
use Rattle.rhd_resolve.specs.declared.loaded.LoadedScript.{LoadedScript}
use Rattle.rhd_resolve.specs.Environs.{Envs, next_env, with_env}
use Rattle.rhd_resolve.specs.Held.{env_below, env_held, own_envs_held, envs_held_below, envs_held}
use Rattle.rhd_resolve.specs.Loading.{imported, with_scripts, public_functions, of_source, contents_of, module_of, environ_of, Loads}
use Rattle.rhd_resolve.specs.Sessions.{Seen, seen, HoldsBelow, HoldsIn, IsHeld, IsMade, IsGiven, AreGiven, IsLoaded, Adds, adds_one}
use Rattle.rhd_resolve.proofs.Growth.{AreGiven-more}

-- Declarations and sub-modules that are put in.

module _ (test : Declaration → Bool) where
  abbrev all_pass : Pairs → Bool
  all_pass ps = list_all (λ p. test p.1) ps

  put_step : (k : Key) (d : Declaration) (p : Key × Declaration) (ps : Pairs) (same : Bool) → test d ≡ true → all_pass (p ∷ ps) ≡ true → all_pass (put k d ps) ≡ true
      → all_pass (cond same ((p.0, d) ∷ ps) (p ∷ put k d ps)) ≡ true
  put_step k d p ps true h all deeper = both (test d) (all_pass ps) h (parts (test p.1) (all_pass ps) all).1
  put_step k d p ps false h all deeper = both (test p.1) (all_pass (put k d ps)) (parts (test p.1) (all_pass ps) all).0 deeper

  put_passes : (k : Key) (d : Declaration) (ps : Pairs) → test d ≡ true → all_pass ps ≡ true → all_pass (put k d ps) ≡ true
  put_passes k d [] h all = both (test d) true h refl
  put_passes k d (p ∷ ps) h all = put_step k d p ps (key_eq k p.0) h all (put_passes k d ps h (parts (test p.1) (all_pass ps) all).1)

put_sub_envs : (n : ℕ) (name : Bytes) (child : ModuleTree) (subs : Subs) → envs_held n child ≡ true → envs_held_below n subs ≡ true → envs_held_below n (put_sub name child subs) ≡ true
put_sub_envs n name child no_subs h all =
    let c = parts (own_envs_held n child.own) (envs_held_below n child.subs) h in three (own_envs_held n child.own) (envs_held_below n child.subs) true c.0 c.1 refl
put_sub_envs n name child (sub k own inner later) h all = by (put_sub_envs n name child later h q.1) (slice_cmp nat_cmp name k)
  where
    c : (own_envs_held n child.own ≡ true) × (envs_held_below n child.subs ≡ true)
    c = parts (own_envs_held n child.own) (envs_held_below n child.subs) h

    p : (own_envs_held n own ≡ true) × ((envs_held_below n inner && envs_held_below n later) ≡ true)
    p = parts (own_envs_held n own) (envs_held_below n inner && envs_held_below n later) all

    q : (envs_held_below n inner ≡ true) × (envs_held_below n later ≡ true)
    q = parts (envs_held_below n inner) (envs_held_below n later) p.1

    by : envs_held_below n (put_sub name child later) ≡ true → (o : Ordering)
        → envs_held_below n (match_ordering o (sub name child.own child.subs (sub k own inner later)) (sub k child.own child.subs later) (sub k own inner (put_sub name child later))) ≡ true
    by deeper Less = three (own_envs_held n child.own) (envs_held_below n child.subs) (envs_held_below n (sub k own inner later)) c.0 c.1 all
    by deeper Equal = three (own_envs_held n child.own) (envs_held_below n child.subs) (envs_held_below n later) c.0 c.1 q.1
    by deeper Greater = three (own_envs_held n own) (envs_held_below n inner) (envs_held_below n (put_sub name child later)) p.0 q.0 deeper

put_sub_holds : (P : Lists → Type 0) (name : Bytes) (child : ModuleTree) (subs : Subs) → HoldsIn P child → HoldsBelow P subs → HoldsBelow P (put_sub name child subs)
put_sub_holds P name child no_subs h all = (h.0, h.1, tt)
put_sub_holds P name child (sub k own inner later) h all = by (put_sub_holds P name child later h all.2) (slice_cmp nat_cmp name k)
  where
    by : HoldsBelow P (put_sub name child later) → (o : Ordering)
        → HoldsBelow P (match_ordering o (sub name child.own child.subs (sub k own inner later)) (sub k child.own child.subs later) (sub k own inner (put_sub name child later)))
    by deeper Less = (h.0, h.1, all)
    by deeper Equal = (h.0, h.1, all.2)
    by deeper Greater = (all.0, all.1, deeper)

imported_natives : (s : Seen) (imports : Imports) (held : Subs) → AreGiven s imports → below_held s.natives held ≡ true → below_held s.natives (imported imports held) ≡ true
imported_natives s [] held given all = all
imported_natives s (i ∷ imports) held given all = imported_natives s imports (put_sub i.0 i.1 held) given.1 (put_sub_held s.natives i.0 i.1 held given.0.made.natives all)

imported_envs : (s : Seen) (imports : Imports) (held : Subs) → AreGiven s imports → envs_held_below s.envs held ≡ true → envs_held_below s.envs (imported imports held) ≡ true
imported_envs s [] held given all = all
imported_envs s (i ∷ imports) held given all = imported_envs s imports (put_sub i.0 i.1 held) given.1 (put_sub_envs s.envs i.0 i.1 held given.0.made.envs all)

imported_lists : (s : Seen) (imports : Imports) (held : Subs) → AreGiven s imports → HoldsBelow (IsHeld s.seeds s.iterators s.manifests) held → HoldsBelow (IsHeld s.seeds s.iterators s.manifests) (imported imports held)
imported_lists s [] held given all = all
imported_lists s (i ∷ imports) held given all = imported_lists s imports (put_sub i.0 i.1 held) given.1 (put_sub_holds (IsHeld s.seeds s.iterators s.manifests) i.0 i.1 held given.0.made.lists all)

-- Scripts that are declared, in an environment that is held, if in any.

module _ (s : Seen) (env : Option EnvId) (below : env_below s.envs env ≡ true) where
  declared_made : (d : ScriptFuncDef) (m : ModuleTree) → IsMade s m → IsMade s (with_decl (script_key d) (script_decl m.own.seeds d env) m)
  declared_made d m made =
      let k = script_key d in
      let decl = script_decl m.own.seeds d env in
      let p = parts (own_envs_held s.envs m.own) (envs_held_below s.envs m.subs) made.envs in
      let own = put_passes (λ (e : Declaration). env_held s.envs e.func) k decl m.own.eager below p.0 in
      let held = made.lists.0 in
      record {
        natives = stays_held s.natives k decl m refl made.natives;
        envs = both (own_envs_held s.envs (with_decl k decl m).own) (envs_held_below s.envs m.subs) own p.1;
        lists = (record { own_seeds = held.own_seeds; iterators_held = held.iterators_held; manifests_held = held.manifests_held; listed = held.listed }, made.lists.1);
      }

  scripts_made : (defs : List ScriptFuncDef) (m : ModuleTree) → IsMade s m → IsMade s (with_scripts env defs m)
  scripts_made [] m made = made
  scripts_made (d ∷ defs) m made = scripts_made defs (with_decl (script_key d) (script_decl m.own.seeds d env) m) (declared_made d m made)

indexed_made : (s : Seen) (m : ModuleTree) → IsMade s m → IsMade s (indexed m)
indexed_made s m made =
    let held = made.lists.0 in
    record {
      natives = made.natives;
      envs = made.envs;
      lists = (record { own_seeds = held.own_seeds; iterators_held = held.iterators_held; manifests_held = held.manifests_held; listed = held.listed }, made.lists.1);
    }

-- What a script's module has but for its functions.

source_made : (s : Seen) (source : Option Bytes) → IsMade s (of_source s.seeds source)
source_made s None = record { natives = refl; envs = refl; lists = (record { own_seeds = refl; iterators_held = refl; manifests_held = refl; listed = refl }, tt) }
source_made s (Some id) = record { natives = refl; envs = refl; lists = (record { own_seeds = refl; iterators_held = refl; manifests_held = refl; listed = refl }, tt) }

contents_made : (s : Seen) (l : LoadedScript) → AreGiven s l.imports → IsMade s (contents_of s.seeds l)
contents_made s l given =
    let m : ModuleTree = of_source s.seeds l.source in
    let made = source_made s l.source in
    let held = made.lists.0 in
    let subs = imported l.imports no_subs in
    record {
      natives = both (own_held s.natives m.own) (below_held s.natives subs) (parts (own_held s.natives m.own) (below_held s.natives m.subs) made.natives).0 (imported_natives s l.imports no_subs given refl);
      envs = both (own_envs_held s.envs m.own) (envs_held_below s.envs subs) (parts (own_envs_held s.envs m.own) (envs_held_below s.envs m.subs) made.envs).0 (imported_envs s l.imports no_subs given refl);
      lists = (record { own_seeds = held.own_seeds; iterators_held = held.iterators_held; manifests_held = held.manifests_held; listed = held.listed }, imported_lists s l.imports no_subs given tt);
    }

-- The session in which one environment was added.

abbrev after_loading : List ManifestLists → Envs → LoadedScript → Seen
after_loading manifests e l = seen manifests (with_env (environ_of e.seeds l) e)

one_longer : (e : Envs) (l : LoadedScript) → length e.items < length (with_env (environ_of e.seeds l) e).items
one_longer e l = let long = length-append e.items (environ_of e.seeds l ∷ []) in omega (arith, long)

imports_given : (manifests : List ManifestLists) (e : Envs) (l : LoadedScript) → IsLoaded (seen manifests e) l → AreGiven (after_loading manifests e l) l.imports
imports_given manifests e l given = AreGiven-more (seen manifests e) (length (with_env (environ_of e.seeds l) e).items) l.imports (omega (arith, one_longer e l)) given

module_of_given : (manifests : List ManifestLists) (e : Envs) (l : LoadedScript) → IsLoaded (seen manifests e) l → IsGiven (after_loading manifests e l) (module_of e.seeds (next_env e) l)
module_of_given manifests e l given =
    let s : Seen = after_loading manifests e l in
    let env : Option EnvId = Some (next_env e) in
    let pubs = public_functions l.functions.items in
    let below : env_below s.envs env ≡ true = lt-ltb (length e.items) s.envs (one_longer e l) in
    let contents = contents_made s l (imports_given manifests e l given) in
    record { made = indexed_made s (with_scripts env pubs (contents_of e.seeds l)) (scripts_made s env below pubs (contents_of e.seeds l) contents); indexed = refl }

adds_loaded : (manifests : List ManifestLists) (e : Envs) (l : LoadedScript) → IsLoaded (seen manifests e) l → Adds manifests e (with_env (environ_of e.seeds l) e)
adds_loaded manifests e l given =
    let s : Seen = after_loading manifests e l in
    adds_one {e = environ_of e.seeds l} refl (record { lib = scripts_made s None refl l.functions.items (of_source e.seeds l.source) (source_made s l.source); imports = imports_given manifests e l given })

-- What loading a script answers.

pub loads_given : (manifests : List ManifestLists) (l : LoadedScript) (old new : Envs) (r : Result ModuleTree DeclFault) → IsLoaded (seen manifests old) l → Loads l old r new → IfOk r (IsGiven (seen manifests new))
loads_given manifests l old new (Ok m) given is = rw (is.3, is.4) (module_of_given manifests old l given)
loads_given manifests l old new (Err fault) given is = tt

pub loads_adds : (manifests : List ManifestLists) (l : LoadedScript) (old new : Envs) (r : Result ModuleTree DeclFault) → IsLoaded (seen manifests old) l → Loads l old r new → OnOk r (Adds manifests old new)
loads_adds manifests l old new (Ok m) given is = rw is.4 (adds_loaded manifests old l given)
loads_adds manifests l old new (Err fault) given is = tt
