-- What a loader of module texts answers.
use Rattle.std.proofs.Common.{◌≡◌, List, None, Ok, Err, inl, inr, refl, sym, ap, subst, ◌∙◌}
use Rattle.std.specs.Prelude.{Result, IfOk}
use Rattle.std.specs.List.{Contains}
use Rattle.std.specs.Map.{keys_of}
use Rattle.std.specs.Str.Lines.{lines}
use Rattle.std.proofs.lemmas.List.Elements.{All-contains, All-from_recursion}
use Rattle.rhd_value.specs.Tree.{Bytes}
use Rattle.rhd_hash.specs.declared.key.Key.{Key}
use Rattle.rhd_hash.specs.declared.mixer.Seeds.{Seeds}
use Rattle.rhd_func.specs.declared.func.ScriptFuncDef.{ScriptFuncDef}
use Rattle.rhd_manifest.specs.Manifest.{ManifestLists}
use Rattle.rhd_layers.specs.Lists.{Imports}
use Rattle.rhd_table.specs.Indexed.{NoneClash}
use Rattle.rhd_module.specs.Tree.{empty_module}
use Rattle.rhd_module.proofs.Fills.{none_clash}
use Rattle.rhd_resolve.specs.declared.fault.ResolveFault.{ResolveFault}
use Rattle.rhd_resolve.specs.declared.fault.ResolveFault.TheVariants as refusal
use Rattle.rhd_resolve.specs.declared.loaded.LoadedScript.{LoadedScript}
use Rattle.rhd_resolve.specs.Asked.{IsSaid}
use Rattle.rhd_resolve.specs.Environs.{Envs}
use Rattle.rhd_resolve.specs.Sessions.{seen, AreGiven, IsLoaded}
use Rattle.rhd_resolve.proofs.ScriptsDeclared.{scripts_seeds}
use Rattle.rhd_loader.specs.declared.said.Said.{Said}
use Rattle.rhd_loader.specs.declared.said.Unsaid.{Unsaid}
use Rattle.rhd_loader.specs.declared.said.Unsaid.TheVariants as unsaid
use Rattle.rhd_loader.specs.Imports.{ImportedScripts}
use Rattle.rhd_loader.specs.Said.{nothing_said}
use Rattle.rhd_loader.specs.Says.{Says}
use Rattle.rhd_loader.specs.Reading.{said_from, StopsSo}
use Rattle.rhd_loader.specs.Loads.{import_of, imports_of, IsApart, ClashIn, AreApart, IsScript, failed_with, PlanLoads, loaded, collided, failed}
use Rattle.rhd_loader.specs.Making.{Makes, StopsLoading}
use Rattle.rhd_loader.specs.Alike.{IsSameScript, AreAlike}
use Rattle.rhd_loader.proofs.ImportGiven.{imports_given}
use Rattle.rhd_loader.proofs.SaidLaws.{says_sound, says_one}

-- ---- a script that is made, or not

pub made_loaded : (manifests : List ManifestLists) (envs : Envs) (s : Said) (r : Result LoadedScript ResolveFault) → Makes envs.seeds s r → IfOk r (IsLoaded (seen manifests envs))
made_loaded manifests envs s (Ok script) makes = subst (λ (is : Imports). AreGiven (seen manifests envs) is) (sym makes.1.imports) (imports_given (seen manifests envs) s.imports)
made_loaded manifests envs s (Err fault) makes = tt

-- ---- answers

module _ (manifests : List ManifestLists) (text : Bytes) (envs : Envs) where
  pub plan_made : (s : Said) (r : Result LoadedScript ResolveFault) → said_from 1 nothing_said (lines text) ≡ Ok s → Makes envs.seeds s r → IsSaid r → PlanLoads manifests text envs r
  plan_made s (Ok script) says makes said = loaded s script (says_sound 1 nothing_said (lines text) (Ok s) says) makes.0 makes.1 refl
  plan_made s (Err (refusal.HashCollision held new)) says makes said = collided s makes.0 held new (says_sound 1 nothing_said (lines text) (Ok s) says) makes.1 makes.2 refl
  plan_made s (Err refusal.OutOfMemory) says makes said = absurd said
  plan_made s (Err (refusal.Fault fault)) says makes said = absurd makes

  pub plan_stopped : (stop : Unsaid) (fault : ResolveFault) → StopsSo stop (said_from 1 nothing_said (lines text)) → StopsLoading stop fault → IsSaid {A = LoadedScript} (Err fault) → PlanLoads manifests text envs (Err fault)
  plan_stopped (unsaid.Fault told) fault says stops said = failed told (says_sound 1 nothing_said (lines text) (Err told) says) (ap (λ (f : ResolveFault). let r : Result LoadedScript ResolveFault = Err f in r) stops)
  plan_stopped unsaid.Memory fault says stops said = absurd (subst (λ (f : ResolveFault). IsSaid {A = LoadedScript} (Err f)) stops said)

-- ---- answers are alike

abbrev Answer : Type 0
Answer = Result Said Bytes

same_said : (s t : Said) → ◌≡◌ {A = Answer} (Ok s) (Ok t) → s ≡ t
same_said s t e = cc

same_fault : (a b : Bytes) → ◌≡◌ {A = Answer} (Err a) (Err b) → a ≡ b
same_fault a b e = cc

not_both : (s : Said) (b : Bytes) → ◌≡◌ {A = Answer} (Ok s) (Err b) → ⊥
not_both s b e = absurd cc

-- no two keys of an imported module both clash and don't
never_both : (seeds : Seeds) (defs : List ScriptFuncDef) (held new : Key) → IsApart seeds defs → ClashIn seeds defs held new → ⊥
never_both seeds defs held new apart (inl c) =
    let m = import_of seeds defs in
    let none : NoneClash seeds (keys_of m.own.eager) = subst (λ (t : Seeds). NoneClash t (keys_of m.own.eager)) (scripts_seeds None defs (empty_module seeds)) (none_clash m.own.seeds (keys_of m.own.eager) apart.0) in
    none held new c
never_both seeds defs held new apart (inr c) = apart.1 held new c

never_some : (seeds : Seeds) (imports : ImportedScripts) (i : Bytes × List ScriptFuncDef) (held new : Key) → AreApart seeds imports → Contains imports i → ClashIn seeds i.1 held new → ⊥
never_some seeds imports i held new apart at clash = never_both seeds i.1 held new (All-contains (λ j. IsApart seeds j.1) imports i (All-from_recursion (λ j. IsApart seeds j.1) imports apart) at) clash

same_script : (seeds : Seeds) (s t : Said) (a b : LoadedScript) → s ≡ t → IsScript seeds s a → IsScript seeds t b → IsSameScript a b
same_script seeds s t a b same is other = record {
  scope = is.scope ∙ ap (λ (u : Said). u.scope) same ∙ sym other.scope;
  imports = is.imports ∙ ap (λ (u : Said). imports_of seeds u.imports) same ∙ sym other.imports;
  functions = is.functions ∙ ap (λ (u : Said). u.functions) same ∙ sym other.functions;
  source = is.source ∙ sym other.source;
  doc = is.doc ∙ ap (λ (u : Said). u.doc) same ∙ sym other.doc;
}

module _ (manifests : List ManifestLists) (text : Bytes) (envs : Envs) (q r : Result LoadedScript ResolveFault) where
  one_said : (a b : Answer) → Says text a → Says text b → a ≡ b
  one_said a b says other = says_one 1 nothing_said (lines text) a b says other

  pub answers_alike : PlanLoads manifests text envs q → PlanLoads manifests text envs r → AreAlike q r
  answers_alike (loaded s a says apart is e) (loaded t b others clear script f) = rw (e, f) (same_script envs.seeds s t a b (same_said s t (one_said (Ok s) (Ok t) says others)) is script)
  answers_alike (loaded s a says apart is e) (collided t i held new others at clash f) =
      let same = same_said s t (one_said (Ok s) (Ok t) says others) in
      absurd (never_some envs.seeds t.imports i held new (subst (λ (u : Said). AreApart envs.seeds u.imports) same apart) at clash)
  answers_alike (loaded s a says apart is e) (failed told others f) = absurd (not_both s told (one_said (Ok s) (Err told) says others))
  answers_alike (collided s i held new says at clash e) (loaded t b others clear script f) =
      let same = same_said s t (one_said (Ok s) (Ok t) says others) in
      absurd (never_some envs.seeds s.imports i held new (subst (λ (u : Said). AreApart envs.seeds u.imports) (sym same) clear) at clash)
  answers_alike (collided s i held new says at clash e) (collided t j other added others there found f) = rw (e, f) tt
  answers_alike (collided s i held new says at clash e) (failed told others f) = absurd (not_both s told (one_said (Ok s) (Err told) says others))
  answers_alike (failed told says e) (loaded t b others clear script f) = absurd (not_both t told (one_said (Ok t) (Err told) others says))
  answers_alike (failed told says e) (collided t j other added others there found f) = absurd (not_both t told (one_said (Ok t) (Err told) others says))
  answers_alike (failed told says e) (failed tale others f) = rw (e, f) (ap failed_with (same_fault told tale (one_said (Err told) (Err tale) says others)))
