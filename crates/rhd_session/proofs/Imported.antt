-- Imports by their paths: what a resolver is asked, and what is held after it.
use Rattle.std.proofs.Common.{◌≡◌, ℕ, true, false, ◌&&◌, List, [], ◌∷◌, ◌++◌, refl, sym, ap, subst, ◌∙◌}
use Rattle.std.specs.Prelude.{Option, None, Some, Result, Ok, Err, IfOk, OnErr, is_err}
use Rattle.std.proofs.lemmas.List.Folds.{list_all-append}
use Rattle.rhd_value.specs.Tree.{Bytes}
use Rattle.rhd_value.specs.declared.tag.Position.{Position}
use Rattle.rhd_value.specs.declared.memory.OutOfMemory.{OutOfMemory}
use Rattle.rhd_hash.specs.declared.mixer.Seeds.{Seeds}
use Rattle.rhd_manifest.specs.Manifest.{ManifestLists}
use Rattle.rhd_module.specs.Tree.{ModuleTree}
use Rattle.rhd_engine.specs.Engine.{Frame, Imports}
use Rattle.rhd_engine.specs.Held.{names_held, all_held, named_held}
use Rattle.rhd_layers.specs.Lists.{with_last, Popped}
use Rattle.rhd_layers.proofs.Bools.{both, parts}
use Rattle.rhd_layers.proofs.Indexed.{all_last}
use Rattle.rhd_call.specs.declared.reply.Reply.{Reply}
use Rattle.rhd_call.specs.declared.reply.Reply.TheVariants.{Done, Fault, Refused}
use Rattle.rhd_decl.specs.declared.fault.DeclFault.TheVariants.{HashCollision}
use Rattle.rhd_resolve.specs.declared.environs.EncapsulatedEnviron.{EncapsulatedEnviron}
use Rattle.rhd_resolve.specs.declared.fault.ResolveFault.{ResolveFault}
use Rattle.rhd_resolve.specs.declared.fault.ResolveFault.TheVariants as refusal
use Rattle.rhd_resolve.specs.Asked.{Asked, asked, UnlessNoMemory}
use Rattle.rhd_resolve.specs.Environs.{Envs}
use Rattle.rhd_resolve.specs.File.{FileState, AllowsLoad, FileResolves, OnlyRead}
use Rattle.rhd_resolve.specs.Sessions.{Seen, AreGiven, IsMadeEnv, Adds, adds_nothing, adds_one, seen}
use Rattle.rhd_machine.specs.Held.{frame_held, environ_held, environs_held}
use Rattle.rhd_machine.specs.World.{World}
use Rattle.rhd_session.specs.Commands.{but_last}
use Rattle.rhd_session.specs.Changing.{EndsImport}
use Rattle.rhd_session.specs.State.{SessionState, envs_of, asked_for, Stays}
use Rattle.rhd_session.specs.Answered.{ImportsPath, imported, faulted, clashed}

-- modules that may be given name natives that are held
given_held : (s : Seen) (imports : Imports) → AreGiven s imports → named_held s.natives imports ≡ true
given_held s [] given = refl
given_held s (i ∷ imports) given = both (names_held s.natives i.1) (named_held s.natives imports) given.0.made.natives (given_held s imports given.1)

env_held : (s : Seen) (e : EncapsulatedEnviron) → IsMadeEnv s e → environ_held s.natives e ≡ true
env_held s e made = both (names_held s.natives e.lib) (named_held s.natives e.imports) made.lib.natives (given_held s e.imports made.imports)

one_held : (n : ℕ) (envs : List EncapsulatedEnviron) (e : EncapsulatedEnviron) → environ_held n e ≡ true → environs_held n envs ≡ true → environs_held n (envs ++ e ∷ []) ≡ true
one_held n envs e here all = list_all-append (environ_held n) envs (e ∷ []) ∙ both (environs_held n envs) (environ_held n e && true) all (both (environ_held n e) true here refl)

-- so do the environments that a resolver leaves
pub adds_held : (n : ℕ) (table : List ManifestLists) (old new : Envs) → old.natives ≡ n → Adds table old new → environs_held n old.items ≡ true → environs_held n new.items ≡ true
adds_held n table old new count (adds_nothing is) held = subst (λ (e : Envs). environs_held n e.items ≡ true) (sym is) held
adds_held n table old new count (adds_one {e = e} is made) held =
    let counted : new.natives ≡ n = ap (λ (x : Envs). x.natives) is ∙ count in
    let here : environ_held n e ≡ true = subst (λ (k : ℕ). environ_held k e ≡ true) counted (env_held (seen table new) e made) in
    subst (λ (x : Envs). environs_held n x.items ≡ true) (sym is) (one_held n old.items e here held)

-- they have the same seeds and counts
pub adds_same : (table : List ManifestLists) (old new : Envs) → Adds table old new → new ≡ record old { items = new.items }
adds_same table old new (adds_nothing is) = λ i. record (is i) { items = new.items }
adds_same table old new (adds_one {e = e} is made) = λ i. record (is i) { items = new.items }

-- the environments of a session, as a resolver gets them
pub envs_here : (e : Envs) (seeds : Seeds) (natives iterators : ℕ) → e.seeds ≡ seeds → e.natives ≡ natives → e.iterators ≡ iterators → e ≡ record { seeds = seeds; natives = natives; iterators = iterators; items = e.items }
envs_here e seeds natives iterators a b c = λ i. record { seeds = a i; natives = b i; iterators = c i; items = e.items }

-- a file resolver is asked for what stands in the world and the frame
pub asked_here : (load : AllowsLoad) (old new : FileState) (table : List ManifestLists) (e0 e1 f0 f1 : Envs) (source here : Option Bytes) (path : Bytes) (pos at : Position) (r : Result ModuleTree ResolveFault)
    → e0 ≡ f0 → e1 ≡ f1 → source ≡ here → pos ≡ at → UnlessNoMemory r (FileResolves load old (asked table e0 source path pos) r e1 new) → UnlessNoMemory r (FileResolves load old (asked table f0 here path at) r f1 new)
asked_here load old new table e0 e1 f0 f1 source here path pos at r a b c d resolves said =
    subst (λ (x : Envs). FileResolves load old (asked table x here path at) r f1 new) a
    (subst (λ (x : Envs). FileResolves load old (asked table e0 here path at) r x new) b
    (subst (λ (x : Option Bytes). FileResolves load old (asked table e0 x path at) r e1 new) c
    (subst (λ (x : Position). FileResolves load old (asked table e0 source path x) r e1 new) d (resolves said))))

-- the module in the last place is held, and so are the imports without the last
pub last_held : (n : ℕ) (es : Imports) (m : ModuleTree) → names_held n m ≡ true → named_held n es ≡ true → named_held n (with_last m es) ≡ true
last_held n es m here all = all_last (names_held n) es m here all

pub frame_last : (n : ℕ) (f : Frame) (m : ModuleTree) → names_held n m ≡ true → frame_held n f ≡ true → frame_held n (record f { imports = with_last m f.imports }) ≡ true
frame_last n f m here all =
    let p = parts (all_held n f.lib) (named_held n f.imports) all in
    both (all_held n f.lib) (named_held n (with_last m f.imports)) p.0 (last_held n f.imports m here p.1)

-- what is behind the imports that were there
pub last_placed : (es : Imports) (name : Bytes) (held m : ModuleTree) → with_last m (es ++ (name, held) ∷ []) ≡ es ++ (name, m) ∷ []
last_placed [] name held m = refl
last_placed (e ∷ []) name held m = refl
last_placed (e ∷ d ∷ es) name held m = ap (λ (rest : Imports). e ∷ rest) (last_placed (d ∷ es) name held m)

pub last_off : {A : Type 0} (es : List A) (e : A) → but_last (es ++ e ∷ []) ≡ es
last_off [] e = refl
last_off (a ∷ []) e = refl
last_off (a ∷ b ∷ es) e = ap (λ rest. a ∷ rest) (last_off (b ∷ es) e)

-- the last is taken off
pub popped_last : {A : Type 0} (old new : List A) (last : Option A) → Popped old last new → new ≡ but_last old
popped_last old new None popped = popped.1 ∙ sym (ap but_last popped.0)
popped_last old new (Some a) popped = sym (ap but_last popped ∙ last_off new a)

same_ok : {A E : Type 0} (a b : A) → ◌≡◌ {A = Result A E} (Ok a) (Ok b) → a ≡ b
same_ok a b e = cc

-- the frame with a place behind its imports
abbrev with_place : Frame → Bytes → ModuleTree → Frame
with_place f name held = record f { imports = f.imports ++ (name, held) ∷ [] }

-- An import ends as its resolver answers.
module _ (load : AllowsLoad) (w w2 : World) (f placed f2 : Frame) (old new : FileState) (name path : Bytes) (held : ModuleTree) (is : placed ≡ with_place f name held) where
  abbrev before : SessionState
  before = record { world = w; frame = f; files = old }

  abbrev after : SessionState
  after = record { world = w2; frame = f2; files = new }

  off : f2 ≡ record placed { imports = but_last placed.imports } → f2 ≡ f
  off e = e ∙ (λ i. record (is i) { imports = but_last (is i).imports }) ∙ (λ i. record f { imports = last_off f.imports (name, held) i })

  on : (m : ModuleTree) → f2 ≡ record placed { imports = with_last m placed.imports } → f2 ≡ record f { imports = f.imports ++ (name, m) ∷ [] }
  on m e = e ∙ (λ i. record (is i) { imports = with_last m (is i).imports }) ∙ (λ i. record f { imports = last_placed f.imports name held m i })

  pub import_ends : (answer : Result ModuleTree ResolveFault) (r : Result Reply OutOfMemory)
      → w2 ≡ record w { environs = w2.environs } → OnErr answer (w2 ≡ w)
      → UnlessNoMemory answer (FileResolves load old (asked_for w f path) answer (envs_of w2) new) → EndsImport placed answer r f2
      → (reply : Reply) → r ≡ Ok reply → ImportsPath load before name path reply after
  import_ends (Ok m) r grows kept resolves ends reply gave =
      let told : Done ≡ reply = same_ok Done reply (sym ends.0 ∙ gave) in
      subst (λ (x : Reply). ImportsPath load before name path x after) told
      (subst (λ (s : SessionState). ImportsPath load before name path Done s)
      (λ i. record { world = sym grows i; frame = sym (on m ends.1) i; files = new })
      (imported {m = m} {e = envs_of w2} {files = new} (resolves tt)))
  import_ends (Err (refusal.Fault fault)) r grows kept resolves ends reply gave =
      let told : Fault fault ≡ reply = same_ok (Fault fault) reply (sym ends.0 ∙ gave) in
      subst (λ (x : Reply). ImportsPath load before name path x after) told
      (subst (λ (s : SessionState). ImportsPath load before name path (Fault fault) s)
      (λ i. record { world = sym kept i; frame = sym (off ends.1) i; files = new })
      (faulted {fault = fault} {files = new} (subst (λ (x : World). FileResolves load old (asked_for w f path) (Err (refusal.Fault fault)) (envs_of x) new) kept (resolves tt))))
  import_ends (Err (refusal.HashCollision a b)) r grows kept resolves ends reply gave =
      let told : Refused (HashCollision a b) ≡ reply = same_ok (Refused (HashCollision a b)) reply (sym ends.0 ∙ gave) in
      subst (λ (x : Reply). ImportsPath load before name path x after) told
      (subst (λ (s : SessionState). ImportsPath load before name path (Refused (HashCollision a b)) s)
      (λ i. record { world = sym kept i; frame = sym (off ends.1) i; files = new })
      (clashed {held = a} {new = b} {files = new} (subst (λ (x : World). FileResolves load old (asked_for w f path) (Err (refusal.HashCollision a b)) (envs_of x) new) kept (resolves tt))))
  import_ends (Err refusal.OutOfMemory) r grows kept resolves ends reply gave = absurd (let e : false ≡ true = ap is_err (sym gave) ∙ ends.0 in cc)

  -- want of memory leaves all but that files were read
  pub import_stays : (answer : Result ModuleTree ResolveFault) (r : Result Reply OutOfMemory)
      → OnErr answer (w2 ≡ w) → OnlyRead old new → EndsImport placed answer r f2 → is_err r ≡ true → Stays before after
  import_stays (Ok m) r kept read ends failed = absurd (let e : true ≡ false = sym failed ∙ ap is_err ends.0 in cc)
  import_stays (Err (refusal.Fault fault)) r kept read ends failed = absurd (let e : true ≡ false = sym failed ∙ ap is_err ends.0 in cc)
  import_stays (Err (refusal.HashCollision a b)) r kept read ends failed = absurd (let e : true ≡ false = sym failed ∙ ap is_err ends.0 in cc)
  import_stays (Err refusal.OutOfMemory) r kept read ends failed = (kept, off ends.1, read)

-- The same from one call to the next: a place is made, the resolver is asked, and the import ends.
grown : (w0 w1 w2 w3 : World) → w1 ≡ w0 → w2 ≡ record w1 { environs = w2.environs } → w3 ≡ w2 → w3 ≡ record w0 { environs = w3.environs }
grown w0 w1 w2 w3 a b c = c ∙ b ∙ (λ i. record (a i) { environs = (sym c i).environs })

err_kept : {A E : Type 0} (r : Result A E) (w0 w1 w2 w3 : World) → w1 ≡ w0 → w3 ≡ w2 → OnErr r (w2 ≡ w1) → OnErr r (w3 ≡ w0)
err_kept (Ok x) w0 w1 w2 w3 a c kept = tt
err_kept (Err e) w0 w1 w2 w3 a c kept = c ∙ kept ∙ a

asked_there : (load : AllowsLoad) (old new : FileState) (w0 w1 w2 w3 : World) (f0 f1 : Frame) (name path : Bytes) (held : ModuleTree) (answer : Result ModuleTree ResolveFault) → w1 ≡ w0 → f1 ≡ with_place f0 name held → w3 ≡ w2
    → UnlessNoMemory answer (FileResolves load old (asked_for w1 f1 path) answer (envs_of w2) new) → UnlessNoMemory answer (FileResolves load old (asked_for w0 f0 path) answer (envs_of w3) new)
asked_there load old new w0 w1 w2 w3 f0 f1 name path held answer a p c resolves said =
    subst (λ (x : Envs). FileResolves load old (asked_for w0 f0 path) answer x new) (sym (ap envs_of c))
    (subst (λ (x : Asked). FileResolves load old x answer (envs_of w2) new) (λ i. asked_for (a i) (p i) path) (resolves said))

ok_of : {A E : Type 0} (r : Result A E) (P : A → Type 0) → ((x : A) → r ≡ Ok x → P x) → IfOk r P
ok_of (Ok x) P h = h x refl
ok_of (Err e) P h = tt

err_of : {A E P : Type 0} (r : Result A E) → (is_err r ≡ true → P) → OnErr r P
err_of (Ok x) h = tt
err_of (Err e) h = h refl

module _ (load : AllowsLoad) (w0 w1 w2 w3 : World) (f0 f1 f2 f3 : Frame) (old new : FileState) (name path : Bytes) (held : ModuleTree) (kept : w1 ≡ w0) (place : f1 ≡ with_place f0 name held) (same : f2 ≡ f1) (last : w3 ≡ w2) where
  pub path_ends : (answer : Result ModuleTree ResolveFault) (r : Result Reply OutOfMemory)
      → w2 ≡ record w1 { environs = w2.environs } → OnErr answer (w2 ≡ w1)
      → UnlessNoMemory answer (FileResolves load old (asked_for w1 f1 path) answer (envs_of w2) new) → EndsImport f2 answer r f3
      → IfOk r (λ reply. ImportsPath load (record { world = w0; frame = f0; files = old }) name path reply (record { world = w3; frame = f3; files = new }))
  path_ends answer r grows refused resolves ends =
      ok_of r _ (import_ends load w0 w3 f0 f2 f3 old new name path held (same ∙ place) answer r (grown w0 w1 w2 w3 kept grows last) (err_kept answer w0 w1 w2 w3 kept last refused)
      (asked_there load old new w0 w1 w2 w3 f0 f1 name path held answer kept place last resolves) ends)

  pub path_stays : (answer : Result ModuleTree ResolveFault) (r : Result Reply OutOfMemory)
      → OnErr answer (w2 ≡ w1) → OnlyRead old new → EndsImport f2 answer r f3
      → OnErr r (Stays (record { world = w0; frame = f0; files = old }) (record { world = w3; frame = f3; files = new }))
  path_stays answer r refused read ends =
      err_of r (import_stays load w0 w3 f0 f2 f3 old new name path held (same ∙ place) answer r (err_kept answer w0 w1 w2 w3 kept last refused) read ends)
