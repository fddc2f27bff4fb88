-- Commands on manifests, and on what modules list.
use Rattle.std.proofs.Common.{◌≡◌, ◌≤◌, ◌<◌, ℕ, Bool, true, false, not, List, [], ◌∷◌, ◌++◌, inl, inr, length, refl, sym, ap, subst, ◌∙◌, arith}
use Rattle.std.specs.Prelude.{zero, suc, Option, Some, None, Result, Ok, Err, map, if◌then◌else◌}
use Rattle.std.specs.List.{AllByRecursion, Contains}
use Rattle.std.specs.Option.{option_or, option_map}
use Rattle.std.proofs.lemmas.Bool.{lt-ltb, le-ltb}
use Rattle.std.proofs.lemmas.List.Elements.{Contains-append_left, Contains-append_right}
use Rattle.rhd_value.specs.Firsts.{where_holds}
use Rattle.rhd_value.specs.Tree.{Bytes}
use Rattle.rhd_hash.specs.declared.key.Key.{Key}
use Rattle.rhd_hash.specs.declared.mixer.Seeds.{Seeds}
use Rattle.rhd_hash.specs.Table.{Clashing}
use Rattle.rhd_func.specs.Natives.{NativeInfo}
use Rattle.rhd_func.specs.declared.access.ManifestId.{ManifestId}
use Rattle.rhd_decl.specs.declared.fault.DeclFault.{DeclFault}
use Rattle.rhd_decl.specs.declared.fault.DeclFault.TheVariants.{HashCollision, IndexerNotAllowed, NotCallable, UnknownNumber, OutOfMemory as no_memory}
use Rattle.rhd_manifest.specs.Entry.{Entry, entry_key}
use Rattle.rhd_manifest.specs.Manifest.{ManifestLists, manifest_at}
use Rattle.rhd_manifest.specs.Rank.{rank, walk}
use Rattle.rhd_module.specs.Contents.{with_sub}
use Rattle.rhd_table.specs.Indexed.{NoneClash}
use Rattle.rhd_module.specs.Lazy.{registered_tree, registered_subs, with_registered, touched, touched_below, HasApartTable, HasApartTree, RegistersTree}
use Rattle.rhd_module.specs.Below.{some_in, lists_any}
use Rattle.rhd_module.specs.Made.{with_subs, own_made, made_to, made, Makes}
use Rattle.rhd_module.specs.Manifests.{first_banned, combined, registered_pairs, AddsManifest}
use Rattle.rhd_module.specs.Tree.{ModuleTree}
use Rattle.rhd_module.specs.Walk.{tree}
use Rattle.std.specs.Map.{keys_of}
use Rattle.rhd_module.proofs.Fills.{none_clash}
use Rattle.rhd_module.proofs.LazyParts.{all_append}
use Rattle.rhd_engine.specs.Engine.{Frame}
use Rattle.rhd_engine.specs.Held.{names_held, all_held}
use Rattle.rhd_layers.proofs.Bools.{both, parts}
use Rattle.rhd_call.specs.declared.command.Command.{Command}
use Rattle.rhd_call.specs.declared.command.Command.TheVariants as commands
use Rattle.rhd_call.specs.declared.command.ModuleId.{ModuleId}
use Rattle.rhd_call.specs.declared.reply.Reply.TheVariants.{Made}
use Rattle.rhd_machine.specs.World.{World}
use Rattle.rhd_session.specs.Commands.{cause, Keyed, tree_keys, registered_keys, banned_listed}
use Rattle.rhd_session.specs.Answered.{Declares, refused, collided, done, NoClash}
use Rattle.rhd_session.specs.Changing.{ChangesModule, Goes, MadeFor, unheld_manifest}
use Rattle.rhd_session.proofs.Declared.{one_held, refused_first, goes_refused}

-- Lists.

pub contains_map : {A B : Type 0} (f : A → B) (xs : List A) (x : A) → Contains xs x → Contains (map f xs) (f x)
contains_map f [] x (i, within, is) = absurd (omega (arith, within))
contains_map f (y ∷ xs) x (zero, within, is) = (0, omega arith, ap f is)
contains_map f (y ∷ xs) x (suc i, within, is) = let h = contains_map f xs x (i, omega (arith, within), is) in (suc h.0, omega (arith, h.1), h.2)

pub all_map : {A B : Type 0} (f : A → B) (P : A → Type 0) (Q : B → Type 0) (xs : List A) → ((x : A) → P x → Q (f x)) → AllByRecursion P xs → AllByRecursion Q (map f xs)
all_map f P Q [] step all = tt
all_map f P Q (x ∷ xs) step all = (step x all.0, all_map f P Q xs step all.1)

all_each : {A : Type 0} (P : A → Type 0) (xs : List A) → ((x : A) → Contains xs x → P x) → AllByRecursion P xs
all_each P [] each = tt
all_each P (x ∷ xs) each = (each x (0, omega arith, refl), all_each P xs (λ y (i, within, is). each y (suc i, omega (arith, within), is)))

-- Banned indexers.

none_banned : (table : List ManifestLists) (id : ManifestId) → first_banned (rank table id true) ≡ None → banned_listed table id ≡ None
none_banned table id none = ap (option_map (λ e. IndexerNotAllowed (entry_key e))) none

is_banned : (table : List ManifestLists) (id : ManifestId) (key : Key) (e : Entry) → first_banned (rank table id true) ≡ Some e → key ≡ entry_key e → banned_listed table id ≡ Some (IndexerNotAllowed key)
is_banned table id key e first is = ap (option_map (λ d. IndexerNotAllowed (entry_key d))) first ∙ ap (λ (k : Key). Some (IndexerNotAllowed k)) (sym is)

-- Adding a manifest to a module.

or_none : (o : Option DeclFault) → option_or o None ≡ o
or_none None = refl
or_none (Some fault) = refl

-- the same command
same_changes : (natives : List NativeInfo) (table : List ManifestLists) (command same : Command) (old new : ModuleTree) (r : Result (Unit {0}) DeclFault) → command ≡ same
    → ChangesModule natives table same old r new → ChangesModule natives table command old r new
same_changes natives table command same old new r is does = subst (λ (c : Command). ChangesModule natives table c old r new) (sym is) does

-- adding a manifest as the command that says so
pub combine_changes : (natives : List NativeInfo) (table : List ManifestLists) (command : Command) (m : ModuleId) (id : ManifestId) (old new : ModuleTree) (r : Result (Unit {0}) DeclFault) → command ≡ commands.CombineManifest m id
    → ((natives : List NativeInfo) (m : ModuleId) → ChangesModule natives table (commands.CombineManifest m id) old r new) → ChangesModule natives table command old r new
combine_changes natives table command m id old new r is does = same_changes natives table command (commands.CombineManifest m id) old new r is (does natives m)

-- its number isn't held
pub combine_unheld : (natives : List NativeInfo) (table : List ManifestLists) (m : ModuleId) (id : ManifestId) (old : ModuleTree) (fault : DeclFault) (n h : ℕ) → fault ≡ UnknownNumber n h → n ≡ id.0 → h ≡ length table → length table ≤ id.0
    → ChangesModule natives table (commands.CombineManifest m id) old (Err fault) old
combine_unheld natives table m id old fault n h is en eh past =
    let found = ap (λ (b : Bool). option_or (where_holds (not b) (UnknownNumber id.0 (length table))) (option_or (banned_listed table id) None)) (le-ltb id.0 (length table) past) in
    subst (λ (x : DeclFault). ChangesModule natives table (commands.CombineManifest m id) old (Err x) old) (sym (is ∙ (λ i. UnknownNumber (en i) (eh i)))) (found, refl)

-- its number is held
pub combine_held : (natives : List NativeInfo) (table : List ManifestLists) (m : ModuleId) (id : ManifestId) (old new : ModuleTree) (r : Result (Unit {0}) DeclFault) → id.0 < length table
    → AddsManifest table id old (combined table id old) r new
    → ChangesModule natives table (commands.CombineManifest m id) old r new
combine_held natives table m id old new r below adds =
    by (ap (λ (b : Bool). option_or (where_holds (not b) (UnknownNumber id.0 (length table))) (option_or (banned_listed table id) None)) (lt-ltb id.0 (length table) below) ∙ or_none (banned_listed table id)) r adds
  where
    by : option_or (unheld_manifest table (Some id)) (option_or (banned_listed table id) None) ≡ banned_listed table id → (r : Result (Unit {0}) DeclFault)
        → AddsManifest table id old (combined table id old) r new → ChangesModule natives table (commands.CombineManifest m id) old r new
    by caused (Ok u) adds = (caused ∙ none_banned table id adds.0, tt, adds.1)
    by caused (Err no_memory) adds = adds.1
    by caused (Err (IndexerNotAllowed key)) adds = (caused ∙ is_banned table id key adds.0.0 adds.0.1 adds.0.2, adds.1)
    by caused (Err (HashCollision held other)) adds = absurd adds.0
    by caused (Err NotCallable) adds = absurd adds.0
    by caused (Err (UnknownNumber number count)) adds = absurd adds.0

-- Registering what is listed.

registered_seeds : (m : ModuleTree) → (registered_tree m).own.seeds ≡ m.own.seeds
registered_seeds m = by (some_in lists_any m)
  where
    by : (b : Bool) → (if b then with_registered m (registered_subs m.subs) else m).own.seeds ≡ m.own.seeds
    by true = refl
    by false = refl

abbrev registered_tree_keys : ModuleTree → Keyed
registered_tree_keys m = tree_keys (registered_tree m)

pub lazy_changes : (natives : List NativeInfo) (table : List ManifestLists) (command : Command) (m : ModuleId) (old new : ModuleTree) (r : Result (Unit {0}) DeclFault) → command ≡ commands.RegisterLazy m
    → RegistersTree old r new → ChangesModule natives table command old r new
lazy_changes natives table command m old new r is does = same_changes natives table command (commands.RegisterLazy m) old new r is (by r does)
  where
    tables : List Keyed
    tables = map registered_keys (touched old)

    trees : List Keyed
    trees = map registered_tree_keys (touched_below old.subs)

    by : (r : Result (Unit {0}) DeclFault) → RegistersTree old r new → ChangesModule natives table (commands.RegisterLazy m) old r new
    by (Ok u) does = (
      refl,
      all_append NoClash tables trees
          (all_map registered_keys HasApartTable NoClash (touched old) (λ x own. none_clash x.own.seeds (keys_of (registered_pairs x.own)) own) does.0)
          (all_map registered_tree_keys HasApartTree NoClash (touched_below old.subs) (λ x none. subst (λ (s : Seeds). NoneClash s (keys_of (tree (registered_tree x)))) (sym (registered_seeds x)) none) does.1),
      does.2,
    )
    by (Err no_memory) does = does.1
    by (Err (HashCollision held other)) (inl (x, there, clash), left) = (refl, (registered_keys x, Contains-append_left tables trees (registered_keys x) (contains_map registered_keys (touched old) x there), clash), left)
    by (Err (HashCollision held other)) (inr (x, there, clash), left) = (
      refl,
      (
        registered_tree_keys x,
        Contains-append_right tables trees (registered_tree_keys x) (contains_map registered_tree_keys (touched_below old.subs) x there),
        subst (λ (s : Seeds). Clashing s (keys_of (tree (registered_tree x))) held other) (sym (registered_seeds x)) clash,
      ),
      left,
    )
    by (Err (IndexerNotAllowed key)) does = absurd does.0
    by (Err NotCallable) does = absurd does.0
    by (Err (UnknownNumber number count)) does = absurd does.0

-- Making the module of a manifest.

subs_seeds : (module_of : ManifestId → ModuleTree) (subs : List (Bytes × ManifestId)) (m : ModuleTree) → (with_subs module_of subs m).own.seeds ≡ m.own.seeds
subs_seeds module_of [] m = refl
subs_seeds module_of (s ∷ subs) m = subs_seeds module_of subs (with_sub s.0 (module_of s.1) m)

made_seeds : (seeds : Seeds) (table : List ManifestLists) (id : ManifestId) → (made seeds table id).own.seeds ≡ seeds
made_seeds seeds table id = subs_seeds (made_to id.0 seeds table) (manifest_at table id).subs (own_made seeds table id)

module _ (w : World) (f : Frame) (id : ManifestId) where
  abbrev made_keys : ManifestId → Keyed
  made_keys i = tree_keys (made w.engine.seeds w.engine.manifests i)

  -- its number isn't held
  pub from_unheld : (fault : DeclFault) (n h : ℕ) → fault ≡ UnknownNumber n h → n ≡ id.0 → h ≡ length w.engine.manifests → length w.engine.manifests ≤ id.0 → Goes w f (commands.FromManifest id) (Err fault) w f
  from_unheld fault n h is en eh past = goes_refused w f (commands.FromManifest id) fault n h is (refused_first w f (commands.FromManifest id) id.0 (length w.engine.manifests) n h [] refl en eh past)

  caused : id.0 < length w.engine.manifests → cause w f (commands.FromManifest id) ≡ banned_listed w.engine.manifests id
  caused below =
      let held = one_held id.0 (length w.engine.manifests) below in
      ap (λ (u : Option DeclFault). option_or u (option_or (banned_listed w.engine.manifests id) None)) held ∙ or_none (banned_listed w.engine.manifests id)

  -- it is made
  pub from_made : (m : ModuleTree) → id.0 < length w.engine.manifests → Makes w.engine.seeds w.engine.manifests id (Ok m) → MadeFor w f (commands.FromManifest id) m
  from_made m below makes =
      let none = caused below ∙ none_banned w.engine.manifests id makes.0 in
      let apart = all_each (λ i. NoClash (made_keys i)) (walk w.engine.manifests id) (λ i there. subst (λ (s : Seeds). NoneClash s (made_keys i).keys) (sym (made_seeds w.engine.seeds w.engine.manifests i)) (makes.1 i there)) in
      let all = all_map made_keys (λ i. NoClash (made_keys i)) NoClash (walk w.engine.manifests id) (λ i none. none) apart in
      subst (λ (x : ModuleTree). MadeFor w f (commands.FromManifest id) x) (sym makes.2) (done none refl all)

  -- a refusal
  pub from_refused : (fault : DeclFault) → id.0 < length w.engine.manifests → Makes w.engine.seeds w.engine.manifests id (Err fault) → Goes w f (commands.FromManifest id) (Err fault) w f
  from_refused no_memory below makes = (refl, refl)
  from_refused (IndexerNotAllowed key) below makes = refused (caused below ∙ is_banned w.engine.manifests id key makes.0 makes.1 makes.2)
  from_refused (HashCollision held other) below makes =
      let clash = makes.1 in
      collided (caused below ∙ none_banned w.engine.manifests id makes.0) refl (contains_map made_keys (walk w.engine.manifests id) clash.0 clash.1)
      (subst (λ (s : Seeds). Clashing s (made_keys clash.0).keys held other) (sym (made_seeds w.engine.seeds w.engine.manifests clash.0)) clash.2)
  from_refused NotCallable below makes = absurd makes
  from_refused (UnknownNumber number count) below makes = absurd makes

-- its number is the next, and it is put last
pub made_replied : (w w2 : World) (f : Frame) (id : ManifestId) (m : ModuleTree) (number : ModuleId) → MadeFor w f (commands.FromManifest id) m → number.0 ≡ length w.modules
    → w2 ≡ record w { modules = w.modules ++ m ∷ [] } → Declares w f (commands.FromManifest id) (Made number) w2 f
made_replied w w2 f id m number made n is =
    let same : number ≡ record { 0 = length w.modules } = λ i. record { 0 = n i } in
    subst (λ (x : ModuleId). Declares w f (commands.FromManifest id) (Made x) w2 f) (sym same)
    (subst (λ (x : World). Declares w f (commands.FromManifest id) (Made (record { 0 = length w.modules })) x f) (sym is) made)

-- a held module is put last
last_held : (n : ℕ) (ms : List ModuleTree) (m : ModuleTree) → all_held n ms ≡ true → names_held n m ≡ true → all_held n (ms ++ m ∷ []) ≡ true
last_held n [] m all h = both (names_held n m) true h refl
last_held n (x ∷ ms) m all h = let p = parts (names_held n x) (all_held n ms) all in both (names_held n x) (all_held n (ms ++ m ∷ [])) p.0 (last_held n ms m p.1 h)

-- or it isn't
pub last_or_not : (n : ℕ) (put : Bool) (ms new : List ModuleTree) (m : ModuleTree) → new ≡ (if put then ms ++ m ∷ [] else ms) → all_held n ms ≡ true → names_held n m ≡ true → all_held n new ≡ true
last_or_not n true ms new m is all h = ap (all_held n) is ∙ last_held n ms m all h
last_or_not n false ms new m is all h = ap (all_held n) is ∙ all
