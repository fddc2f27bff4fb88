-- Two natives that are registered, both or none.
use Rattle.std.proofs.Common.{◌≡◌, List, [], ◌∷◌, refl, sym, subst, ◌∙◌}
use Rattle.std.specs.Prelude.{Option, Some, None, Ok, Err}
use Rattle.rhd_value.specs.Firsts.{first_some}
use Rattle.rhd_value.specs.declared.tag.FnId.{FnId}
use Rattle.rhd_hash.specs.declared.key.Key.{Key}
use Rattle.rhd_hash.specs.declared.mixer.Seeds.{Seeds}
use Rattle.rhd_func.specs.Natives.{NativeInfo}
use Rattle.rhd_decl.specs.declared.declaration.Declaration.{Declaration}
use Rattle.rhd_decl.specs.declared.fault.DeclFault.{DeclFault}
use Rattle.rhd_decl.specs.declared.fault.DeclFault.TheVariants.{HashCollision, IndexerNotAllowed, NotCallable, UnknownNumber, OutOfMemory}
use Rattle.rhd_module.specs.Tree.{ModuleTree}
use Rattle.rhd_decl.specs.declared.registration.FuncRegistration.{FuncRegistration}
use Rattle.rhd_decl.specs.NativeKeys.{native_key}
use Rattle.rhd_table.specs.Pairs.{put}
use Rattle.rhd_module.specs.Registered.{Puts, PutsBoth, Registers, RegistersBoth, with_decl}
use Rattle.rhd_decl.specs.Registration.{native_at, registered_decl, registration_cause, pair_cause}
use Rattle.rhd_table.proofs.Puts.{kept}

-- where nothing refuses a pair, nothing refuses its first half
pub pair_first : (u v b c : Option DeclFault) → first_some (u ∷ v ∷ b ∷ c ∷ []) ≡ None → first_some (u ∷ b ∷ []) ≡ None
pair_first None None None c e = refl
pair_first None None (Some x) c e = absurd cc
pair_first None (Some x) b c e = absurd cc
pair_first (Some x) v b c e = absurd cc

module _ (k l : Key) (d : Declaration) (e : Seeds → Declaration) (old new : ModuleTree) where
  -- what refuses the first of two
  pub first_refused : (A B : Type 0) (cause first : Option DeclFault) (fault : DeclFault) (between : ModuleTree) → cause ≡ None → first ≡ None → Puts {A = A} first k d old (Err fault) between → new ≡ old
      → PutsBoth {A = B} cause k d l (e old.own.seeds) old (Err fault) new
  first_refused A B cause first (HashCollision held other) between none free (told, clashing, back) same =
      let table = put k d old.own.eager in
      (none, record { held_there = kept l held (e old.own.seeds) table clashing.held_there; new_there = kept l other (e old.own.seeds) table clashing.new_there; clash = clashing.clash }, same)
  first_refused A B cause first (IndexerNotAllowed key) between none free (is, back) same = absurd (let x : None ≡ Some (IndexerNotAllowed key) = sym free ∙ is in cc)
  first_refused A B cause first NotCallable between none free (is, back) same = absurd (let x : None ≡ Some NotCallable = sym free ∙ is in cc)
  first_refused A B cause first (UnknownNumber n m) between none free (is, back) same = absurd (let x : None ≡ Some (UnknownNumber n m) = sym free ∙ is in cc)
  first_refused A B cause first OutOfMemory between none free puts same = same

pub getter_refused : (A B : Type 0) (infos : List NativeInfo) (get_reg : FuncRegistration) (get : FnId) (set_reg : FuncRegistration) (set : FnId) (old copy between new : ModuleTree) (fault : DeclFault)
    → pair_cause infos get_reg.name get set_reg.name set ≡ None → copy ≡ old → Registers {A = A} infos get_reg get copy (Err fault) between → new ≡ old
    → RegistersBoth {A = B} infos get_reg get set_reg set old (Err fault) new
getter_refused A B infos get_reg get set_reg set old copy between new fault none is puts same =
    let getter : NativeInfo = native_at infos get in
    let setter : NativeInfo = native_at infos set in
    first_refused (native_key getter.is_method get_reg.name getter.types) (native_key setter.is_method set_reg.name setter.types) (registered_decl old.own.seeds get_reg getter get) (λ (s : Seeds). registered_decl s set_reg setter set) old new A B
    (pair_cause infos get_reg.name get set_reg.name set) (registration_cause infos get_reg.name get) fault between none (pair_first _ _ _ _ none) (subst (λ (m : ModuleTree). Registers {A = A} infos get_reg get m (Err fault) between) is puts) same

-- and nothing refuses its second half
pub pair_second : (u v b c : Option DeclFault) → first_some (u ∷ v ∷ b ∷ c ∷ []) ≡ None → first_some (v ∷ c ∷ []) ≡ None
pair_second None None None None e = refl
pair_second None None None (Some x) e = absurd cc
pair_second None None (Some x) c e = absurd cc
pair_second None (Some x) b c e = absurd cc
pair_second (Some x) v b c e = absurd cc

module _ (k l : Key) (d : Declaration) (e : Seeds → Declaration) (old new : ModuleTree) where
  -- what refuses the second of two, once the first is put
  pub second_refused : (A B : Type 0) (cause second : Option DeclFault) (fault : DeclFault) (after : ModuleTree) → cause ≡ None → second ≡ None → Puts {A = A} second l (e old.own.seeds) (with_decl k d old) (Err fault) after → new ≡ old
      → PutsBoth {A = B} cause k d l (e old.own.seeds) old (Err fault) new
  second_refused A B cause second (HashCollision held other) after none free (told, clashing, back) same = (none, clashing, same)
  second_refused A B cause second (IndexerNotAllowed key) after none free (is, back) same = absurd (let x : None ≡ Some (IndexerNotAllowed key) = sym free ∙ is in cc)
  second_refused A B cause second NotCallable after none free (is, back) same = absurd (let x : None ≡ Some NotCallable = sym free ∙ is in cc)
  second_refused A B cause second (UnknownNumber n m) after none free (is, back) same = absurd (let x : None ≡ Some (UnknownNumber n m) = sym free ∙ is in cc)
  second_refused A B cause second OutOfMemory after none free puts same = same

pub setter_refused : (A B C : Type 0) (infos : List NativeInfo) (get_reg : FuncRegistration) (get : FnId) (set_reg : FuncRegistration) (set : FnId) (old copy between after new : ModuleTree) (answer : A) (fault : DeclFault)
    → pair_cause infos get_reg.name get set_reg.name set ≡ None → copy ≡ old → Registers {A = A} infos get_reg get copy (Ok answer) between → Registers {A = C} infos set_reg set between (Err fault) after → new ≡ old
    → RegistersBoth {A = B} infos get_reg get set_reg set old (Err fault) new
setter_refused A B C infos get_reg get set_reg set old copy between after new answer fault none is first second same =
    let getter : NativeInfo = native_at infos get in
    let setter : NativeInfo = native_at infos set in
    let k : Key = native_key getter.is_method get_reg.name getter.types in
    let d : Declaration = registered_decl old.own.seeds get_reg getter get in
    let put_first = subst (λ (m : ModuleTree). Registers {A = A} infos get_reg get m (Ok answer) between) is first in
    let put_second = subst (λ (m : ModuleTree). Registers {A = C} infos set_reg set m (Err fault) after) put_first.2 second in
    second_refused k (native_key setter.is_method set_reg.name setter.types) d (λ (s : Seeds). registered_decl s set_reg setter set) old new C B
    (pair_cause infos get_reg.name get set_reg.name set) (registration_cause infos set_reg.name set) fault after none (pair_second _ _ _ _ none) put_second same
