-- Why a native isn't registered: what is known beforehand, put before what the module says.
use Rattle.std.proofs.Common.{◌≡◌, Bool, not, ◌||◌, nat_lt, List, [], ◌∷◌, length, map, refl, sym, ap, subst, ◌∙◌}
use Rattle.std.specs.Prelude.{Option, Some, None, Result, Err, IfOk, slice_get, unwrap_or}
use Rattle.std.specs.Option.{option_or}
use Rattle.std.proofs.lemmas.List.{length-map}
use Rattle.rhd_value.specs.Firsts.{first_some, where_holds}
use Rattle.rhd_value.specs.declared.tag.FnId.{FnId}
use Rattle.rhd_value.specs.declared.tag.TypeTag.{TypeTag}
use Rattle.rhd_hash.specs.declared.key.Key.{Key}
use Rattle.rhd_func.specs.Natives.{NativeInfo}
use Rattle.rhd_func.specs.Funcs.{native_of, is_method, is_iter, is_script}
use Rattle.rhd_func.specs.declared.func.RhaiFunc.{RhaiFunc}
use Rattle.rhd_decl.specs.declared.declaration.Declaration.{Declaration}
use Rattle.rhd_decl.specs.declared.metadata.FuncMetadata.{FuncMetadata}
use Rattle.rhd_decl.specs.declared.fault.DeclFault.{DeclFault}
use Rattle.rhd_decl.specs.declared.fault.DeclFault.TheVariants.{NotCallable, UnknownNumber}
use Rattle.rhd_decl.specs.declared.registration.FuncRegistration.{FuncRegistration}
use Rattle.rhd_module.specs.Tree.{ModuleTree}
use Rattle.rhd_decl.specs.NativeKeys.{native_key}
use Rattle.rhd_module.specs.Registered.{Puts, Registers, RegistersRaw}
use Rattle.rhd_decl.specs.Registration.{unheld, banned, no_info, native_at, native_decl, registered_decl}
use Rattle.rhd_decl.proofs.Numbers.{where_not, where_so, is_held, not_held, says_nothing}

or_none : {A : Type 0} (o : Option A) → option_or o None ≡ o
or_none None = refl
or_none (Some x) = refl

module _ {A : Type 0} (k : Key) (d : Declaration) (old new : ModuleTree) where
  -- the causes of the types come after others that don't hold
  pub puts_after : (a b c : Option DeclFault) (r : Result A DeclFault) → first_some (a ∷ b ∷ []) ≡ None → Puts c k d old r new → Puts (first_some (a ∷ b ∷ c ∷ [])) k d old r new
  puts_after None None c r e puts = subst (λ (o : Option DeclFault). Puts o k d old r new) (sym (or_none c)) puts
  puts_after None (Some b) c r e puts = absurd cc
  puts_after (Some a) b c r e puts = absurd cc

  pub puts_after_one : (a c : Option DeclFault) (r : Result A DeclFault) → a ≡ None → Puts c k d old r new → Puts (first_some (a ∷ c ∷ [])) k d old r new
  puts_after_one None c r e puts = subst (λ (o : Option DeclFault). Puts o k d old r new) (sym (or_none c)) puts
  puts_after_one (Some a) c r e puts = absurd cc

-- a native that is held is registered as it says of itself
pub held_registers : {A : Type 0} (infos : List NativeInfo) (reg : FuncRegistration) (id : FnId) (old new : ModuleTree) (r : Result A DeclFault) (info : NativeInfo) → slice_get infos id.0 ≡ Some info
    → Puts (banned info.is_method reg.name info.types) (native_key info.is_method reg.name info.types) (registered_decl old.own.seeds reg info id) old r new → Registers infos reg id old r new
held_registers {A} infos reg id old new r info held puts =
    let is : info ≡ native_at infos id = sym (ap (λ (o : Option NativeInfo). unwrap_or o no_info) held) in
    let free : unheld infos (Some id) ≡ None = where_not (not (nat_lt id.0 (length infos))) (UnknownNumber id.0 (length infos)) (ap not (is_held infos id.0 info held)) in
    let P : NativeInfo → Type 0 = λ i. Puts (banned i.is_method reg.name i.types) (native_key i.is_method reg.name i.types) (registered_decl old.own.seeds reg i id) old r new in
    let there : NativeInfo = native_at infos id in
    puts_after_one (native_key there.is_method reg.name there.types) (registered_decl old.own.seeds reg there id) old new (unheld infos (Some id)) (banned there.is_method reg.name there.types) r free (subst P is puts)

pub held_metadata : (infos : List NativeInfo) (reg : FuncRegistration) (id : FnId) (old : ModuleTree) (r : Result FuncMetadata DeclFault) (info : NativeInfo) → slice_get infos id.0 ≡ Some info
    → IfOk r (λ m. m ≡ (registered_decl old.own.seeds reg info id).metadata) → IfOk r (λ m. m ≡ (registered_decl old.own.seeds reg (native_at infos id) id).metadata)
held_metadata infos reg id old r info held said =
    let is : info ≡ native_at infos id = sym (ap (λ (o : Option NativeInfo). unwrap_or o no_info) held) in
    let P : NativeInfo → Type 0 = λ i. IfOk r (λ m. m ≡ (registered_decl old.own.seeds reg i id).metadata) in
    subst P is said

-- of a number that isn't held, nothing is registered
pub unheld_registers : (A : Type 0) (infos : List NativeInfo) (reg : FuncRegistration) (id : FnId) (old new : ModuleTree) → slice_get infos id.0 ≡ None → new ≡ old
    → Registers {A = A} infos reg id old (Err (UnknownNumber id.0 (length infos))) new
unheld_registers A infos reg id old new none same =
    let there : NativeInfo = native_at infos id in
    (ap (λ (o : Option DeclFault). first_some (o ∷ banned there.is_method reg.name there.types ∷ [])) (where_so (not (nat_lt id.0 (length infos))) (UnknownNumber id.0 (length infos)) (ap not (not_held infos id.0 none))), same)

pub unheld_fault : (A : Type 0) {N : Type 0} (view : N → NativeInfo) (items : List N) (reg : FuncRegistration) (id : FnId) (old new : ModuleTree) (fault : DeclFault) → slice_get items id.0 ≡ None
    → fault ≡ UnknownNumber id.0 (length items) → new ≡ old → Registers {A = A} (map view items) reg id old (Err fault) new
unheld_fault A view items reg id old new fault none is same =
    let P : DeclFault → Type 0 = λ f. Registers {A = A} (map view items) reg id old (Err f) new in
    subst P (sym (is ∙ ap (UnknownNumber id.0) (sym (length-map items view)))) (unheld_registers A (map view items) reg id old new (says_nothing view items id.0 none) same)

-- a function that is registered raw, and isn't refused beforehand
pub raw_registers : {A : Type 0} (infos : List NativeInfo) (reg : FuncRegistration) (types : List TypeTag) (f : RhaiFunc) (old new : ModuleTree) (r : Result A DeclFault) (method : Bool) → method ≡ is_method infos f
    → first_some (unheld infos (native_of f) ∷ where_holds (is_iter f || is_script f) NotCallable ∷ []) ≡ None
    → Puts (banned method reg.name types) (native_key method reg.name types) (native_decl old.own.seeds reg method types f) old r new → RegistersRaw infos reg types f old r new
raw_registers {A} infos reg types f old new r method is free puts =
    let P : Bool → Type 0 = λ m. Puts (banned m reg.name types) (native_key m reg.name types) (native_decl old.own.seeds reg m types f) old r new in
    let m : Bool = is_method infos f in
    puts_after (native_key m reg.name types) (native_decl old.own.seeds reg m types f) old new (unheld infos (native_of f)) (where_holds (is_iter f || is_script f) NotCallable) (banned m reg.name types) r free (subst P is puts)

pub raw_metadata : (infos : List NativeInfo) (reg : FuncRegistration) (types : List TypeTag) (f : RhaiFunc) (old : ModuleTree) (r : Result FuncMetadata DeclFault) (method : Bool) → method ≡ is_method infos f
    → IfOk r (λ m. m ≡ (native_decl old.own.seeds reg method types f).metadata) → IfOk r (λ m. m ≡ (native_decl old.own.seeds reg (is_method infos f) types f).metadata)
raw_metadata infos reg types f old r method is said =
    let P : Bool → Type 0 = λ m. IfOk r (λ x. x ≡ (native_decl old.own.seeds reg m types f).metadata) in
    subst P is said
