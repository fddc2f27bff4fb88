-- A change of the first of some modules.
use Rattle.std.proofs.Common.{◌≡◌, ◌<◌, List, [], ◌∷◌, length, get_or, refl, ap, subst, ◌∙◌, arith}
use Rattle.std.specs.Prelude.{Result, IfOk, slice_set}
use Rattle.std.proofs.lemmas.Result.{IfOk-weaker}
use Rattle.rhd_value.specs.declared.tag.FnId.{FnId}
use Rattle.rhd_value.specs.declared.tag.TypeTag.{TypeTag}
use Rattle.rhd_func.specs.declared.func.RhaiFunc.{RhaiFunc}
use Rattle.rhd_func.specs.Natives.{NativeInfo}
use Rattle.rhd_decl.specs.declared.fault.DeclFault.{DeclFault}
use Rattle.rhd_decl.specs.declared.registration.FuncRegistration.{FuncRegistration}
use Rattle.rhd_module.specs.Tree.{ModuleTree}
use Rattle.rhd_decl.specs.declared.metadata.FuncMetadata.{FuncMetadata}
use Rattle.rhd_module.specs.Registered.{Registers, RegistersBoth, RegistersRaw}
use Rattle.rhd_decl.specs.Registration.{native_at, registered_decl}
use Rattle.rhd_layers.specs.FirstModule.{InFirst, RegistersFirst, RegistersBothFirst, RegistersRawFirst, FirstTells}

-- the first of some modules, set anew, goes as it is told
goes_first : (goes : ModuleTree → ModuleTree → Type 0) (ms : List ModuleTree) (m new : ModuleTree) → 0 < length ms → m ≡ get_or ms 0 m → goes m new → InFirst goes ms (slice_set ms 0 new)
goes_first goes [] m new h is e = absurd (omega arith)
goes_first goes (x ∷ ms) m new h is e = (new, subst (λ (y : ModuleTree). goes y new) is e, refl)

goes_first_in : (goes : ModuleTree → ModuleTree → Type 0) (ms all : List ModuleTree) (m new : ModuleTree) → ms ≡ all → 0 < length all → m ≡ get_or ms 0 m → goes m new → InFirst goes all (slice_set ms 0 new)
goes_first_in goes ms all m new same h is e =
    let n : length ms ≡ length all = ap length same in
    let some : 0 < length ms = omega (arith, n, h) in
    subst (λ (old : List ModuleTree). InFirst goes old (slice_set ms 0 new)) same (goes_first goes ms m new some is e)

pub registers_first : {A : Type 0} (natives : List NativeInfo) (reg : FuncRegistration) (id : FnId) (r : Result A DeclFault) (ms all : List ModuleTree) (m new : ModuleTree) → ms ≡ all → 0 < length all → m ≡ get_or ms 0 m → Registers natives reg id m r new → RegistersFirst natives reg id all r (slice_set ms 0 new)
registers_first natives reg id r ms all m new = goes_first_in (λ m changed. Registers natives reg id m r changed) ms all m new

pub registers_raw_first : {A : Type 0} (natives : List NativeInfo) (reg : FuncRegistration) (types : List TypeTag) (func : RhaiFunc) (r : Result A DeclFault) (ms all : List ModuleTree) (m new : ModuleTree) → ms ≡ all → 0 < length all → m ≡ get_or ms 0 m → RegistersRaw natives reg types func m r new
    → RegistersRawFirst natives reg types func all r (slice_set ms 0 new)
registers_raw_first natives reg types func r ms all m new = goes_first_in (λ m changed. RegistersRaw natives reg types func m r changed) ms all m new

pub registers_both_first : {A : Type 0} (natives : List NativeInfo) (get_reg : FuncRegistration) (get : FnId) (set_reg : FuncRegistration) (set : FnId) (r : Result A DeclFault) (ms all : List ModuleTree) (m new : ModuleTree) → ms ≡ all → 0 < length all → m ≡ get_or ms 0 m
    → RegistersBoth natives get_reg get set_reg set m r new → RegistersBothFirst natives get_reg get set_reg set all r (slice_set ms 0 new)
registers_both_first natives get_reg get set_reg set r ms all m new = goes_first_in (λ m changed. RegistersBoth natives get_reg get set_reg set m r changed) ms all m new

-- what is told of it
tells_at : (natives : List NativeInfo) (reg : FuncRegistration) (id : FnId) (ms : List ModuleTree) (m : ModuleTree) (metadata : FuncMetadata) → 0 < length ms → m ≡ get_or ms 0 m → metadata ≡ (registered_decl m.own.seeds reg (native_at natives id) id).metadata → FirstTells natives reg id ms metadata
tells_at natives reg id [] m metadata h is e = absurd (omega arith)
tells_at natives reg id (x ∷ ms) m metadata h is e = e ∙ ap (λ (y : ModuleTree). (registered_decl y.own.seeds reg (native_at natives id) id).metadata) is

pub first_tells : (natives : List NativeInfo) (reg : FuncRegistration) (id : FnId) (r : Result FuncMetadata DeclFault) (ms all : List ModuleTree) (m : ModuleTree) → ms ≡ all → 0 < length all → m ≡ get_or ms 0 m
    → IfOk r (λ metadata. metadata ≡ (registered_decl m.own.seeds reg (native_at natives id) id).metadata) → IfOk r (FirstTells natives reg id all)
first_tells natives reg id r ms all m same h is =
    let n : length ms ≡ length all = ap length same in
    let some : 0 < length ms = omega (arith, n, h) in
    IfOk-weaker r _ (FirstTells natives reg id all) (λ metadata e. subst (λ (old : List ModuleTree). FirstTells natives reg id old metadata) same (tells_at natives reg id ms m metadata some is e))
