-- What is registered in the first of some modules.
use Rattle.std.specs.Prelude.{◌≡◌, List, [], ◌∷◌, Result}
use Rattle.rhd_value.specs.declared.tag.FnId.{FnId}
use Rattle.rhd_value.specs.declared.tag.TypeTag.{TypeTag}
use Rattle.rhd_func.specs.Natives.{NativeInfo}
use Rattle.rhd_func.specs.declared.func.RhaiFunc.{RhaiFunc}
use Rattle.rhd_decl.specs.declared.fault.DeclFault.{DeclFault}
use Rattle.rhd_decl.specs.declared.metadata.FuncMetadata.{FuncMetadata}
use Rattle.rhd_decl.specs.declared.registration.FuncRegistration.{FuncRegistration}
use Rattle.rhd_module.specs.Tree.{ModuleTree}
use Rattle.rhd_module.specs.Registered.{Registers, RegistersBoth, RegistersRaw}
use Rattle.rhd_decl.specs.Registration.{native_at, registered_decl}

-- the first of some modules changed
abbrev pub in_first : (ModuleTree → ModuleTree) → List ModuleTree → List ModuleTree
in_first change [] = []
in_first change (m ∷ ms) = change m ∷ ms

-- the first of some modules goes from one to another, as told; all others stay
abbrev pub InFirst : (ModuleTree → ModuleTree → Type 0) → List ModuleTree → List ModuleTree → Type 0
InFirst goes [] new = ⊥
InFirst goes (m ∷ ms) new = (changed : ModuleTree) × goes m changed × (new ≡ changed ∷ ms)

-- what a registration in the first of some modules answers, and the modules that it leaves
abbrev pub RegistersFirst : {A : Type 0} → List NativeInfo → FuncRegistration → FnId → List ModuleTree → Result A DeclFault → List ModuleTree → Type 0
RegistersFirst natives reg id old result new = InFirst (λ m changed. Registers natives reg id m result changed) old new

-- the same of a raw one
abbrev pub RegistersRawFirst : {A : Type 0} → List NativeInfo → FuncRegistration → List TypeTag → RhaiFunc → List ModuleTree → Result A DeclFault → List ModuleTree → Type 0
RegistersRawFirst natives reg types func old result new = InFirst (λ m changed. RegistersRaw natives reg types func m result changed) old new

-- and of two natives, both or none
abbrev pub RegistersBothFirst : {A : Type 0} → List NativeInfo → FuncRegistration → FnId → FuncRegistration → FnId → List ModuleTree → Result A DeclFault → List ModuleTree → Type 0
RegistersBothFirst natives get_reg get set_reg set old result new = InFirst (λ m changed. RegistersBoth natives get_reg get set_reg set m result changed) old new

-- what is told of a registration in the first of some modules
abbrev pub FirstTells : List NativeInfo → FuncRegistration → FnId → List ModuleTree → FuncMetadata → Type 0
FirstTells natives reg id [] metadata = ⊥
FirstTells natives reg id (m ∷ ms) metadata = metadata ≡ (registered_decl m.own.seeds reg (native_at natives id) id).metadata
