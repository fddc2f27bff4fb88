-- How functions are put into a module.
use Rattle.std.specs.Prelude.{◌≡◌, ℕ, false, List, Option, None, Some, Result, Ok, Err}
use Rattle.std.specs.Map.{keys_of}
use Rattle.rhd_value.specs.declared.tag.FnId.{FnId}
use Rattle.rhd_value.specs.declared.tag.TypeTag.{TypeTag}
use Rattle.rhd_hash.specs.declared.key.Key.{Key}
use Rattle.rhd_hash.specs.Table.{HasOwnHashes, Clashing}
use Rattle.rhd_func.specs.Natives.{NativeInfo}
use Rattle.rhd_func.specs.Funcs.{is_method}
use Rattle.rhd_func.specs.declared.func.RhaiFunc.{RhaiFunc}
use Rattle.rhd_decl.specs.NativeKeys.{native_key}
use Rattle.rhd_decl.specs.declared.declaration.Declaration.{Declaration}
use Rattle.rhd_decl.specs.declared.fault.DeclFault.{DeclFault}
use Rattle.rhd_decl.specs.declared.fault.DeclFault.TheVariants.{HashCollision, OutOfMemory}
use Rattle.rhd_decl.specs.declared.registration.FuncRegistration.{FuncRegistration}
use Rattle.rhd_module.specs.Tree.{ModuleTree}
use Rattle.rhd_table.specs.Pairs.{put}
use Rattle.rhd_decl.specs.Registration.{native_decl, native_at, registered_decl, registration_cause, raw_cause, pair_cause}

-- the module with a declaration put in; it isn't indexed any more
abbrev pub with_decl : Key → Declaration → ModuleTree → ModuleTree
with_decl k d m = record m { own = record m.own { eager = put k d m.own.eager; indexed = false } }

-- What putting a declaration under a key answers, and the module that it leaves. A cause that is known beforehand refuses it; so do two keys of the table that it would leave, if they clash.
abbrev pub Puts : {A : Type 0} → Option DeclFault → Key → Declaration → ModuleTree → Result A DeclFault → ModuleTree → Type 0
Puts cause k d old (Ok answer) new = (cause ≡ None) × HasOwnHashes old.own.seeds (keys_of (put k d old.own.eager)) × (new ≡ with_decl k d old)
Puts cause k d old (Err OutOfMemory) new = new ≡ old
Puts cause k d old (Err (HashCollision held other)) new = (cause ≡ None) × Clashing old.own.seeds (keys_of (put k d old.own.eager)) held other × (new ≡ old)
Puts cause k d old (Err fault) new = (cause ≡ Some fault) × (new ≡ old)

-- the same of a native that is registered by its number
abbrev pub Registers : {A : Type 0} → List NativeInfo → FuncRegistration → FnId → ModuleTree → Result A DeclFault → ModuleTree → Type 0
Registers natives reg id old result new =
    let info = native_at natives id in
    Puts (registration_cause natives reg.name id) (native_key info.is_method reg.name info.types) (registered_decl old.own.seeds reg info id) old result new

-- and of a function that is registered raw, with these types
abbrev pub RegistersRaw : {A : Type 0} → List NativeInfo → FuncRegistration → List TypeTag → RhaiFunc → ModuleTree → Result A DeclFault → ModuleTree → Type 0
RegistersRaw natives reg types func old result new =
    Puts (raw_cause natives reg.name types func) (native_key (is_method natives func) reg.name types) (native_decl old.own.seeds reg (is_method natives func) types func) old result new

-- What putting two declarations under their keys answers, one after the other, and the module that it leaves: both or none are put.
abbrev pub PutsBoth : {A : Type 0} → Option DeclFault → Key → Declaration → Key → Declaration → ModuleTree → Result A DeclFault → ModuleTree → Type 0
PutsBoth cause k d l e old (Ok answer) new = (cause ≡ None) × HasOwnHashes old.own.seeds (keys_of (put l e (put k d old.own.eager))) × (new ≡ with_decl l e (with_decl k d old))
PutsBoth cause k d l e old (Err OutOfMemory) new = new ≡ old
PutsBoth cause k d l e old (Err (HashCollision held other)) new = (cause ≡ None) × Clashing old.own.seeds (keys_of (put l e (put k d old.own.eager))) held other × (new ≡ old)
PutsBoth cause k d l e old (Err fault) new = (cause ≡ Some fault) × (new ≡ old)

-- the same of two natives that are registered by their numbers
abbrev pub RegistersBoth : {A : Type 0} → List NativeInfo → FuncRegistration → FnId → FuncRegistration → FnId → ModuleTree → Result A DeclFault → ModuleTree → Type 0
RegistersBoth natives get_reg get set_reg set old result new =
    let getter = native_at natives get in
    let setter = native_at natives set in
    PutsBoth (pair_cause natives get_reg.name get set_reg.name set) (native_key getter.is_method get_reg.name getter.types) (registered_decl old.own.seeds get_reg getter get)
    (native_key setter.is_method set_reg.name setter.types) (registered_decl old.own.seeds set_reg setter set) old result new

-- the hash of the key under which a native is registered
abbrev pub registered_hash : List NativeInfo → FuncRegistration → FnId → ModuleTree → ℕ
registered_hash natives reg id m = (registered_decl m.own.seeds reg (native_at natives id) id).metadata.hash
