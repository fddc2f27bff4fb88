-- Where the path of a qualified call begins, said without a search.
use Rattle.std.specs.Prelude.{◌≡◌, ◌<◌, ℕ, List, [], ◌∷◌, slice_get, Some}
use Rattle.rhd_value.specs.Tree.{Bytes}
use Rattle.rhd_value.specs.declared.fault.EvalAltResult.{EvalAltResult}
use Rattle.rhd_value.specs.declared.fault.EvalAltResult.TheVariants.{ErrorModuleNotFound}
use Rattle.rhd_func.specs.declared.request.CallRequest.{CallRequest}
use Rattle.rhd_func.specs.Shapes.{pos_of}
use Rattle.rhd_module.specs.Tree.{ModuleTree}
use Rattle.rhd_module.specs.Walk.{tree}
use Rattle.rhd_call.specs.declared.pick.Layer.TheVariants.{Import, Static}
use Rattle.rhd_engine.specs.Engine.{EngineLists, Frame, Imports}
use Rattle.rhd_engine.specs.NotFound.{path_text}
use Rattle.rhd_dispatch.specs.Searched.{Place}
use Rattle.rhd_machine.specs.Plans.{in_module, plan_of}

-- no module of a list has the name
abbrev pub NoneNamed : Bytes → Imports → Type 0
NoneNamed name modules = (n : ℕ) (m : ModuleTree) → slice_get modules n ≡ Some (name, m) → ⊥

-- A path begins at no module: it is empty, or its first name is that of no import and of no static module.
pub data HasNoRoot (e : EngineLists) (f : Frame) (path : List Bytes) : Type 0 where
  is_empty : path ≡ [] → HasNoRoot e f path
  is_unknown : (name : Bytes) (names : List Bytes) → path ≡ name ∷ names → NoneNamed name f.imports → NoneNamed name e.statics → HasNoRoot e f path

-- A path begins at a module: the latest import of its first name; or, where no import has that name, the first static module of it. The place has the declarations of the module's whole tree.
pub data IsRoot (e : EngineLists) (f : Frame) (path : List Bytes) (place : Place) : Type 0 where
  is_import : (n : ℕ) (name : Bytes) (names : List Bytes) (m : ModuleTree) → path ≡ name ∷ names → slice_get f.imports n ≡ Some (name, m)
      → ((k : ℕ) (other : ModuleTree) → n < k → slice_get f.imports k ≡ Some (name, other) → ⊥)
      → place ≡ record { layer = Import n; source = m.own.id; pairs = tree m } → IsRoot e f path place
  is_static : (n : ℕ) (name : Bytes) (names : List Bytes) (m : ModuleTree) → path ≡ name ∷ names → NoneNamed name f.imports → slice_get e.statics n ≡ Some (name, m)
      → ((k : ℕ) (other : ModuleTree) → k < n → slice_get e.statics k ≡ Some (name, other) → ⊥)
      → place ≡ record { layer = Static n; source = m.own.id; pairs = tree m } → IsRoot e f path place

-- the call is qualified, its path begins at no module, and the fault has the names of the path
abbrev pub NamesNoRoot : EngineLists → Frame → CallRequest → EvalAltResult → Type 0
NamesNoRoot e f call fault = (path : List Bytes) × ((plan_of call).search ≡ in_module path) × HasNoRoot e f path × (fault ≡ ErrorModuleNotFound (path_text path) (pos_of call))
