-- What a function receives, and what is left of a first argument after the call.
use Rattle.std.specs.Prelude.{◌≡◌, true, false, List, ◌∷◌}
use Rattle.rhd_value.specs.Tree.{Tree, Kind, unit, boolean, integer, character, text, array, object, pointer, custom, Items, no_items, item, Members, no_members, member}
use Rattle.rhd_value.specs.declared.fault.EvalAltResult.TheVariants.{ErrorTooManyOperations}
use Rattle.rhd_func.specs.declared.func.RhaiFunc.{RhaiFunc}
use Rattle.rhd_func.specs.declared.request.CallShape.{CallShape}
use Rattle.rhd_func.specs.declared.request.CallShape.TheVariants.{ByRef, Method}
use Rattle.rhd_func.specs.Funcs.{is_method, is_script}
use Rattle.rhd_func.specs.Natives.{NativeInfo}
use Rattle.rhd_func.specs.Shapes.{all_args, pos_of}
use Rattle.rhd_call.specs.Seen.{Seen}
use Rattle.rhd_laws.specs.Causes.{IsOwn}

-- the call is by reference, or of a method
pub data HasFirstGiven (shape : CallShape) : Type 0 where
  by_reference : (first : Tree) (args : List Tree) → shape ≡ ByRef first args → HasFirstGiven shape
  of_method : (object : Tree) (args : List Tree) → shape ≡ Method object args → HasFirstGiven shape

-- The budget was spent within the node's call: it was begun, and ends with too many operations of its own.
abbrev pub IsCut : Seen → Type 0
IsCut node = (node.begun ≡ true) × IsOwn node.end (ErrorTooManyOperations (pos_of node.call))

-- A function gets a copy of the first argument by reference or of the object: a native that takes all by value, or a script by reference.
pub data GetsCopy (natives : List NativeInfo) (func : RhaiFunc) (shape : CallShape) : Type 0 where
  native_by_value : is_script func ≡ false → is_method natives func ≡ false → HasFirstGiven shape → GetsCopy natives func shape
  script_by_reference : (first : Tree) (args : List Tree) → is_script func ≡ true → shape ≡ ByRef first args → GetsCopy natives func shape

-- A function has this value itself as its first argument or object: a native method the first of all, a script the object of a method.
pub data HasItself (natives : List NativeInfo) (func : RhaiFunc) (shape : CallShape) (value : Tree) : Type 0 where
  native_has_first : (args : List Tree) → is_script func ≡ false → is_method natives func ≡ true → all_args shape ≡ value ∷ args → HasItself natives func shape value
  script_has_object : (args : List Tree) → is_script func ≡ true → shape ≡ Method value args → HasItself natives func shape value

-- no value within the value is read-only
abbrev mutual
  pub IsKindWritable : Kind → Type 0
  IsKindWritable unit = Unit {0}
  IsKindWritable (boolean b) = Unit {0}
  IsKindWritable (integer z) = Unit {0}
  IsKindWritable (character c) = Unit {0}
  IsKindWritable (text s) = Unit {0}
  IsKindWritable (array ts) = AreItemsWritable ts
  IsKindWritable (object es) = AreMembersWritable es
  IsKindWritable (pointer n ts p) = AreItemsWritable ts
  IsKindWritable (custom n z) = Unit {0}

  pub AreItemsWritable : Items → Type 0
  AreItemsWritable no_items = Unit {0}
  AreItemsWritable (item k m ts) = IsKindWritable k × (m.read_only ≡ false) × AreItemsWritable ts

  pub AreMembersWritable : Members → Type 0
  AreMembersWritable no_members = Unit {0}
  AreMembersWritable (member n k m es) = IsKindWritable k × (m.read_only ≡ false) × AreMembersWritable es

-- nor is it itself
abbrev pub IsWritable : Tree → Type 0
IsWritable t = (t.marks.read_only ≡ false) × IsKindWritable t.kind
