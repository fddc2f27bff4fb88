-- How a function gets its arguments, and what it gives back of the first.
use Rattle.std.specs.Prelude.{Bool, true, false, List, [], ◌∷◌, if◌then◌else◌, Option, None, Some}
use Rattle.std.specs.Option.{option_or, option_map_or}
use Rattle.rhd_value.specs.Tree.{Tree, copied}
use Rattle.rhd_func.specs.declared.func.RhaiFunc.{RhaiFunc}
use Rattle.rhd_func.specs.declared.request.CallShape.{CallShape}
use Rattle.rhd_func.specs.declared.request.CallShape.TheVariants.{Plain, ByRef, Method}
use Rattle.rhd_func.specs.Funcs.{is_method, is_script}
use Rattle.rhd_func.specs.Natives.{NativeInfo}

-- the calling convention of a function: how it takes its first argument
pub data Convention : Type 0 where
  native_method : Convention
  other_native : Convention
  script : Convention

abbrev pub convention_of : List NativeInfo → RhaiFunc → Convention
convention_of natives func = if is_script func then script else if is_method natives func then native_method else other_native

pub record Received : Type 0 where
  pub first : Option Tree  -- for a script, the object
  pub args : List Tree

-- the table of functions and shapes
abbrev pub received : Convention → CallShape → Received
received native_method (Plain []) = record { first = None; args = [] }
received native_method (Plain (a ∷ args)) = record { first = Some a; args = args }
received native_method (ByRef a args) = record { first = Some a; args = args }
received native_method (Method object args) = record { first = Some object; args = args }
received other_native (Plain args) = record { first = None; args = args }
received other_native (ByRef a args) = record { first = None; args = copied a ∷ args }
received other_native (Method object args) = record { first = None; args = copied object ∷ args }
received script (Plain args) = record { first = None; args = args }
received script (ByRef a args) = record { first = None; args = copied a ∷ args }
received script (Method object args) = record { first = Some object; args = args }

-- the first of what was received
abbrev pub first_in : List Tree → Option Tree
first_in [] = None
first_in (a ∷ args) = Some a

abbrev pub first_received : Received → Option Tree
first_received r = option_or r.first (first_in r.args)

abbrev pub is_read_only : Option Tree → Bool
is_read_only v = option_map_or (λ t. t.marks.read_only) v false

-- whether the function has the first argument by reference, or the object, itself and no copy
abbrev pub has_the_given : Convention → CallShape → Bool
has_the_given native_method (Plain args) = false
has_the_given native_method (ByRef a args) = true
has_the_given native_method (Method object args) = true
has_the_given other_native shape = false
has_the_given script (Plain args) = false
has_the_given script (ByRef a args) = false
has_the_given script (Method object args) = true

-- the first argument after the call: what the function gave back, if it had it itself, else what was given
abbrev pub first_after : Convention → CallShape → Option Tree → Option Tree → Option Tree
first_after convention shape given back = if has_the_given convention shape then back else given
