-- What natives and bodies read in values, and what they make of them.
use Rattle.std.specs.Prelude.{ℕ, ℤ, pos, List, [], slice_get, Option, None, Some, unwrap_or, codes}
use Rattle.rhd_value.specs.Tree.{Bytes, Tree, Kind, unit, array, list_of}
use Rattle.rhd_value.specs.Kinds.{plain, int_in, text_in}
use Rattle.rhd_value.specs.declared.fault.EvalAltResult.TheVariants.{ErrorRuntime}
use Rattle.rhd_func.specs.declared.request.NativeStep.{NativeStep}
use Rattle.rhd_func.specs.declared.request.NativeStep.TheVariants.{Failed}

-- the integer or the text that a value is; of another, and where there is none, 0 or the empty text
abbrev pub int_of : Option Tree → ℤ
int_of None = pos 0
int_of (Some value) = unwrap_or (int_in value.kind) (pos 0)

abbrev pub text_of : Option Tree → Bytes
text_of None = []
text_of (Some value) = unwrap_or (text_in value.kind) []

-- the argument at a place; unit where there is none
abbrev pub argument_at : List Tree → ℕ → Tree
argument_at args at = unwrap_or (slice_get args at) (plain unit)

-- the values of an array; of another kind, none
abbrev pub values_in : Kind → List Tree
values_in (array values) = list_of values
values_in _ = []

-- the fault of a function's own with this text
abbrev pub own_fault : Bytes → Option Tree → NativeStep
own_fault text first = Failed (ErrorRuntime text (record { line = 0; column = 0 })) first

abbrev pub bad_carry : Option Tree → NativeStep
bad_carry first = own_fault (codes "bad carry") first
