-- What the natives say of themselves, and the steps that they allow.
use Rattle.std.specs.Prelude.{◌≡◌, Bool, false, List, Option, Some, slice_get}
use Rattle.std.specs.Option.{option_map_or}
use Rattle.rhd_value.specs.Tree.{Tree}
use Rattle.rhd_value.specs.declared.tag.FnId.{FnId}
use Rattle.rhd_value.specs.declared.tag.TypeTag.{TypeTag}
use Rattle.rhd_func.specs.declared.request.Carry.{Carry}
use Rattle.rhd_func.specs.declared.request.CallDone.{CallDone}
use Rattle.rhd_func.specs.declared.request.NativeStep.{NativeStep}
use Rattle.rhd_func.specs.declared.request.NativeCallContext.{NativeCallContext}

pub record NativeInfo : Type 0 where
  pub types : List TypeTag
  pub is_method : Bool
  pub has_context : Bool
  pub is_pure : Bool
  pub is_volatile : Bool

-- what the native of a number says of itself; of a number that isn't held, nothing
abbrev pub info_of : List NativeInfo → FnId → Option NativeInfo
info_of natives id = slice_get natives id.0

-- whether the native of a number says this of itself
abbrev pub says : (NativeInfo → Bool) → List NativeInfo → FnId → Bool
says test natives id = option_map_or test (info_of natives id) false

-- the native of a number is held, and allows this first step
abbrev pub StartAllowed : {N : Type 0} → (N → Option NativeCallContext → Option Tree → List Tree → NativeStep → Type 0) → List N → FnId → Option NativeCallContext → Option Tree → List Tree → NativeStep → Type 0
StartAllowed {N} allows natives id ctx first args step = (native : N) × (slice_get natives id.0 ≡ Some native) × allows native ctx first args step

-- the same of a next step
abbrev pub ResumeAllowed : {N : Type 0} → (N → Option NativeCallContext → Carry → CallDone → NativeStep → Type 0) → List N → FnId → Option NativeCallContext → Carry → CallDone → NativeStep → Type 0
ResumeAllowed {N} allows natives id ctx carry done step = (native : N) × (slice_get natives id.0 ≡ Some native) × allows native ctx carry done step
