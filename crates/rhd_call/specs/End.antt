-- How a call ends.
use Rattle.std.specs.Prelude.{Option, None, Some, Result, Err}
use Rattle.rhd_value.specs.Tree.{Bytes, Tree}
use Rattle.rhd_value.specs.declared.fault.EvalAltResult.{EvalAltResult}
use Rattle.rhd_call.specs.declared.node.Whose.{Whose}
use Rattle.rhd_call.specs.declared.node.Whose.TheVariants.{Call}

-- its answer or fault, whose that is, the first argument by reference or the object as it is after the call, the text that is printed, and the value that the call refuses
pub record End : Type 0 where
  pub answer : Result Tree EvalAltResult
  pub whose : Whose
  pub first_after : Option Tree
  pub printed : Option Bytes
  pub refused : Option Tree

-- an answer or a fault, where no value was refused and nothing was printed
abbrev pub answered : Whose → Option Tree → Result Tree EvalAltResult → End
answered whose first answer = record { answer = answer; whose = whose; first_after = first; printed = None; refused = None }

-- a fault of the call itself, where no value was refused
abbrev pub failed : Option Tree → EvalAltResult → End
failed first fault = answered Call first (Err fault)

-- a fault of the call itself, which refuses this value
abbrev pub refusing : Option Tree → Tree → EvalAltResult → End
refusing first v fault = record { answer = Err fault; whose = Call; first_after = first; printed = None; refused = Some v }

-- the same end, with this printed text
abbrev pub with_printed : Option Bytes → End → End
with_printed printed end = record end { printed = printed }
