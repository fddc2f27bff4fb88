-- A locked argument.
use Rattle.std.specs.Prelude.{ℕ, ◌+◌, List, [], ◌∷◌, ◌++◌, if◌then◌else◌, Option, None, Some, option_map, codes, decimal}
use Rattle.rhd_value.specs.Tree.{Bytes, Tree}
use Rattle.rhd_value.specs.declared.fault.EvalAltResult.{EvalAltResult}
use Rattle.rhd_value.specs.declared.fault.EvalAltResult.TheVariants.{ErrorDataRace}
use Rattle.rhd_value.specs.declared.tag.Position.{Position}
use Rattle.rhd_func.specs.declared.request.CallShape.{CallShape}
use Rattle.rhd_func.specs.declared.request.CallShape.TheVariants.{Plain, ByRef, Method}

-- the place of the first locked value, where n is the place of the head
abbrev pub locked_from : ℕ → List Tree → Option ℕ
locked_from n [] = None
locked_from n (v ∷ vs) = if v.marks.locked then Some n else locked_from (n + 1) vs

-- one among all, from 1; a first argument by reference and an object may be locked
abbrev pub locked_place : CallShape → Option ℕ
locked_place (Plain args) = locked_from 1 args
locked_place (ByRef first args) = locked_from 2 args
locked_place (Method object args) = locked_from 2 args

abbrev pub locked_text : Bytes → ℕ → Bytes
locked_text name n = codes "argument #" ++ decimal n ++ codes " of function '" ++ name ++ codes "'"

-- the fault of a call with a locked argument
abbrev pub data_race : Bytes → CallShape → Position → Option EvalAltResult
data_race name shape pos = option_map (λ n. ErrorDataRace (locked_text name n) pos) (locked_place shape)
