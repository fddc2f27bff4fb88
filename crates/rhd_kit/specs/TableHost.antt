-- What the host of a session text answers.
use Rattle.std.specs.Prelude.{◌≡◌, Bool, List, Option, None, Some}
use Rattle.rhd_value.specs.Tree.{Bytes, Tree}
use Rattle.rhd_value.specs.Entries.{found}
use Rattle.rhd_func.specs.declared.request.HostAnswer.{HostAnswer}
use Rattle.rhd_func.specs.declared.request.HostAnswer.TheVariants.{Nothing, Value}

-- a value, where there is one
abbrev pub answer_of : Option Tree → HostAnswer
answer_of None = Nothing
answer_of (Some value) = Value value

-- the value of the name's line; nothing exactly where there is no such line
abbrev pub table_answer : List (Bytes × Tree) → Bytes → HostAnswer
table_answer answers name = answer_of (found name answers)

-- The relation of the host: whatever the arguments, it allows that answer alone, and the table stays as it was.
abbrev pub table_answers : List (Bytes × Tree) → Bytes → List Tree → Bool → HostAnswer → List (Bytes × Tree) → Type 0
table_answers answers name args is_method answer after = (answer ≡ table_answer answers name) × (after ≡ answers)
