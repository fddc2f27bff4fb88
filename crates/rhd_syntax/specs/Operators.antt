-- WHICH TOKENS A BUILT-IN FUNCTION MAY BE FOR: the binary operators and the assignments.
use Rattle.std.specs.Prelude.{ℕ, Bool, true, false, ◌||◌, List, Option, Some, None, option_and_then, if◌then◌else◌}
use Rattle.rhd_names.specs.declared.token.OpToken.{OpToken}
use Rattle.rhd_names.specs.declared.token.OpToken.TheVariants as tokens
use Rattle.rhd_names.specs.Tokens.{token_of, is_assignment}

abbrev pub is_binary : OpToken → Bool
is_binary tokens.Plus = true
is_binary tokens.Minus = true
is_binary tokens.Multiply = true
is_binary tokens.Divide = true
is_binary tokens.Modulo = true
is_binary tokens.PowerOf = true
is_binary tokens.LeftShift = true
is_binary tokens.RightShift = true
is_binary tokens.Ampersand = true
is_binary tokens.Pipe = true
is_binary tokens.XOr = true
is_binary tokens.EqualsTo = true
is_binary tokens.NotEqualsTo = true
is_binary tokens.LessThan = true
is_binary tokens.LessThanEqualsTo = true
is_binary tokens.GreaterThan = true
is_binary tokens.GreaterThanEqualsTo = true
is_binary tokens.And = true
is_binary tokens.Or = true
is_binary _ = false

abbrev pub is_operator : OpToken → Bool
is_operator op = is_binary op || is_assignment op

-- the operator that a word is
unfoldable pub operator_of : List ℕ → Option OpToken
operator_of w = option_and_then (λ op. if is_operator op then Some op else None) (token_of w)
