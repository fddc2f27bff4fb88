-- THE TABLE OF TOKENS: each token with its text, and which of them are assignments.
use Rattle.std.specs.Prelude.{◌≡◌, ℕ, Bool, true, false, List, [], ◌∷◌, Option, codes, find}
use Rattle.std.specs.Str.{bytes_eq}
use Rattle.std.specs.Bool.{Decides}
use denote.Enum.Bare.{sameb, same_true, true_same}
use Rattle.rhd_names.specs.contracts.token.OpToken.{the_type}
use Rattle.rhd_names.specs.declared.token.OpToken.{OpToken}
use Rattle.rhd_names.specs.declared.token.OpToken.TheVariants as tokens

abbrev pub token_text : OpToken → List ℕ
-- words
token_text tokens.True = codes "true"
token_text tokens.False = codes "false"
token_text tokens.Let = codes "let"
token_text tokens.Const = codes "const"
token_text tokens.If = codes "if"
token_text tokens.Else = codes "else"
token_text tokens.Switch = codes "switch"
token_text tokens.Do = codes "do"
token_text tokens.While = codes "while"
token_text tokens.Until = codes "until"
token_text tokens.Loop = codes "loop"
token_text tokens.For = codes "for"
token_text tokens.In = codes "in"
token_text tokens.Fn = codes "fn"
token_text tokens.Private = codes "private"
token_text tokens.Import = codes "import"
token_text tokens.Export = codes "export"
token_text tokens.As = codes "as"
token_text tokens.Return = codes "return"
token_text tokens.Throw = codes "throw"
token_text tokens.Break = codes "break"
token_text tokens.Continue = codes "continue"
token_text tokens.Try = codes "try"
token_text tokens.Catch = codes "catch"
token_text tokens.Global = codes "global"
-- binary operators
token_text tokens.Plus = codes "+"
token_text tokens.Minus = codes "-"
token_text tokens.Multiply = codes "*"
token_text tokens.Divide = codes "/"
token_text tokens.Modulo = codes "%"
token_text tokens.PowerOf = codes "**"
token_text tokens.LeftShift = codes "<<"
token_text tokens.RightShift = codes ">>"
token_text tokens.Ampersand = codes "&"
token_text tokens.Pipe = codes "|"
token_text tokens.XOr = codes "^"
token_text tokens.EqualsTo = codes "=="
token_text tokens.NotEqualsTo = codes "!="
token_text tokens.LessThan = codes "<"
token_text tokens.LessThanEqualsTo = codes "<="
token_text tokens.GreaterThan = codes ">"
token_text tokens.GreaterThanEqualsTo = codes ">="
token_text tokens.And = codes "&&"
token_text tokens.Or = codes "||"
-- assignments
token_text tokens.PlusAssign = codes "+="
token_text tokens.MinusAssign = codes "-="
token_text tokens.MultiplyAssign = codes "*="
token_text tokens.DivideAssign = codes "/="
token_text tokens.ModuloAssign = codes "%="
token_text tokens.PowerOfAssign = codes "**="
token_text tokens.LeftShiftAssign = codes "<<="
token_text tokens.RightShiftAssign = codes ">>="
token_text tokens.AndAssign = codes "&="
token_text tokens.OrAssign = codes "|="
token_text tokens.XOrAssign = codes "^="
-- other symbols
token_text tokens.Equals = codes "="
token_text tokens.Bang = codes "!"
token_text tokens.ExclusiveRange = codes ".."
token_text tokens.InclusiveRange = codes "..="
token_text tokens.DoubleQuestion = codes "??"
token_text tokens.LeftParen = codes "("
token_text tokens.RightParen = codes ")"
token_text tokens.LeftBrace = codes "{"
token_text tokens.RightBrace = codes "}"
token_text tokens.LeftBracket = codes "["
token_text tokens.RightBracket = codes "]"
token_text tokens.Comma = codes ","
token_text tokens.SemiColon = codes ";"
token_text tokens.Colon = codes ":"
token_text tokens.DoubleColon = codes "::"
token_text tokens.Period = codes "."
token_text tokens.Elvis = codes "?."
token_text tokens.QuestionBracket = codes "?["
token_text tokens.DoubleArrow = codes "=>"

-- all tokens
abbrev pub all_tokens : List OpToken
all_tokens =
    tokens.True
    ∷ tokens.False
    ∷ tokens.Let
    ∷ tokens.Const
    ∷ tokens.If
    ∷ tokens.Else
    ∷ tokens.Switch
    ∷ tokens.Do
    ∷ tokens.While
    ∷ tokens.Until
    ∷ tokens.Loop
    ∷ tokens.For
    ∷ tokens.In
    ∷ tokens.Fn
    ∷ tokens.Private
    ∷ tokens.Import
    ∷ tokens.Export
    ∷ tokens.As
    ∷ tokens.Return
    ∷ tokens.Throw
    ∷ tokens.Break
    ∷ tokens.Continue
    ∷ tokens.Try
    ∷ tokens.Catch
    ∷ tokens.Global
    ∷ tokens.Plus
    ∷ tokens.Minus
    ∷ tokens.Multiply
    ∷ tokens.Divide
    ∷ tokens.Modulo
    ∷ tokens.PowerOf
    ∷ tokens.LeftShift
    ∷ tokens.RightShift
    ∷ tokens.Ampersand
    ∷ tokens.Pipe
    ∷ tokens.XOr
    ∷ tokens.EqualsTo
    ∷ tokens.NotEqualsTo
    ∷ tokens.LessThan
    ∷ tokens.LessThanEqualsTo
    ∷ tokens.GreaterThan
    ∷ tokens.GreaterThanEqualsTo
    ∷ tokens.And
    ∷ tokens.Or
    ∷ tokens.PlusAssign
    ∷ tokens.MinusAssign
    ∷ tokens.MultiplyAssign
    ∷ tokens.DivideAssign
    ∷ tokens.ModuloAssign
    ∷ tokens.PowerOfAssign
    ∷ tokens.LeftShiftAssign
    ∷ tokens.RightShiftAssign
    ∷ tokens.AndAssign
    ∷ tokens.OrAssign
    ∷ tokens.XOrAssign
    ∷ tokens.Equals
    ∷ tokens.Bang
    ∷ tokens.ExclusiveRange
    ∷ tokens.InclusiveRange
    ∷ tokens.DoubleQuestion
    ∷ tokens.LeftParen
    ∷ tokens.RightParen
    ∷ tokens.LeftBrace
    ∷ tokens.RightBrace
    ∷ tokens.LeftBracket
    ∷ tokens.RightBracket
    ∷ tokens.Comma
    ∷ tokens.SemiColon
    ∷ tokens.Colon
    ∷ tokens.DoubleColon
    ∷ tokens.Period
    ∷ tokens.Elvis
    ∷ tokens.QuestionBracket
    ∷ tokens.DoubleArrow
    ∷ []

-- the token of a text
unfoldable pub token_of : List ℕ → Option OpToken
token_of text = find (λ t. bytes_eq (token_text t) text) all_tokens

-- an operator and `=`; `=` alone is no such assignment
abbrev pub is_assignment : OpToken → Bool
is_assignment tokens.PlusAssign = true
is_assignment tokens.MinusAssign = true
is_assignment tokens.MultiplyAssign = true
is_assignment tokens.DivideAssign = true
is_assignment tokens.ModuloAssign = true
is_assignment tokens.PowerOfAssign = true
is_assignment tokens.LeftShiftAssign = true
is_assignment tokens.RightShiftAssign = true
is_assignment tokens.AndAssign = true
is_assignment tokens.OrAssign = true
is_assignment tokens.XOrAssign = true
is_assignment _ = false

-- `==` on tokens, which decides whether they are one
abbrev pub token_eq : OpToken → OpToken → Bool
token_eq = sameb the_type

pub token_eq-Decides : (a b : OpToken) → Decides (token_eq a b) (a ≡ b)
token_eq-Decides a b = (same_true the_type tt a b, true_same the_type a b)
