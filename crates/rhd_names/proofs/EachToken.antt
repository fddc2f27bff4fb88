-- Each token, found by its own text.
use Rattle.std.proofs.Common.{rules, ◌≡◌, ℕ, Bool, true, false, not, ◌&&◌, cond, List, [], ◌∷◌, refl, sym}
use Rattle.std.specs.Prelude.{Some, find}
use Rattle.std.specs.List.{list_all}
use Rattle.std.specs.Str.{bytes_eq}
use Rattle.std.proofs.lemmas.Slice.Eq.{bytes_eq-Decides}
use Rattle.rhd_names.specs.declared.token.OpToken.{OpToken}
use Rattle.rhd_names.specs.declared.token.OpToken.TheVariants as tokens
use Rattle.rhd_names.specs.Tokens.{token_text, all_tokens, token_of}
use Rattle.rhd_names.specs.Names.{is_reserved}

pub itself : (t : OpToken) → token_of (token_text t) ≡ Some t
unfolding token_of
itself tokens.True = refl
itself tokens.False = refl
itself tokens.Let = refl
itself tokens.Const = refl
itself tokens.If = refl
itself tokens.Else = refl
itself tokens.Switch = refl
itself tokens.Do = refl
itself tokens.While = refl
itself tokens.Until = refl
itself tokens.Loop = refl
itself tokens.For = refl
itself tokens.In = refl
itself tokens.Fn = refl
itself tokens.Private = refl
itself tokens.Import = refl
itself tokens.Export = refl
itself tokens.As = refl
itself tokens.Return = refl
itself tokens.Throw = refl
itself tokens.Break = refl
itself tokens.Continue = refl
itself tokens.Try = refl
itself tokens.Catch = refl
itself tokens.Global = refl
itself tokens.Plus = refl
itself tokens.Minus = refl
itself tokens.Multiply = refl
itself tokens.Divide = refl
itself tokens.Modulo = refl
itself tokens.PowerOf = refl
itself tokens.LeftShift = refl
itself tokens.RightShift = refl
itself tokens.Ampersand = refl
itself tokens.Pipe = refl
itself tokens.XOr = refl
itself tokens.EqualsTo = refl
itself tokens.NotEqualsTo = refl
itself tokens.LessThan = refl
itself tokens.LessThanEqualsTo = refl
itself tokens.GreaterThan = refl
itself tokens.GreaterThanEqualsTo = refl
itself tokens.And = refl
itself tokens.Or = refl
itself tokens.PlusAssign = refl
itself tokens.MinusAssign = refl
itself tokens.MultiplyAssign = refl
itself tokens.DivideAssign = refl
itself tokens.ModuloAssign = refl
itself tokens.PowerOfAssign = refl
itself tokens.LeftShiftAssign = refl
itself tokens.RightShiftAssign = refl
itself tokens.AndAssign = refl
itself tokens.OrAssign = refl
itself tokens.XOrAssign = refl
itself tokens.Equals = refl
itself tokens.Bang = refl
itself tokens.ExclusiveRange = refl
itself tokens.InclusiveRange = refl
itself tokens.DoubleQuestion = refl
itself tokens.LeftParen = refl
itself tokens.RightParen = refl
itself tokens.LeftBrace = refl
itself tokens.RightBrace = refl
itself tokens.LeftBracket = refl
itself tokens.RightBracket = refl
itself tokens.Comma = refl
itself tokens.SemiColon = refl
itself tokens.Colon = refl
itself tokens.DoubleColon = refl
itself tokens.Period = refl
itself tokens.Elvis = refl
itself tokens.QuestionBracket = refl
itself tokens.DoubleArrow = refl

-- what a search finds passes its test, and whatever test all pass
passes_step : {X : Type 0} (p : X → Bool) (x y : X) (ys : List X) (b : Bool) → p y ≡ b → (find p ys ≡ Some x → p x ≡ true) → cond b (Some y) (find p ys) ≡ Some x → p x ≡ true
passes_step p x y ys true e ih f = let same : y ≡ x = cc in rw (← same) e
passes_step p x y ys false e ih f = ih f

found_passes : {X : Type 0} (p : X → Bool) (x : X) (xs : List X) → find p xs ≡ Some x → p x ≡ true
found_passes p x [] f = absurd cc
found_passes p x (y ∷ ys) f = passes_step p x y ys (p y) refl (found_passes p x ys) f

-- a text is that of the token that is found by it
pub found : (text : List ℕ) (t : OpToken) → token_of text ≡ Some t → text ≡ token_text t
unfolding token_of
found text t f = sym ((bytes_eq-Decides (token_text t) text).0 (found_passes (λ u. bytes_eq (token_text u) text) t all_tokens f))

pub text_found : (text : List ℕ) (t : OpToken) → text ≡ token_text t → token_of text ≡ Some t
text_found text t e = rw e (itself t)

all_step : {X : Type 0} (p q : X → Bool) (x y : X) (ys : List X) (b : Bool) → (find p ys ≡ Some x → list_all q ys ≡ true → q x ≡ true) → cond b (Some y) (find p ys) ≡ Some x → (q y && list_all q ys) ≡ true → q x ≡ true
all_step p q x y ys true ih f a = let same : y ≡ x = cc in rw (← same) (search rules)
all_step p q x y ys false ih f a = ih f (search rules)

found_one_of : {X : Type 0} (p q : X → Bool) (x : X) (xs : List X) → find p xs ≡ Some x → list_all q xs ≡ true → q x ≡ true
found_one_of p q x [] f a = absurd cc
found_one_of p q x (y ∷ ys) f a = all_step p q x y ys (p y) (found_one_of p q x ys) f a

none_reserved : list_all (λ t. not (is_reserved (token_text t))) all_tokens ≡ true
unfolding is_reserved
none_reserved = refl

is_false : (b : Bool) → not b ≡ true → b ≡ false
is_false true e = absurd cc
is_false false e = refl

pub not_reserved : (t : OpToken) → is_reserved (token_text t) ≡ false
unfolding token_of
not_reserved t = is_false (is_reserved (token_text t)) (found_one_of (λ u. bytes_eq (token_text u) (token_text t)) (λ u. not (is_reserved (token_text u))) t all_tokens (itself t) none_reserved)
