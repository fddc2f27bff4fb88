-- HOW A LINE IS WRITTEN, by the tables of Rows.
use Rattle.std.specs.Prelude.{◌≡◌, ◌⊎◌, ℕ, true, List, [], ◌∷◌, Option, Some, None, codes}
use Rattle.std.specs.Str.{is_utf8}
use Rattle.rhd_func.specs.declared.request.CallRequest.{CallRequest}
use Rattle.rhd_call.specs.declared.command.Command.TheVariants.{Call}
use Rattle.rhd_plan.specs.declared.part.Part.{Part}
use Rattle.rhd_plan.specs.declared.part.Part.TheVariants.{Command}
use Rattle.rhd_text.specs.declared.place.Place.{Place}
use Rattle.rhd_text.specs.Rows.{Operand, NAME, WORD, WORDS, NUM, LONG, ARG, ARGS, OPTIONAL, WANT, THIS, PURITY, VALUE, KIND, KINDS, PRINTER, Meaning, From, Table, line_forms, step_forms}
use Rattle.rhd_syntax.specs.Spans.{Span, blanks, bare, name, word, words, optional, number, want, this, purity, value, value_kind, kinds, printer, argument, arguments}

-- how each kind of operand is written
abbrev pub operand : (o : Operand) → Meaning o → Span
operand NAME = name
operand WORD = word
operand WORDS = words
operand NUM = number 32
operand LONG = number 64
operand (ARG given) = argument given
operand (ARGS given) = arguments given
operand (OPTIONAL w) = optional w
operand WANT = want
operand THIS = this
operand PURITY = purity
operand VALUE = value
operand KIND = value_kind
operand KINDS = kinds
operand PRINTER = printer

-- the operands of a row, to the end of the line, where the row gives this of what they say
abbrev pub operands : {R : Type 0} (os : List Operand) → From os (Option R) → R → List ℕ → Type 0
operands [] says c bytes = blanks bytes [] × (says ≡ Some c)
operands (o ∷ os) says c bytes = (x : Meaning o) × (rest : List ℕ) × operand o x bytes rest × operands os (says x) c rest

-- a line of a table: the word of a form, and its operands
abbrev pub formed : {K P : Type 0} → Table K P → Place → P → List ℕ → Type 0
formed {K = K} table place p bytes = (k : K) × (rest : List ℕ) × bare (table.form k).spelling bytes rest × operands (table.form k).operands ((table.form k).part place) p rest

-- a line of a session text: one of its table, or `do` and a step
abbrev pub part : Place → Part → List ℕ → Type 0
part place p bytes = formed line_forms place p bytes ⊎ ((after : List ℕ) × bare (codes "do") bytes after × formed step_forms place p after)

-- only blanks, or a comment; else one of these parts
abbrev pub WrittenLine : {P : Type 0} → (P → List ℕ → Type 0) → Option P → List ℕ → Type 0
WrittenLine written None bytes = blanks bytes [] ⊎ ((comment : List ℕ) × blanks bytes (59 ∷ comment))
WrittenLine written (Some p) bytes = written p bytes

-- a line is in UTF-8, and written so; it is nothing where it says nothing
pub record IsWritten (P : Type 0) (written : P → List ℕ → Type 0) (line : Option P) (bytes : List ℕ) : Type 0 where
  pub text : is_utf8 bytes ≡ true
  pub spells : WrittenLine written line bytes

-- line n of a session text is written so
abbrev pub IsLine : ℕ → Option Part → List ℕ → Type 0
IsLine n line bytes = IsWritten Part (part (record { line = n })) line bytes

-- line n is a call line of this request
abbrev pub IsCall : ℕ → CallRequest → List ℕ → Type 0
IsCall n request bytes = IsLine n (Some (Command (Call request))) bytes

-- it is a call line of this request; or it is no call line
abbrev pub IsCallOrNone : ℕ → List ℕ → Option CallRequest → Type 0
IsCallOrNone n bytes (Some request) = IsCall n request bytes
IsCallOrNone n bytes None = (request : CallRequest) → IsCall n request bytes → ⊥
