-- HOW THINGS ARE WRITTEN. A span says of some bytes, and of the bytes that are left, what is written between them.
use Rattle.std.specs.Prelude.{◌≡◌, ◌≢◌, ◌⊎◌, ◌<◌, ℕ, zero, suc, ℤ, Bool, true, false, List, [], ◌∷◌, ◌++◌, length, Option, Some, None, codes}
use Rattle.std.specs.List.{list_all}
use Rattle.std.specs.Str.{is_utf8, chars}
use Rattle.rhd_value.specs.declared.tag.Marks.{Marks}
use Rattle.rhd_value.specs.declared.tag.TypeTag.{TypeTag}
use Rattle.rhd_value.specs.declared.tag.FnPtrType.{FnPtrType}
use Rattle.rhd_value.specs.declared.tag.FnPtrType.TheVariants.{Normal, Script, Native}
use Rattle.rhd_value.specs.Tree.{Bytes, Kind, unit, boolean, integer, character, text, array, object, pointer, custom, Tree, list_of, entries_of}
use Rattle.rhd_syntax.specs.Maps.{put_each}
use Rattle.rhd_syntax.specs.Bytes.{is_blank, is_word_byte, may_end, unescaped, num_of, int_of, given_of, value_kind_of, kind_of, param_kind_of, printer_of}
use Rattle.rhd_syntax.specs.declared.printers.Printer.{Printer}
use Rattle.rhd_syntax.specs.declared.arguments.Argument.{Argument}
use Rattle.rhd_syntax.specs.declared.arguments.Argument.TheVariants as one
use Rattle.rhd_syntax.specs.declared.arguments.Arguments.{Arguments}
use Rattle.rhd_syntax.specs.Arguments.{together}

-- of the bytes before, and the bytes left
abbrev pub Span : Type 1
Span = List ℕ → List ℕ → Type 0

-- one after the other
infixr 20 ◌▸◌
abbrev pub ◌▸◌ : Span → Span → Span
◌▸◌ p q bytes rest = (middle : List ℕ) × p bytes middle × q middle rest

-- one or the other
abbrev pub either : Span → Span → Span
either p q bytes rest = p bytes rest ⊎ q bytes rest

-- no byte
abbrev pub nothing : Span
nothing bytes rest = bytes ≡ rest

-- this one byte
abbrev pub byte : ℕ → Span
byte b bytes rest = bytes ≡ b ∷ rest

-- any number of blanks, possibly none
abbrev pub blanks : Span
blanks bytes rest = (gap : List ℕ) × (list_all is_blank gap ≡ true) × (bytes ≡ gap ++ rest)

-- a bracket, and any blanks before it (those after it stand before what follows)
abbrev pub bracket : ℕ → Span
bracket b = blanks ▸ byte b

-- ---- words

-- a run of characters, after which stands the end of the line, a blank or a bracket
abbrev pub run : List ℕ → Span
run w bytes rest = (list_all is_word_byte w ≡ true) × (0 < length w) × (bytes ≡ w ++ rest) × (may_end rest ≡ true)

-- an unquoted word
abbrev pub bare : List ℕ → Span
bare w = blanks ▸ run w

-- an unquoted word that has this meaning
abbrev pub meant : {A : Type 0} → (List ℕ → Option A) → A → Span
meant of x bytes rest = (w : List ℕ) × (of w ≡ Some x) × bare w bytes rest

-- an unquoted word, or nothing
abbrev pub optional : List ℕ → Bool → Span
optional w true = bare w
optional w false = nothing

-- the word of a number of so many bits
abbrev pub number : ℕ → ℕ → Span
number bits = meant (num_of bits)

-- the word of a kind of values
abbrev pub value_kind : TypeTag → Span
value_kind = meant value_kind_of

-- the word of a kind of parameters
abbrev pub param_kind : TypeTag → Span
param_kind = meant param_kind_of

-- the word of a printer
abbrev pub printer : Printer → Span
printer = meant printer_of

-- no `:` comes next
abbrev pub NoColon : List ℕ → Type 0
NoColon bytes = (after : List ℕ) → (blanks ▸ byte 58) bytes after → ⊥

-- `:` and at once the word of a kind; or nothing, where no `:` comes next
abbrev pub want : Option TypeTag → Span
want (Some tag) bytes rest = (w : List ℕ) × (kind_of w ≡ Some tag) × bare (58 ∷ w) bytes rest
want None bytes rest = (bytes ≡ rest) × NoColon bytes

-- ---- quoted texts

-- a byte of a text between two of these quotation marks, by itself or after a backslash
abbrev pub letter : ℕ → ℕ → Span
letter quote c bytes rest = ((c ≢ quote) × (c ≢ 92) × (bytes ≡ c ∷ rest)) ⊎ ((e : ℕ) × (unescaped e ≡ Some c) × (bytes ≡ 92 ∷ (e ∷ rest)))

-- these bytes, and then the quotation mark that ends them
abbrev pub letters_to : ℕ → List ℕ → Span
letters_to quote [] = byte quote
letters_to quote (c ∷ cs) = letter quote c ▸ letters_to quote cs

abbrev pub letters : List ℕ → Span
letters = letters_to 34

-- a text in UTF-8 between two of these quotation marks, after which stands the end of the line, a blank or a bracket
abbrev pub quoted_in : ℕ → List ℕ → Span
quoted_in quote s bytes rest = (is_utf8 s ≡ true) × (byte quote ▸ letters_to quote s) bytes rest × (may_end rest ≡ true)

-- a text between "
abbrev pub quotation : List ℕ → Span
quotation = quoted_in 34

-- a character: a text of it alone between '
abbrev pub quoted_character : ℕ → Span
quoted_character c bytes rest = (s : List ℕ) × (chars s ≡ c ∷ []) × quoted_in 39 s bytes rest

-- an unquoted text in UTF-8
abbrev pub unquoted : List ℕ → Span
unquoted s bytes rest = (is_utf8 s ≡ true) × run s bytes rest

-- a text, quoted or not
abbrev pub word : List ℕ → Span
word s = blanks ▸ either (unquoted s) (quotation s)

-- the name of a call: a text, quoted or not, which does not begin with `:` where it isn't quoted
abbrev pub name : List ℕ → Span
name s bytes rest = word s bytes rest × NoColon bytes

-- `this` and a text, or nothing
abbrev pub this : Option (List ℕ) → Span
this (Some s) = bare (codes "this") ▸ word s
this None = nothing

-- `pure` or `impure`, or nothing
abbrev pub purity : Option Bool → Span
purity (Some true) = bare (codes "pure")
purity (Some false) = bare (codes "impure")
purity None = nothing

-- ---- lists

-- elements one after the other
abbrev pub each : {A : Type 0} → (A → Span) → List A → Span
each span [] = nothing
each span (x ∷ xs) = span x ▸ each span xs

-- elements between round brackets
abbrev pub bracketed : {A : Type 0} → (A → Span) → List A → Span
bracketed one xs = bracket 40 ▸ (each one xs ▸ bracket 41)

-- texts between round brackets
abbrev pub words : List (List ℕ) → Span
words ws = bracketed word ws

-- kinds of parameters between round brackets
abbrev pub kinds : List TypeTag → Span
kinds ks = bracketed param_kind ks

-- ---- values

-- a mark, or none; no blank stands after a mark
abbrev pub mark : ℕ → Bool → Span
mark b true = byte b
mark b false = nothing

-- the marks: `!` read-only, `%` shared, `~` locked, in this order
abbrev pub marks : Marks → Span
marks m = mark 33 m.read_only ▸ (mark 37 m.shared ▸ mark 126 m.locked)

abbrev pub truth : Bool → List ℕ
truth true = codes "true"
truth false = codes "false"

-- the run of an integer
abbrev pub number_run : ℤ → Span
number_run z bytes rest = (w : List ℕ) × (int_of w ≡ Some z) × run w bytes rest

-- a name and its value
abbrev pub pair : (Tree → Span) → Bytes × Tree → Span
pair element e = word e.0 ▸ element e.1

-- the names and values of a map, in any order, and no name twice
abbrev pub pairs : (Tree → Span) → List (Bytes × Tree) → Span
pairs element es bytes rest = (ps : List (Bytes × Tree)) × (put_each [] ps ≡ Some es) × each (pair element) ps bytes rest

-- how a pointer of each sort begins
abbrev pub pointer_word : FnPtrType → List ℕ
pointer_word Normal = codes "fn"
pointer_word (Script n) = codes "fn*"
pointer_word (Native id) = codes "fn#"

-- what stands after the pointer's name: the number of parameters, or that of the native
abbrev pub pointer_number : FnPtrType → Span
pointer_number Normal = nothing
pointer_number (Script n) = number 64 n
pointer_number (Native id) = number 32 id.0

-- Each kind of value, given how the values inside it are written. The brackets are ( 40, ) 41, [ 91, ] 93, { 123, } 125;
-- blanks may stand before and after each of them, but for the first ( after a word
abbrev pub kind : (Tree → Span) → Kind → Span
kind element unit = byte 40 ▸ bracket 41
kind element (boolean b) = run (truth b)
kind element (integer z) = number_run z
kind element (character c) = quoted_character c
kind element (text s) = quotation s
kind element (array ts) = byte 91 ▸ (each element (list_of ts) ▸ bracket 93)
kind element (object es) = byte 123 ▸ (pairs element (entries_of es) ▸ bracket 125)
kind element (pointer f ts typ) = run (pointer_word typ) ▸ (byte 40 ▸ (word f ▸ (pointer_number typ ▸ (each element (list_of ts) ▸ bracket 41))))
kind element (custom n z) = run (codes "custom") ▸ (byte 40 ▸ (number 32 n ▸ ((blanks ▸ number_run z) ▸ bracket 41)))

-- a value that is so deep at most: one with no value inside it is 1 deep, another one deeper than the deepest inside it
unfoldable pub value_within : ℕ → Tree → Span
value_within zero t = λ bytes rest. ⊥
value_within (suc deep) t = blanks ▸ (marks t.marks ▸ kind (value_within deep) t.kind)

-- a value, at most 64 deep
abbrev pub value : Tree → Span
value t = value_within 64 t

-- bytes that are one value, in UTF-8
pub record IsValue (t : Tree) (bytes : List ℕ) : Type 0 where
  pub utf8 : is_utf8 bytes ≡ true
  pub written : (value t ▸ blanks) bytes []

-- ---- arguments

-- a value; or a given one, where those may stand
abbrev pub argument : Bool → Argument → Span
argument given (one.Value t) = value t
argument given (one.Given g) = λ bytes rest. (given ≡ true) × meant given_of g bytes rest

-- arguments to the end of the line
abbrev pub arguments : Bool → Arguments → Span
arguments given a bytes rest = (xs : List Argument) × (a ≡ together xs) × each (argument given) xs bytes rest × blanks rest []
