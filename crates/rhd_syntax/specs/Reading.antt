-- How operands are read, from the left.
use Rattle.std.specs.Prelude.{ℕ, zero, suc, ℤ, ◌&&◌, not, Bool, true, false, List, [], ◌∷◌, ◌++◌, length, take, drop, Option, Some, None, nat_lt, ◌==◌, if◌then◌else◌, option_and_then, codes}
use Rattle.std.specs.List.{prefix_len}
use Rattle.std.specs.Option.{option_map}
use Rattle.std.specs.Str.{is_utf8, bytes_eq, chars}
use Rattle.rhd_value.specs.declared.tag.Marks.{Marks}
use Rattle.rhd_value.specs.declared.tag.TypeTag.{TypeTag}
use Rattle.rhd_value.specs.declared.tag.FnPtrType.{FnPtrType}
use Rattle.rhd_value.specs.declared.tag.FnPtrType.TheVariants as types
use Rattle.rhd_value.specs.Tree.{Bytes, Tree, Kind, unit, boolean, integer, character, text, array, object, pointer, custom, items_of, members_of}
use Rattle.rhd_syntax.specs.declared.heads.Head.{Head}
use Rattle.rhd_syntax.specs.declared.heads.Head.TheVariants as heads
use Rattle.rhd_syntax.specs.declared.heads.Sort.{Sort}
use Rattle.rhd_syntax.specs.declared.heads.Sort.TheVariants as sorts
use Rattle.rhd_syntax.specs.Maps.{put_new}
use Rattle.rhd_syntax.specs.Bytes.{is_blank, is_word_byte, may_end, begins, unescaped, num_of, int_of, given_of, value_kind_of, kind_of, param_kind_of, printer_of}
use Rattle.rhd_syntax.specs.declared.printers.Printer.{Printer}
use Rattle.rhd_syntax.specs.declared.arguments.Argument.{Argument}
use Rattle.rhd_syntax.specs.declared.arguments.Argument.TheVariants as argument
use Rattle.rhd_syntax.specs.declared.arguments.Arguments.{Arguments}
use Rattle.rhd_syntax.specs.Arguments.{together}

-- what is read first, and then with it
infixl 10 ◌>>=◌
abbrev pub ◌>>=◌ : {A B : Type 0} → Option A → (A → Option B) → Option B
o >>= f = option_and_then f o

-- what is read from the front of some bytes, and the bytes after it
abbrev pub Parse : Type 0 → Type 0
Parse A = List ℕ → Option (A × List ℕ)

-- the bytes after the blanks at the front
abbrev pub skip_blanks : List ℕ → List ℕ
skip_blanks bytes = drop (prefix_len is_blank bytes) bytes

-- only blanks are left
abbrev pub is_end : List ℕ → Bool
is_end bytes = length (skip_blanks bytes) == 0

-- the run of word bytes at the front, of one or more, and the bytes after it
abbrev pub run_at : Parse (List ℕ)
run_at bytes = let n = prefix_len is_word_byte bytes in if nat_lt 0 n && may_end (drop n bytes) then Some (take n bytes, drop n bytes) else None

-- the next word, after any blanks, and the bytes after it
unfoldable pub word_at : Parse (List ℕ)
word_at bytes = run_at (skip_blanks bytes)

-- whether this is the next word, and the bytes after it if it is
abbrev pub flag_of : List ℕ → List ℕ → Option (List ℕ × List ℕ) → Bool × List ℕ
flag_of w bytes None = (false, bytes)
flag_of w bytes (Some x) = if bytes_eq x.0 w then (true, x.1) else (false, bytes)

unfoldable pub flag_at : List ℕ → List ℕ → Bool × List ℕ
flag_at w bytes = flag_of w bytes (word_at bytes)

-- the number of so many bits of the next word
unfoldable pub num_at : ℕ → Parse ℕ
num_at bits bytes = do
  w ← word_at bytes
  n ← num_of bits w.0
  Some (n, w.1)

-- the kind of values that the next word says
unfoldable pub value_kind_at : Parse TypeTag
value_kind_at bytes = do
  w ← word_at bytes
  k ← value_kind_of w.0
  Some (k, w.1)

-- the kind of parameters that the next word says
unfoldable pub param_kind_at : Parse TypeTag
param_kind_at bytes = do
  w ← word_at bytes
  k ← param_kind_of w.0
  Some (k, w.1)

-- the printer that the next word says
unfoldable pub printer_at : Parse Printer
printer_at bytes = do
  w ← word_at bytes
  p ← printer_of w.0
  Some (p, w.1)

-- whether this byte comes next, after any blanks
abbrev pub comes : ℕ → List ℕ → Bool
comes b bytes = begins b (skip_blanks bytes)

-- what stands after the next byte that is no blank
abbrev pub after_bracket : List ℕ → List ℕ
after_bracket bytes = drop 1 (skip_blanks bytes)

-- the kind of the next word after its `:`, where that comes next
unfoldable pub want_at : Parse (Option TypeTag)
want_at bytes = if comes 58 bytes then (do
  w ← word_at bytes
  k ← kind_of (drop 1 w.0)
  Some (Some k, w.1)) else Some (None, bytes)

-- ---- quoted texts

abbrev pub put : Option ℕ → Option (List ℕ × List ℕ) → Option (List ℕ × List ℕ)
put b read = do
  c ← b
  r ← read
  Some (c ∷ r.0, r.1)

abbrev pub plain_byte : ℕ → ℕ → List ℕ → Option (List ℕ × List ℕ) → Option (List ℕ × List ℕ)
plain_byte quote b bytes read = if b == quote then Some ([], bytes) else (if b == 92 then read else put (Some b) read)

-- a text up to the quotation mark that ends it; escaped says whether a backslash stands before the bytes
abbrev pub text_at : ℕ → Bool → Parse (List ℕ)
text_at quote escaped [] = None
text_at quote true (b ∷ bytes) = put (unescaped b) (text_at quote false bytes)
text_at quote false (b ∷ bytes) = plain_byte quote b bytes (text_at quote (b == 92) bytes)

-- these bytes, where they are UTF-8
abbrev pub text_of : List ℕ → Option (List ℕ)
text_of w = if is_utf8 w then Some w else None

-- the rest of a text between two of these quotation marks, after the first
unfoldable pub quoted_at : ℕ → Parse (List ℕ)
quoted_at quote bytes = do
  t ← text_at quote false bytes
  if may_end t.1 then (do
    s ← text_of t.0
    Some (s, t.1)) else None

-- an unquoted text
abbrev pub plain_text_at : Parse (List ℕ)
plain_text_at bytes = do
  w ← run_at bytes
  s ← text_of w.0
  Some (s, w.1)

-- a text, quoted or not, before which no blank is left
unfoldable pub text_here : Parse (List ℕ)
text_here bytes = if begins 34 bytes then quoted_at 34 (drop 1 bytes) else plain_text_at bytes

-- the next text, quoted or not
unfoldable pub wording_at : Parse (List ℕ)
wording_at bytes = text_here (skip_blanks bytes)

-- the next text, quoted or not, unless a `:` comes next
unfoldable pub name_at : Parse (List ℕ)
name_at bytes = if comes 58 bytes then None else wording_at bytes

-- the text after `this`, where that is the next word
unfoldable pub this_at : Parse (Option (List ℕ))
this_at bytes = if (flag_at (codes "this") bytes).0 then (do
  s ← wording_at (flag_at (codes "this") bytes).1
  Some (Some s.0, s.1)) else Some (None, bytes)

-- whether `pure` or `impure` is the next word, and the bytes after it if one is
unfoldable pub purity_at : List ℕ → Option Bool × List ℕ
purity_at bytes =
    if (flag_at (codes "pure") bytes).0 then (Some true, (flag_at (codes "pure") bytes).1)
    else (if (flag_at (codes "impure") bytes).0 then (Some false, (flag_at (codes "impure") bytes).1)
    else (None, bytes))

-- ---- lists

-- Elements until the bytes stop them. The number bounds the turns: the count of the bytes is always enough.
unfoldable pub many : {A : Type 0} → (List ℕ → Bool) → Parse A → List A → ℕ → Parse (List A)
many stop one found zero bytes = if stop bytes then Some (found, bytes) else None
many stop one found (suc most) bytes = if stop bytes then Some (found, bytes) else (do
  x ← one bytes
  many stop one (found ++ x.0 ∷ []) most x.1)

-- elements between round brackets
abbrev pub bracketed_at : {A : Type 0} → Parse A → Parse (List A)
bracketed_at one bytes = if comes 40 bytes then (do
  x ← many (comes 41) one [] (length (after_bracket bytes)) (after_bracket bytes)
  Some (x.0, after_bracket x.1)) else None

-- texts between round brackets
unfoldable pub texts_at : Parse (List (List ℕ))
texts_at bytes = bracketed_at wording_at bytes

-- kinds of parameters between round brackets
unfoldable pub kinds_at : Parse (List TypeTag)
kinds_at bytes = bracketed_at param_kind_at bytes

-- ---- values

-- one thing, and then another
abbrev pub both : {A B : Type 0} → Parse A → Parse B → Parse (A × B)
both p q bytes = do
  x ← p bytes
  y ← q x.1
  Some ((x.0, y.0), y.1)

-- what is made of a thing that is read
abbrev pub made : {A B : Type 0} → (A → B) → Parse A → Parse B
made f p bytes = do
  x ← p bytes
  Some (f x.0, x.1)

-- what stands in a round bracket that comes next, before which no blank stands
abbrev pub inside : {A : Type 0} → Parse A → Parse A
inside p bytes = if begins 40 bytes then p (drop 1 bytes) else None

-- whether a mark comes next, and the bytes after it
abbrev pub mark_at : ℕ → List ℕ → Bool × List ℕ
mark_at b bytes = if begins b bytes then (true, drop 1 bytes) else (false, bytes)

unfoldable pub marks_at : List ℕ → Marks × List ℕ
marks_at bytes =
    let a = mark_at 33 bytes in
    let b = mark_at 37 a.1 in
    let c = mark_at 126 b.1 in
    (record { read_only = a.0; shared = b.0; locked = c.0 }, c.1)

-- the only character of a text
abbrev pub only_character : List ℕ → Option ℕ
only_character [] = None
only_character (c ∷ []) = Some c
only_character (c ∷ (d ∷ cs)) = None

-- the rest of a quoted character
unfoldable pub character_at : Parse ℕ
character_at bytes = do
  s ← quoted_at 39 bytes
  c ← only_character (chars s.0)
  Some (c, s.1)

-- what a word begins: a truth value, an integer, or what stands in brackets after it
unfoldable pub head_of : List ℕ → Option Head
head_of w =
    if bytes_eq w (codes "true") then Some (heads.Truth true)
    else (if bytes_eq w (codes "false") then Some (heads.Truth false)
    else (if bytes_eq w (codes "fn") then Some (heads.Pointer sorts.Normal)
    else (if bytes_eq w (codes "fn*") then Some (heads.Pointer sorts.Script)
    else (if bytes_eq w (codes "fn#") then Some (heads.Pointer sorts.Native)
    else (if bytes_eq w (codes "custom") then Some heads.Custom
    else option_map (λ z. heads.Int z) (int_of w))))))

-- a word that begins a value
unfoldable pub head_at : Parse Head
head_at bytes = do
  w ← run_at bytes
  h ← head_of w.0
  Some (h, w.1)

-- the next integer
unfoldable pub integer_at : Parse ℤ
integer_at bytes = do
  w ← word_at bytes
  z ← int_of w.0
  Some (z, w.1)

-- the type of a pointer of this sort
unfoldable pub type_at : Sort → Parse FnPtrType
type_at sorts.Normal bytes = Some (types.Normal, bytes)
type_at sorts.Script bytes = made (λ n. types.Script n) (num_at 64) bytes
type_at sorts.Native bytes = made (λ n. types.Native (record { 0 = n })) (num_at 32) bytes

-- entries that are put into a map, until the bracket that ends it; the number bounds the turns
unfoldable pub entries_at : Parse Tree → List (Bytes × Tree) → ℕ → Parse (List (Bytes × Tree))
entries_at one es zero bytes = if comes 125 bytes then Some (es, bytes) else None
entries_at one es (suc most) bytes = if comes 125 bytes then Some (es, bytes) else (do
  e ← both wording_at one bytes
  more ← put_new e.0 es
  entries_at one more most e.1)

-- the rest of a map, after its first bracket
unfoldable pub members_at : Parse Tree → Parse (List (Bytes × Tree))
members_at one bytes = do
  es ← entries_at one [] (length bytes) bytes
  Some (es.0, after_bracket es.1)

-- values, and the bracket that ends them
unfoldable pub items_at : ℕ → Parse Tree → Parse (List Tree)
items_at close one bytes = do
  ts ← many (comes close) one [] (length bytes) bytes
  Some (ts.0, after_bracket ts.1)

-- the rest of `()`
abbrev pub unit_at : Parse Kind
unit_at bytes = if comes 41 bytes then Some (unit, after_bracket bytes) else None

-- the rest of a pointer, after its first bracket
unfoldable pub pointer_at : Parse Tree → Sort → Parse Kind
pointer_at one sort bytes = do
  f ← wording_at bytes
  p ← type_at sort f.1
  ts ← items_at 41 one p.1
  Some (pointer f.0 (items_of ts.0) p.0, ts.1)

-- the rest of a custom value, after its first bracket
unfoldable pub custom_at : Parse Kind
custom_at bytes = do
  n ← num_at 32 bytes
  z ← integer_at n.1
  if comes 41 z.1 then Some (custom n.0 z.0, after_bracket z.1) else None

-- the rest of a value that begins with a word
unfoldable pub headed_at : Parse Tree → Head → Parse Kind
headed_at one (heads.Truth b) bytes = Some (boolean b, bytes)
headed_at one (heads.Int z) bytes = Some (integer z, bytes)
headed_at one (heads.Pointer sort) bytes = inside (pointer_at one sort) bytes
headed_at one heads.Custom bytes = inside custom_at bytes

-- a value whose marks are read, given how the values inside it are read
unfoldable pub kind_at : Parse Tree → Parse Kind
kind_at one bytes =
    if begins 40 bytes then unit_at (drop 1 bytes)
    else (if begins 34 bytes then made (λ s. text s) (quoted_at 34) (drop 1 bytes)
    else (if begins 39 bytes then made (λ c. character c) character_at (drop 1 bytes)
    else (if begins 91 bytes then made (λ ts. array (items_of ts)) (items_at 93 one) (drop 1 bytes)
    else (if begins 123 bytes then made (λ es. object (members_of es)) (members_at one) (drop 1 bytes)
    else (do
      h ← head_at bytes
      headed_at one h.0 h.1)))))

-- the next value, so deep at most
unfoldable pub tree_at : ℕ → Parse Tree
tree_at zero bytes = None
tree_at (suc deep) bytes =
    let m = marks_at (skip_blanks bytes) in (do
      k ← kind_at (tree_at deep) m.1
      Some (record { kind = k.0; marks = m.0 }, k.1))

-- the next value
abbrev pub value_at : Parse Tree
value_at bytes = tree_at 64 bytes

-- the value that all of the bytes are
unfoldable pub whole_value_at : List ℕ → Option Tree
whole_value_at bytes = if not (is_utf8 bytes) then None else (do
  t ← value_at bytes
  if is_end t.1 then Some t.0 else None)

-- ---- arguments

-- the word of a given value
unfoldable pub given_at : Parse Argument
given_at bytes = do
  w ← word_at bytes
  g ← given_of w.0
  Some (argument.Given g, w.1)

-- the next argument, which may be a given value where those are allowed
unfoldable pub argument_at : Bool → Parse Argument
argument_at given bytes = if given && comes 36 bytes then given_at bytes else (do
  t ← value_at bytes
  Some (argument.Value t.0, t.1))

-- arguments up to the end of the line
unfoldable pub arguments_at : Bool → Parse Arguments
arguments_at given bytes = do
  x ← many is_end (argument_at given) [] (length bytes) bytes
  Some (together x.0, x.1)
