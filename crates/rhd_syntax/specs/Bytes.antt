-- BYTES AND WORDS: which bytes part words, and what a word may say.
use Rattle.std.specs.Prelude.{ℕ, ◌^◌, Bool, true, ◌&&◌, ◌||◌, not, List, [], ◌∷◌, length, drop, Option, Some, None, ℤ, pos, neg_ℤ, nat_le, nat_lt, ◌==◌, slice_index, codes, take, if◌then◌else◌}
use Rattle.std.specs.Option.{option_map}
use Rattle.std.specs.Str.{bytes_eq}
use Rattle.std.specs.List.{list_all}
use Rattle.std.specs.Char.{is_ascii_digit}
use Rattle.std.specs.Str.Parse.{digits_value}
use Rattle.rhd_value.specs.declared.tag.TypeTag.{TypeTag}
use Rattle.rhd_value.specs.declared.tag.TypeTag.TheVariants as tags
use Rattle.rhd_syntax.specs.declared.given.Given.{Given}
use Rattle.rhd_syntax.specs.declared.given.Given.TheVariants.{This, Last, Arg}
use Rattle.rhd_syntax.specs.declared.printers.Printer.{Printer}
use Rattle.rhd_syntax.specs.declared.printers.Printer.TheVariants as printers

-- a space or a tab
abbrev pub is_blank : ℕ → Bool
is_blank b = b == 32 || b == 9

-- ( ) [ ] { }
abbrev pub is_bracket : ℕ → Bool
is_bracket b = b == 40 || b == 41 || b == 91 || b == 93 || b == 123 || b == 125

-- a byte of an unquoted word: no blank, no bracket and no quotation mark
abbrev pub is_word_byte : ℕ → Bool
is_word_byte b = not (is_blank b || is_bracket b || b == 34 || b == 39)

-- what stands after a word: the end of the line, a blank or a bracket
abbrev pub may_end : List ℕ → Bool
may_end [] = true
may_end (b ∷ bytes) = is_blank b || is_bracket b

-- the first byte
abbrev pub begins : ℕ → List ℕ → Bool
begins b bytes = slice_index bytes 0 == b

-- the byte that a backslash and this byte stand for
abbrev pub unescaped : ℕ → Option ℕ
unescaped b =
    if b == 92 then Some 92
    else (if b == 34 then Some 34
    else (if b == 39 then Some 39
    else (if b == 110 then Some 10
    else (if b == 116 then Some 9
    else (if b == 114 then Some 13
    else None)))))

-- one digit or more
abbrev pub is_digits : List ℕ → Bool
is_digits w = nat_lt 0 (length w) && list_all is_ascii_digit w

-- the number of 1 to 20 digits, where it has so many bits
unfoldable pub num_of : ℕ → List ℕ → Option ℕ
num_of bits w = if is_digits w && nat_le (length w) 20 && nat_lt (digits_value 10 w) (2 ^ bits) then Some (digits_value 10 w) else None

-- `$this`, `$last`, or `$` and the number of an argument
unfoldable pub given_of : List ℕ → Option Given
given_of w =
    if bytes_eq w (codes "$this") then Some This
    else (if bytes_eq w (codes "$last") then Some Last
    else (if begins 36 w then option_map (λ n. Arg n) (num_of 64 (drop 1 w)) else None))

-- `custom` and the number of a custom kind
unfoldable pub custom_of : List ℕ → Option TypeTag
custom_of w = if bytes_eq (take 6 w) (codes "custom") then option_map (λ n. tags.Custom n) (num_of 32 (drop 6 w)) else None

-- a kind of values
unfoldable pub value_kind_of : List ℕ → Option TypeTag
value_kind_of w =
    if bytes_eq w (codes "unit") then Some tags.Unit
    else (if bytes_eq w (codes "bool") then Some tags.Bool
    else (if bytes_eq w (codes "int") then Some tags.Int
    else (if bytes_eq w (codes "char") then Some tags.Char
    else (if bytes_eq w (codes "text") then Some tags.Text
    else (if bytes_eq w (codes "array") then Some tags.Array
    else (if bytes_eq w (codes "map") then Some tags.Map
    else (if bytes_eq w (codes "fn") then Some tags.FnPtr
    else custom_of w)))))))

-- a kind of values, or `dynamic`, which stands for any
unfoldable pub kind_of : List ℕ → Option TypeTag
kind_of w = if bytes_eq w (codes "dynamic") then Some tags.Dynamic else value_kind_of w

-- a kind of parameters: one of values, any, or a text in one of Rust's two forms
unfoldable pub param_kind_of : List ℕ → Option TypeTag
param_kind_of w = if bytes_eq w (codes "str") then Some tags.Str else (if bytes_eq w (codes "string") then Some tags.StdString else kind_of w)

-- the printer of `print`, or that of `debug`
unfoldable pub printer_of : List ℕ → Option Printer
printer_of w = if bytes_eq w (codes "print") then Some printers.Print else (if bytes_eq w (codes "debug") then Some printers.Debug else None)

-- digits, or `-` and digits
abbrev pub is_signed_digits : List ℕ → Bool
is_signed_digits w = if begins 45 w then is_digits (drop 1 w) else is_digits w

-- the integer of such a word, where it has 64 bits
abbrev pub fitting_int : List ℕ → Option ℤ
fitting_int w =
    if begins 45 w
    then (if nat_le (digits_value 10 (drop 1 w)) (2 ^ 63) then Some (neg_ℤ (pos (digits_value 10 (drop 1 w)))) else None)
    else (if nat_lt (digits_value 10 w) (2 ^ 63) then Some (pos (digits_value 10 w)) else None)

-- the integer of any number of digits with or without `-`, where it has 64 bits
unfoldable pub int_of : List ℕ → Option ℤ
int_of w = if is_signed_digits w then fitting_int w else None
