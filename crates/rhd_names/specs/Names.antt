-- WHAT A NAME MAY BE, and the tables of what is reserved.
use Rattle.std.specs.Prelude.{ℕ, Bool, not, ◌&&◌, ◌||◌, ◌==◌, List, [], ◌∷◌, take, codes, is_none, nat_eq}
use Rattle.std.specs.List.{list_any, list_all, prefix_len, starts_with}
use Rattle.std.specs.Char.{is_ascii_alphabetic, is_ascii_digit, is_ascii_alphanumeric}
use Rattle.std.specs.Str.{bytes_eq}
use Rattle.rhd_names.specs.Tokens.{token_of}

-- a letter, a digit or `_`
abbrev pub is_name_byte : ℕ → Bool
is_name_byte b = is_ascii_alphanumeric b || b == 95

-- the place of the first letter; the end where there is none
abbrev pub letters_begin : List ℕ → ℕ
letters_begin name = prefix_len (λ b. not (is_ascii_alphabetic b)) name

-- only letters, digits and `_`, with a letter, and no digit before the first letter
unfoldable pub is_identifier : List ℕ → Bool
is_identifier name = list_all is_name_byte name && list_any is_ascii_alphabetic name && not (list_any is_ascii_digit (take (letters_begin name) name))

abbrev pub reserved_words : List (List ℕ)
reserved_words =
    codes "type_of"
    ∷ codes "is_shared"
    ∷ codes "is_def_fn"
    ∷ codes "is_def_var"
    ∷ codes "print"
    ∷ codes "debug"
    ∷ codes "Fn"
    ∷ codes "eval"
    ∷ codes "call"
    ∷ codes "curry"
    ∷ codes "this"
    ∷ codes "var"
    ∷ codes "static"
    ∷ codes "goto"
    ∷ codes "exit"
    ∷ codes "match"
    ∷ codes "case"
    ∷ codes "public"
    ∷ codes "protected"
    ∷ codes "new"
    ∷ codes "use"
    ∷ codes "with"
    ∷ codes "module"
    ∷ codes "package"
    ∷ codes "super"
    ∷ codes "spawn"
    ∷ codes "thread"
    ∷ codes "go"
    ∷ codes "sync"
    ∷ codes "async"
    ∷ codes "await"
    ∷ codes "yield"
    ∷ codes "void"
    ∷ codes "null"
    ∷ codes "nil"
    ∷ codes "default"
    ∷ []

abbrev pub reserved_symbols : List (List ℕ)
reserved_symbols =
    codes "==="
    ∷ codes "!=="
    ∷ codes "->"
    ∷ codes "<-"
    ∷ codes ":="
    ∷ codes "~"
    ∷ codes "@"
    ∷ codes "$"
    ∷ codes "#"
    ∷ codes "++"
    ∷ codes "--"
    ∷ codes "?"
    ∷ []

abbrev pub is_one_of : List ℕ → List (List ℕ) → Bool
is_one_of name names = list_any (bytes_eq name) names

-- a reserved word or symbol
unfoldable pub is_reserved : List ℕ → Bool
is_reserved name = is_one_of name reserved_words || is_one_of name reserved_symbols

-- an identifier that is neither reserved nor a token
abbrev pub is_function_name : List ℕ → Bool
is_function_name name = is_identifier name && not (is_reserved name) && is_none (token_of name)

-- it begins with `anon$`
unfoldable pub is_anonymous : List ℕ → Bool
is_anonymous name = starts_with nat_eq name (codes "anon$")
