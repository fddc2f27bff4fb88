-- How texts and characters are written: between quotation marks, with escapes.
use Rattle.std.specs.Prelude.{ℕ, List, [], ◌∷◌, ◌++◌, ◌==◌, if◌then◌else◌}
use Rattle.std.specs.List.{flat_map}
use Rattle.std.specs.Char.{encode_utf8}

-- a byte between two of these quotation marks: \\, the mark itself, \n, \t and \r are escaped, and no other
abbrev pub escaped : ℕ → ℕ → List ℕ
escaped quote b =
    if b == 92 then 92 ∷ 92 ∷ []
    else (if b == quote then 92 ∷ quote ∷ []
    else (if b == 10 then 92 ∷ 110 ∷ []
    else (if b == 9 then 92 ∷ 116 ∷ []
    else (if b == 13 then 92 ∷ 114 ∷ []
    else b ∷ []))))

-- bytes between two of these quotation marks
unfoldable pub quoted_by : ℕ → List ℕ → List ℕ
quoted_by quote text = (quote ∷ []) ++ flat_map (escaped quote) text ++ (quote ∷ [])

-- a text, as "hello"
abbrev pub quoted : List ℕ → List ℕ
quoted text = quoted_by 34 text

-- a character, as 'h'
abbrev pub quoted_char : ℕ → List ℕ
quoted_char c = quoted_by 39 (encode_utf8 c)
