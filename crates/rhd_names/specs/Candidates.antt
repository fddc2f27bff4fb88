-- Which tokens may be written as a text: those as long, words for a letter in front, else symbols.
use Rattle.std.specs.Prelude.{ℕ, ◌==◌, Bool, false, not, ◌&&◌, List, [], ◌∷◌, length}
use Rattle.std.specs.Char.{is_ascii_alphabetic}

abbrev pub begins_with_letter : List ℕ → Bool
begins_with_letter [] = false
begins_with_letter (b ∷ bs) = is_ascii_alphabetic b

abbrev pub is_word_of : ℕ → List ℕ → Bool
is_word_of n text = begins_with_letter text && length text == n

abbrev pub is_symbol_of : ℕ → List ℕ → Bool
is_symbol_of n text = not (begins_with_letter text) && length text == n
