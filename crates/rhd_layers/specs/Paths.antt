-- A PATH to a module, as it is written: names with `::` between two.
use Rattle.std.specs.Prelude.{ℕ, ◌&&◌, ◌==◌, List, [], ◌∷◌, if◌then◌else◌}

-- the byte before the first of these names
abbrev pub with_byte : ℕ → List (List ℕ) → List (List ℕ)
with_byte b [] = (b ∷ []) ∷ []
with_byte b (name ∷ names) = (b ∷ name) ∷ names

-- the names of a path, from the left: two colons end a name, and any other byte belongs to its name
unfoldable pub path_of : List ℕ → List (List ℕ)
path_of [] = [] ∷ []
path_of (b ∷ []) = (b ∷ []) ∷ []
path_of (b ∷ (c ∷ bytes)) = if b == 58 && c == 58 then [] ∷ path_of bytes else with_byte b (path_of (c ∷ bytes))
