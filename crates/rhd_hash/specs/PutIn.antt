-- How a value is put into a table of pairs.
use Rattle.std.specs.Prelude.{Bool, List, [], ◌∷◌, if◌then◌else◌}

-- an equal key keeps its place and gets the new value; else the pair goes last
abbrev pub put_in : {K V : Type 0} → (K → K → Bool) → K → V → List (K × V) → List (K × V)
put_in eq k v [] = (k, v) ∷ []
put_in eq k v (p ∷ ps) = if eq k p.0 then (p.0, v) ∷ ps else p ∷ put_in eq k v ps
