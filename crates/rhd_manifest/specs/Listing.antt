-- The functions of some manifests, as lists of entries that are shared.
use Rattle.std.specs.Prelude.{Bool, true, false, List, [], ◌∷◌, ◌++◌, reverse}
use Rattle.std.specs.declared.rc.Rc.{Rc}
use Rattle.rhd_manifest.specs.Entry.{Entry}

-- from the highest precedence to the lowest: the last of the last list first
abbrev pub listed_in : {Z : Type 0} → List (Rc (List Entry) Z) → List Entry
listed_in [] = []
listed_in (part ∷ above) = listed_in above ++ reverse part.value

-- nothing is in a list
abbrev pub is_none_of : {A : Type 0} → List A → Bool
is_none_of [] = true
is_none_of (a ∷ more) = false
