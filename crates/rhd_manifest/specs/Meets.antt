-- Which of some entries is the first that a test passes.
use Rattle.std.specs.Prelude.{◌≡◌, ◌⊎◌, Bool, true, false, List, [], ◌∷◌, Option, None, Some}
use Rattle.rhd_manifest.specs.Entry.{Entry}

-- The test answers as told: it fails each entry before the one that is found, and passes that one; or it fails all.
abbrev pub IsFirstThatMeets : (Entry → Bool → Type 0) → List Entry → Option Entry → Type 0
IsFirstThatMeets answers [] found = found ≡ None
IsFirstThatMeets answers (e ∷ es) found = (answers e true × (found ≡ Some e)) ⊎ (answers e false × IsFirstThatMeets answers es found)
