-- How the hashes of a call are shown.
use Rattle.std.specs.Prelude.{ℕ, List, ◌++◌, ◌==◌, Option, None, Some, if◌then◌else◌, codes, decimal}
use Rattle.rhd_hash.specs.declared.call_hashes.FnCallHashes.{FnCallHashes}

abbrev pub shown_pair : Option ℕ → ℕ → List ℕ
shown_pair None native = decimal native ++ codes " (native only)"
shown_pair (Some script) native = if script == native then decimal native else codes "(" ++ decimal script ++ codes ", " ++ decimal native ++ codes ")"

abbrev pub shown_hashes : FnCallHashes → List ℕ
shown_hashes hashes = shown_pair hashes.script hashes.native
