-- How many look-ups a search may make. One is the question to one module for one key.
use Rattle.std.specs.Prelude.{ℕ, ◌+◌, ◌*◌, List, [], ◌∷◌, length}
use Rattle.rhd_module.specs.Tree.{ModuleTree}
use Rattle.rhd_engine.specs.Engine.{EngineLists, Imports}
use Rattle.rhd_dispatch.specs.Asks.{Asked, typed, script, native}
use Rattle.rhd_dispatch.specs.Patterns.{patterns}
use Rattle.rhd_dispatch.specs.Searched.{searched}

-- how many keys a question has: one of a script, and one for each pattern of a native
abbrev pub keys_of : Asked → ℕ
keys_of (typed name params this_type) = 1
keys_of (script name params) = 1
keys_of (native name kinds token) = length (patterns kinds)

-- each key of each question, in each module
abbrev pub most_looks : EngineLists → List ModuleTree → Imports → List Asked → ℕ
most_looks e libs imports [] = 0
most_looks e libs imports (asked ∷ asks) = keys_of asked * length (searched e libs imports) + most_looks e libs imports asks
