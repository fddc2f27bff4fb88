-- THE MAP THAT NAMES WITH VALUES MAKE: its entries stand in ascending order of names, whatever order they are put in.
use Rattle.std.specs.Prelude.{List, [], ◌∷◌, Option, Some, None, option_and_then}
use Rattle.rhd_value.specs.Tree.{Bytes, Tree}
use Rattle.rhd_value.specs.Entries.{found, put}

-- a map with one entry more, unless its name stands there already
abbrev pub put_or_none : Option Tree → Bytes × Tree → List (Bytes × Tree) → Option (List (Bytes × Tree))
put_or_none None e es = Some (put e.0 e.1 es)
put_or_none (Some t) e es = None

abbrev pub put_new : Bytes × Tree → List (Bytes × Tree) → Option (List (Bytes × Tree))
put_new e es = put_or_none (found e.0 es) e es

-- a map with these entries more, put in one after the other; none where a name comes twice
abbrev pub put_each : List (Bytes × Tree) → List (Bytes × Tree) → Option (List (Bytes × Tree))
put_each es [] = Some es
put_each es (p ∷ ps) = option_and_then (λ more. put_each more ps) (put_new p es)
