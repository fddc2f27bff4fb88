-- The bytes of a text, wherever they lie.
use Rattle.std.specs.Prelude.{ℕ, List}
use Rattle.rhd_value.specs.declared.text.Place.{Place}
use Rattle.rhd_value.specs.declared.text.Place.TheVariants.{Short, Long}

abbrev pub bytes_at : Place → List ℕ
bytes_at (Short bytes) = bytes
bytes_at (Long bytes) = bytes
