-- What is known of files in memory.
use Rattle.std.specs.Prelude.{ℕ, List}
use Rattle.rhd_value.specs.Tree.{Bytes}

-- the text at each path, the numbers of the calls that are to fail, how many calls there were, and how many of them failed
pub record MemState : Type 0 where
  pub texts : List (Bytes × Bytes)
  pub fails : List ℕ
  pub calls : ℕ
  pub faults : ℕ
