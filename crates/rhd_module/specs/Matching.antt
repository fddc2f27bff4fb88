-- Which declarations of natives that have a parameter of any type may match the kinds of some arguments.
use Rattle.std.specs.Prelude.{ℕ, Bool, List}
use Rattle.std.specs.List.{list_any}
use Rattle.rhd_value.specs.Tree.{Bytes}
use Rattle.rhd_value.specs.declared.tag.TypeTag.{TypeTag}
use Rattle.rhd_table.specs.NativeIndex.{dynamic_matches}
use Rattle.rhd_module.specs.Tree.{ModuleTree}

-- some declaration of the module that isn't listed has such a key
abbrev pub may_match : ModuleTree → ℕ → Bytes → List TypeTag → Bool
may_match m n name kinds = list_any (λ p. dynamic_matches n name kinds p.0) m.own.eager
