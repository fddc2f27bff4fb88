-- What is found in a table that was filled, which keys it has, and why it isn't filled.
use Rattle.std.proofs.Common.{◌≡◌, [], Option, None, Some, refl, ◌∙◌}
use Rattle.std.specs.Option.{option_map, option_or}
use Rattle.std.specs.Map.{lookup}
use Rattle.rhd_hash.specs.declared.key.Key.{Key}
use Rattle.rhd_hash.specs.Keys.{key_eq}
use Rattle.rhd_func.specs.declared.func.RhaiFunc.{RhaiFunc}
use Rattle.rhd_decl.specs.declared.declaration.Declaration.{Declaration}
use Rattle.rhd_table.specs.Pairs.{Pairs}
use Rattle.rhd_table.specs.Indexed.{filled}
use Rattle.rhd_table.proofs.Filled.{first_filled}

func_of : Declaration → RhaiFunc
func_of d = d.func

or_none : {A : Type 0} (o : Option A) → option_or o None ≡ o
or_none None = refl
or_none (Some x) = refl

pub first_filled_empty : (k : Key) (more : Pairs) → lookup (key_eq k) (filled more []) ≡ option_map (λ (x : Declaration). x.func) (lookup (key_eq k) more)
first_filled_empty k more = first_filled k more [] ∙ or_none (option_map (λ (x : Declaration). x.func) (lookup (key_eq k) more))
