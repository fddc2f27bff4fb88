-- What is read of a line that defines a function.
use Rattle.std.proofs.Common.{◌≡◌, ℕ, List, Option, Some, None, refl}
use Rattle.std.specs.Option.{option_map}
use Rattle.rhd_func.specs.declared.func.ScriptFuncDef.{ScriptFuncDef}
use Rattle.rhd_text.specs.Rows.{script_operands, as_script, from_then}
use Rattle.rhd_syntax.specs.Reading.{◌>>=◌, wording_at}
use Rattle.rhd_text.specs.ReadRows.{operands_at, row_at, scripted_at}
use Rattle.rhd_text.proofs.PlanLaws.{mapped}
use Rattle.rhd_loader.specs.declared.keyword.ModuleWord.TheVariants as words
use Rattle.rhd_loader.specs.declared.part.ModulePart.TheVariants as parts
use Rattle.rhd_loader.specs.Rows.{module_form, anywhere}

pub fn_row : (bytes : List ℕ) → row_at anywhere (module_form words.Fn) bytes ≡ option_map (λ def. parts.Fn def) (scripted_at bytes)
unfolding row_at scripted_at
fn_row bytes = mapped (λ def. parts.Fn def) script_operands as_script bytes

import_read : (w : Option (List ℕ × List ℕ)) → (w >>= λ x. operands_at script_operands (from_then script_operands as_script (option_map (λ (def : ScriptFuncDef). parts.Import x.0 def))) x.1)
    ≡ (w >>= λ x. option_map (λ (def : ScriptFuncDef). parts.Import x.0 def) (operands_at script_operands as_script x.1))
import_read None = refl
import_read (Some x) = mapped (λ def. parts.Import x.0 def) script_operands as_script x.1

pub import_row : (bytes : List ℕ) → row_at anywhere (module_form words.Import) bytes ≡ (wording_at bytes >>= λ x. option_map (λ def. parts.Import x.0 def) (scripted_at x.1))
unfolding row_at scripted_at
import_row bytes = import_read (wording_at bytes)
