-- A function that is put into the table of imported modules.
use Rattle.std.proofs.Common.{◌≡◌, Bool, true, false, cond, List, [], ◌∷◌, ◌++◌, Some, None, Result, Ok, Err, refl, sym, ap, ◌∙◌}
use Rattle.std.specs.Prelude.{if◌then◌else◌, is_ok}
use Rattle.std.specs.Result.{OnOk}
use Rattle.std.specs.Map.{lookup, set_value}
use Rattle.indexmap.specs.IndexMap.{insert_entry}
use Rattle.rhd_value.specs.Same.{text_eq}
use Rattle.rhd_value.specs.Tree.{Bytes}
use Rattle.rhd_func.specs.declared.func.ScriptFuncDef.{ScriptFuncDef}
use Rattle.rhd_loader.specs.Imports.{ImportedScripts, with_import}

module _ (name : Bytes) (def : ScriptFuncDef) where
  there_step : (i : Bytes × List ScriptFuncDef) (more : ImportedScripts) (was : List ScriptFuncDef) (same : Bool) → cond same (Some i.1) (lookup (text_eq name) more) ≡ Some was
      → (lookup (text_eq name) more ≡ Some was → set_value (text_eq name) more (was ++ def ∷ []) ≡ with_import name def more)
      → cond same ((i.0, was ++ def ∷ []) ∷ more) (i ∷ set_value (text_eq name) more (was ++ def ∷ [])) ≡ cond same ((i.0, i.1 ++ def ∷ []) ∷ more) (i ∷ with_import name def more)
  there_step i more was true e ih = let same : i.1 ≡ was = cc in ap (λ (w : List ScriptFuncDef). (i.0, w ++ def ∷ []) ∷ more) (sym same)
  there_step i more was false e ih = ap (λ (is : ImportedScripts). i ∷ is) (ih e)

  -- where the name has functions, they get one more
  added_there : (is : ImportedScripts) (was : List ScriptFuncDef) → lookup (text_eq name) is ≡ Some was → set_value (text_eq name) is (was ++ def ∷ []) ≡ with_import name def is
  added_there [] was e = absurd cc
  added_there (i ∷ more) was e = there_step i more was (text_eq name i.0) e (added_there more was)

  first_step : (i : Bytes × List ScriptFuncDef) (more : ImportedScripts) (same : Bool) → cond same (Some i.1) (lookup (text_eq name) more) ≡ None
      → (lookup (text_eq name) more ≡ None → insert_entry text_eq more name (def ∷ []) ≡ with_import name def more)
      → cond same ((i.0, def ∷ []) ∷ more) (i ∷ insert_entry text_eq more name (def ∷ [])) ≡ cond same ((i.0, i.1 ++ def ∷ []) ∷ more) (i ∷ with_import name def more)
  first_step i more true e ih = absurd cc
  first_step i more false e ih = ap (λ (is : ImportedScripts). i ∷ is) (ih e)

  -- where it has none, it goes last
  pub added_first : (is : ImportedScripts) → lookup (text_eq name) is ≡ None → insert_entry text_eq is name (def ∷ []) ≡ with_import name def is
  added_first [] e = refl
  added_first (i ∷ more) e = first_step i more (text_eq name i.0) e (added_first more)

  -- what was written through the place of the name, unless it failed
  pub added_through : {A E : Type 0} (r : Result A E) (is js : ImportedScripts) (was w : List ScriptFuncDef) → w ≡ (if is_ok r then was ++ def ∷ [] else was)
      → lookup (text_eq name) is ≡ Some was → js ≡ set_value (text_eq name) is w → OnOk r (js ≡ with_import name def is)
  added_through (Ok x) is js was w e found writes = writes ∙ ap (λ (ds : List ScriptFuncDef). set_value (text_eq name) is ds) e ∙ added_there is was found
  added_through (Err x) is js was w e found writes = tt
