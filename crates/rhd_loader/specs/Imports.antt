-- The functions of imported modules, by the names of these.
use Rattle.std.specs.Prelude.{List, [], ◌∷◌, ◌++◌, if◌then◌else◌}
use Rattle.rhd_value.specs.Same.{text_eq}
use Rattle.rhd_value.specs.Tree.{Bytes}
use Rattle.rhd_func.specs.declared.func.ScriptFuncDef.{ScriptFuncDef}

-- the functions of each imported module, under its name
abbrev pub ImportedScripts : Type 0
ImportedScripts = List (Bytes × List ScriptFuncDef)

-- a function goes last in the module of its name, which stands where its name came first
abbrev pub with_import : Bytes → ScriptFuncDef → ImportedScripts → ImportedScripts
with_import name def [] = (name, def ∷ []) ∷ []
with_import name def (i ∷ more) = if text_eq name i.0 then (i.0, i.1 ++ def ∷ []) ∷ more else i ∷ with_import name def more
