use Rattle.std.proofs.Common.{◌≡◌, ◌++◌, List}
use Rattle.std.specs.List.{Contains}
use Rattle.rhd_value.specs.Tree.{Bytes}
use Rattle.rhd_func.specs.declared.func.ScriptFuncDef.{ScriptFuncDef}
use Rattle.rhd_loader.specs.Loads.{imports_of, AreApart}
use Rattle.rhd_loader.proofs.making.make_imports.Given as goal

abbrev pub invariant-loop-name : goal.invariant-loop-name
invariant-loop-name l = record {
  made : l.made ++ imports_of l.seeds l.name-iterator ≡ imports_of l.seeds l.imports;
  apart : AreApart l.seeds l.name-iterator → AreApart l.seeds l.imports;
  among : (i : Bytes × List ScriptFuncDef) → Contains l.name-iterator i → Contains l.imports i;
}
