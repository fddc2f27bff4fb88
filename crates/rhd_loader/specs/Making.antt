-- What making imported modules and a script of what is said answers.
use Rattle.std.specs.Prelude.{◌≡◌, List, Result, Ok, Err}
use Rattle.std.specs.List.{Contains}
use Rattle.rhd_value.specs.Tree.{Bytes}
use Rattle.rhd_hash.specs.declared.mixer.Seeds.{Seeds}
use Rattle.rhd_func.specs.declared.func.ScriptFuncDef.{ScriptFuncDef}
use Rattle.rhd_decl.specs.declared.fault.DeclFault.{DeclFault}
use Rattle.rhd_decl.specs.declared.fault.DeclFault.TheVariants.{HashCollision, OutOfMemory}
use Rattle.rhd_resolve.specs.declared.fault.ResolveFault.{ResolveFault}
use Rattle.rhd_resolve.specs.declared.fault.ResolveFault.TheVariants as refusal
use Rattle.rhd_resolve.specs.declared.loaded.LoadedScript.{LoadedScript}
use Rattle.rhd_loader.specs.declared.said.Said.{Said}
use Rattle.rhd_loader.specs.declared.said.Unsaid.{Unsaid}
use Rattle.rhd_loader.specs.declared.said.Unsaid.TheVariants as unsaid
use Rattle.rhd_loader.specs.Imports.{ImportedScripts}
use Rattle.rhd_loader.specs.Loads.{ClashIn, AreApart, IsScript, failed_with}

-- a fault tells of two keys of such a module that clash; want of memory has no cause
abbrev pub ToldClash : Seeds → List ScriptFuncDef → DeclFault → Type 0
ToldClash seeds defs OutOfMemory = Unit {0}
ToldClash seeds defs (HashCollision held new) = ClashIn seeds defs held new
ToldClash seeds defs other = ⊥

-- the same of one of some modules
abbrev pub SomeClash : Seeds → ImportedScripts → DeclFault → Type 0
SomeClash seeds imports OutOfMemory = Unit {0}
SomeClash seeds imports (HashCollision held new) = (i : Bytes × List ScriptFuncDef) × Contains imports i × ClashIn seeds i.1 held new
SomeClash seeds imports other = ⊥

-- what is made of what is said: a script, or two keys that clash; want of memory has no cause
abbrev pub Makes : Seeds → Said → Result LoadedScript ResolveFault → Type 0
Makes seeds s (Ok script) = AreApart seeds s.imports × IsScript seeds s script
Makes seeds s (Err (refusal.HashCollision held new)) = (i : Bytes × List ScriptFuncDef) × Contains s.imports i × ClashIn seeds i.1 held new
Makes seeds s (Err refusal.OutOfMemory) = Unit {0}
Makes seeds s (Err (refusal.Fault fault)) = ⊥

-- the fault of a text that isn't said to its end
abbrev pub StopsLoading : Unsaid → ResolveFault → Type 0
StopsLoading (unsaid.Fault text) fault = fault ≡ failed_with text
StopsLoading unsaid.Memory fault = fault ≡ refusal.OutOfMemory
