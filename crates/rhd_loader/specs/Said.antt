-- WHAT THE LINES OF A MODULE TEXT HAVE SAID so far, and what one more makes of it.
use Rattle.std.specs.Prelude.{[], ◌∷◌, ◌++◌, Option, Some, None, Result, Ok, Err}
use Rattle.rhd_value.specs.Tree.{Bytes}
use Rattle.rhd_loader.specs.declared.part.ModulePart.{ModulePart}
use Rattle.rhd_loader.specs.declared.part.ModulePart.TheVariants as parts
use Rattle.rhd_loader.specs.declared.said.Said.{Said}
use Rattle.rhd_loader.specs.Imports.{with_import}

-- what is said before the first line
abbrev pub nothing_said : Said
nothing_said = record { scope = []; functions = []; imports = []; doc = [] }

-- What is said with a part more, or the text of the fault that the part is. A later documentation replaces an earlier one.
-- Functions stand in the order of their lines: where a module or a library is made of them, a later one of an equal key replaces
-- an earlier one.
abbrev pub with_part : ModulePart → Said → Result Said Bytes
with_part (parts.Var aliases t) s = Ok (record s { scope = s.scope ++ record { value = t; aliases = aliases } ∷ [] })
with_part (parts.Fn def) s = Ok (record s { functions = s.functions ++ def ∷ [] })
with_part (parts.Import name def) s = Ok (record s { imports = with_import name def s.imports })
with_part (parts.Doc text) s = Ok (record s { doc = text })
with_part (parts.Fault text) s = Err text

-- the same with a line more, which may say nothing
abbrev pub with_line : Option ModulePart → Said → Result Said Bytes
with_line None s = Ok s
with_line (Some p) s = with_part p s
