use Rattle.std.proofs.Common.{List, subst}
use Rattle.rhd_func.specs.declared.func.ScriptFuncDef.{ScriptFuncDef}
use Rattle.rhd_loader.specs.Loads.{IsApart}
use Rattle.rhd_loader.proofs.making.put_import.Goals as goal

pub returns-clause-apart : goal.returns-clause-apart
returns-clause-apart c = subst (λ (defs : List ScriptFuncDef). IsApart c.args.seeds defs) c.as_slice.ensures c.in_ok-module.ensures.apart
