-- What the owner of a module is once the module that it lent is written.
use Rattle.std.specs.Prelude.{Result}
use Rattle.std.specs.Borrow.{LendsIfOk, MutBor, Fml}
use Rattle.rhd_value.specs.declared.memory.OutOfMemory.{OutOfMemory}
use Rattle.rhd_module.specs.Tree.{ModuleTree}
use Rattle.rhd_module.specs.contracts.module.Module as own
use Rattle.rhd_layers.specs.contracts.shared.SharedModule as shared

-- the module as it was written; where nothing is lent, the owner's module stays
abbrev pub LendsModule : MutBor ModuleTree → Result (MutBor ModuleTree) OutOfMemory → Fml
LendsModule s r = LendsIfOk shared.the_row own.the_row s r (λ w. w) s.now
