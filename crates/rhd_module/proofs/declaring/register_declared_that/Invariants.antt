use Rattle.std.proofs.Common.{◌≡◌, Bool, ◌++◌}
use Rattle.std.specs.Fn.{FnReturnsAt}
use Rattle.rhd_decl.specs.declared.declaration.Declaration.{Declaration}
use Rattle.rhd_module.specs.Algebra.{that_pass}
use Rattle.rhd_table.specs.Tells.{Tells}
use Rattle.rhd_table.specs.Pairs.{Pairs, put_all}
use Rattle.rhd_module.specs.Manifests.{with_pairs}
use Rattle.rhd_module.proofs.declaring.register_declared_that.Given as goal

abbrev pub invariant-loop-key : goal.invariant-loop-key
invariant-loop-key g l =
    (front : Pairs) × (l.initial.key-iterator ≡ front ++ l.key-iterator)
    × ((tells : Declaration → Bool) → Tells (FnReturnsAt g.F.Fn l.passes) tells → l.made ≡ with_pairs (put_all (that_pass tells front) l.initial.made.own.eager) l.made.own.indexed l.initial.made)
    × (l.made.own.seeds ≡ l.initial.made.own.seeds) × (l.made.own.listed ≡ l.initial.made.own.listed)
