-- When two answers of a loader are alike.
use Rattle.std.specs.Prelude.{◌≡◌, Result, Ok, Err}
use Rattle.rhd_resolve.specs.declared.fault.ResolveFault.{ResolveFault}
use Rattle.rhd_resolve.specs.declared.fault.ResolveFault.TheVariants as refusal
use Rattle.rhd_resolve.specs.declared.loaded.LoadedScript.{LoadedScript}

-- two scripts with the same in them
pub record IsSameScript (a b : LoadedScript) : Type 0 where
  pub scope : a.scope.items ≡ b.scope.items
  pub imports : a.imports ≡ b.imports
  pub functions : a.functions.items ≡ b.functions.items
  pub source : a.source ≡ b.source
  pub doc : a.doc ≡ b.doc

-- two faults are alike: they are one, or both are collisions
abbrev pub AlikeFaults : ResolveFault → ResolveFault → Type 0
AlikeFaults (refusal.HashCollision held new) (refusal.HashCollision other added) = Unit {0}
AlikeFaults a b = a ≡ b

-- two answers are alike: they are one script, or alike faults
abbrev pub AreAlike : Result LoadedScript ResolveFault → Result LoadedScript ResolveFault → Type 0
AreAlike (Ok a) (Ok b) = IsSameScript a b
AreAlike (Err a) (Err b) = AlikeFaults a b
AreAlike a b = ⊥
