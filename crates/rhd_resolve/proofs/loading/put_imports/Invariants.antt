use Rattle.std.proofs.Common.{◌≡◌, take}
use Rattle.rhd_resolve.specs.Loading.{imported}
use Rattle.rhd_resolve.proofs.loading.put_imports.Given as goal

abbrev pub invariant-loop-name : goal.invariant-loop-name
invariant-loop-name l = l.target ≡ record { own = record l.initial.target.own { indexed = l.target.own.indexed }; subs = imported (take l.name-index l.name-items) l.initial.target.subs }
