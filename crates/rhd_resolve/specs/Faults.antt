-- The faults of resolvers.
use Rattle.std.specs.Prelude.{◌≡◌, Bool, true, false, ⊤}
use Rattle.rhd_value.specs.Tree.{Bytes}
use Rattle.rhd_value.specs.Seen.{fault_seen}
use Rattle.rhd_value.specs.declared.tag.Position.{Position}
use Rattle.rhd_value.specs.declared.fault.EvalAltResult.TheVariants as faults
use Rattle.rhd_hash.specs.declared.mixer.Seeds.{Seeds}
use Rattle.rhd_hash.specs.Table.{Clashes}
use Rattle.rhd_decl.specs.declared.fault.DeclFault.{DeclFault}
use Rattle.rhd_decl.specs.declared.fault.DeclFault.TheVariants as decl
use Rattle.rhd_resolve.specs.declared.fault.ResolveFault.{ResolveFault}
use Rattle.rhd_resolve.specs.declared.fault.ResolveFault.TheVariants as refusal

-- fault 12: there is no module of this path
abbrev pub not_found : Bytes → Position → ResolveFault
not_found path pos = refusal.Fault (faults.ErrorModuleNotFound path pos)

-- fault 13, which carries a fault; a collision and want of memory are handed on
abbrev pub in_module : ResolveFault → Bytes → Position → ResolveFault
in_module (refusal.Fault f) path pos = refusal.Fault (faults.ErrorInModule path (fault_seen f) pos)
in_module (refusal.HashCollision held new) path pos = refusal.HashCollision held new
in_module refusal.OutOfMemory path pos = refusal.OutOfMemory

-- a collision carries two keys that differ and have one hash
abbrev pub IsCollision : Seeds → ResolveFault → Type 0
IsCollision seeds (refusal.Fault f) = ⊤
IsCollision seeds (refusal.HashCollision held new) = Clashes seeds held new
IsCollision seeds refusal.OutOfMemory = ⊤

-- making the module of a script is refused for two keys that clash, and for want of memory
abbrev pub is_of_making : DeclFault → Bool
is_of_making (decl.HashCollision held new) = true
is_of_making (decl.IndexerNotAllowed key) = false
is_of_making decl.NotCallable = false
is_of_making (decl.UnknownNumber number count) = false
is_of_making decl.OutOfMemory = true

-- such a refusal is handed on
abbrev pub HandsOn : DeclFault → ResolveFault → Type 0
HandsOn (decl.HashCollision held new) fault = fault ≡ refusal.HashCollision held new
HandsOn decl.OutOfMemory fault = fault ≡ refusal.OutOfMemory
HandsOn other fault = ⊥
