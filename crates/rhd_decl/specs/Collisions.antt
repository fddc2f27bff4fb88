-- The refusal that a clash of two keys of a table is.
use Rattle.rhd_hash.specs.declared.fault.TableFault.{TableFault}
use Rattle.rhd_hash.specs.declared.fault.TableFault.TheVariants.{Clash, OutOfMemory as no_room}
use Rattle.rhd_decl.specs.declared.fault.DeclFault.{DeclFault}
use Rattle.rhd_decl.specs.declared.fault.DeclFault.TheVariants.{HashCollision, OutOfMemory}

abbrev pub collision : TableFault → DeclFault
collision (Clash held new) = HashCollision held new
collision no_room = OutOfMemory
