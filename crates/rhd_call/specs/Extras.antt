-- What few calls show of their end.
use Rattle.std.specs.Prelude.{None}
use Rattle.rhd_call.specs.declared.node.Extras.{Extras}

-- none of it
abbrev pub no_extras : Extras
no_extras = record { first_after = None; printed = None; refused = None }
