use Rattle.std.proofs.Common.{ap, ◌∙◌, nat_eq}
use Rattle.std.specs.Map.{lookup}
use Rattle.rhd_hash.specs.Parts.{mixed}
use Rattle.rhd_hash.proofs.Tables.{lookup-hashed}
use Rattle.rhd_hash.proofs.table.KeyTable.pair_by_hash.Goals as goal

pub returns : goal.returns
returns g c = rw (← c.self.view_is) record {
  apart = c.self.invariant.apart;
  pair = c.get.ensures.value ∙ ap (lookup (nat_eq c.args.hash)) c.self.invariant.behind ∙ lookup-hashed (mixed c.self.inside.seeds) c.args.hash _;
}
