use Rattle.std.proofs.Common.{sym, ap, ◌∙◌}
use Rattle.std.specs.Prelude.{Some, None}
use Rattle.std.specs.Option.{option_copied}
use Rattle.rhd_dispatch.proofs.Founds.{found_own}
use Rattle.rhd_dispatch.proofs.search.look_own.Goals as goal

pub returns-in-Some-clause-found : goal.returns-in-Some-clause-found
returns-in-Some-clause-found c = found_own c.args.layer c.args.place.now c.args.key.now (Some c.in-Some.func.now) (sym (ap option_copied c.in-Some.is) ∙ c.get_hashed_fn.ensures.found)

pub returns-in-None-clause-found : goal.returns-in-None-clause-found
returns-in-None-clause-found c = found_own c.args.layer c.args.place.now c.args.key.now None (sym (ap option_copied c.in-None.is) ∙ c.get_hashed_fn.ensures.found)
