use Rattle.std.proofs.Common.{arith, rules}
use Rattle.rhd_files.proofs.Cuts.{lacks, before_none, cut}
use Rattle.rhd_files.proofs.paths.stem.Goals as goal

pub returns-in-Some : goal.returns-in-Some
returns-in-Some c = rw (cut 46 c.args.name.now _ _ c.in-Some.ensures.cases (omega arith)).before (search rules)

pub returns-in_default : goal.returns-in_default
returns-in_default c = rw (cut 46 c.args.name.now _ _ c.in-Some.ensures.cases (omega arith)).before (search rules)

pub returns-in_default-2 : goal.returns-in_default-2
returns-in_default-2 c =
    let none = rw c.in_default.is at c.rsplit_once.ensures.cases in
    rw (before_none 46 c.args.name.now (lacks 46 c.args.name.now none (omega arith)))
