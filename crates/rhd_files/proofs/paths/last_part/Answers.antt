use Rattle.std.proofs.Common.{sym, arith}
use Rattle.rhd_files.proofs.Cuts.{lacks, after_none, cut}
use Rattle.rhd_files.proofs.paths.last_part.Goals as goal

pub returns-in-Some : goal.returns-in-Some
returns-in-Some c = sym (cut 47 c.args.path.now _ _ c.in-Some.ensures.cases (omega arith)).after

pub returns-in-None : goal.returns-in-None
returns-in-None c = sym (after_none 47 c.args.path.now (lacks 47 c.args.path.now c.in-None.ensures.cases (omega arith)))
