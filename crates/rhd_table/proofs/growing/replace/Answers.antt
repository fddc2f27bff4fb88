use Rattle.rhd_table.proofs.PutParts.{surely}
use Rattle.rhd_table.proofs.growing.replace.Goals as goal

pub returns : goal.returns
returns c = surely c.put_pair-done.result _ _ c.put_pair-done.ensures.pairs c.put_pair-done.ensures.absent c.requires.there
