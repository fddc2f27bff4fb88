use Rattle.std.proofs.Common.{arith, take, drop}
use Rattle.std.proofs.Math.Seq.{take-add}
use Rattle.std.proofs.lemmas.List.{take_rest}
use Rattle.std.proofs.KnownBytes.{Appends-trans}
use Rattle.rhd_streams.proofs.writing.write_whole.Goals as goal

pub loop-done-preserved : goal.loop-done-preserved
loop-done-preserved g c =
    let bytes = c.args.bytes.now in
    let done = c.loop-done.done in
    record {
      wrote = rw (take-add done c.in-Ok.count bytes) (Appends-trans _ _ _ (take done bytes) (take c.in-Ok.count (drop done bytes)) c.loop-done.invariant.wrote (rw (take_rest bytes done) at c.in-Ok.ensures.bytes));
      later = omega (arith, c.in-Ok.ensures.cause.later);
      within = omega (arith, c.in-Ok.ensures.bound);
    }
