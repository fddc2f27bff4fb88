use Rattle.std.proofs.Common.{rules, arith, ◌≤◌, take, drop, ◌-◌, flat_map}
use Rattle.std.proofs.KnownBytes.{Appends-trans}
use Rattle.rhd_print.specs.PrintedReplies.{printed}
use Rattle.rhd_tool.proofs.PieceLaws.{longer, in_three, part_more, less_more}
use Rattle.rhd_tool.proofs.writing.write_replies.Goals as goal

pub returns-in_err-write_piece-clause-part : goal.returns-in_err-write_piece-clause-part
returns-in_err-write_piece-clause-part g c =
    let xs = c.args.replies.now in
    let done = c.loop-done.done in
    let end = c.min-end.result in
    let up : done ≤ end = omega (arith, c.saturating_add.ensures, c.min-end.ensures, c.loop-done-test.true) in
    rw (in_three printed xs done end up) (part_more _ _ _ (flat_map printed (take done xs)) (flat_map printed (take (end - done) (drop done xs))) (flat_map printed (drop end xs)) c.loop-done.invariant.wrote c.write_piece.ensures.part)

pub returns-in_err-write_piece-clause-short : goal.returns-in_err-write_piece-clause-short
returns-in_err-write_piece-clause-short g c = λ failed.
    let xs = c.args.replies.now in
    let done = c.loop-done.done in
    let end = c.min-end.result in
    let up : done ≤ end = omega (arith, c.saturating_add.ensures, c.min-end.ensures, c.loop-done-test.true) in
    rw (in_three printed xs done end up) (less_more _ _ _ (flat_map printed (take done xs)) (flat_map printed (take (end - done) (drop done xs))) (flat_map printed (drop end xs)) c.loop-done.invariant.wrote (c.in_err-write_piece.ensures.short (search (rules, failed))))

pub loop-done-preserved : goal.loop-done-preserved
loop-done-preserved g c =
    let xs = c.args.replies.now in
    let done = c.loop-done.done in
    let end = c.min-end.result in
    let up : done ≤ end = omega (arith, c.saturating_add.ensures, c.min-end.ensures, c.loop-done-test.true) in
    record {
      wrote = rw (longer printed xs done end up) (Appends-trans _ _ _ (flat_map printed (take done xs)) (flat_map printed (take (end - done) (drop done xs))) c.loop-done.invariant.wrote c.in_ok-write_piece.ensures.all);
      later = omega (arith, c.loop-done.invariant.later, c.in_ok-write_piece.ensures.cause.later);
      within = omega (arith, c.min-end.ensures);
    }
