use Rattle.std.proofs.Common.{◌+◌, length, ap, arith}
use Rattle.std.specs.Str.Lines.{lines}
use Rattle.rhd_func.specs.Infos.{infos_of}
use Rattle.rhd_text.proofs.SessionLaws.{goes_on}
use Rattle.rhd_text.proofs.TextHolds.{after_holds}
use Rattle.rhd_text.proofs.reading.read_lines.Goals as goal

pub loop-rest-preserved : goal.loop-rest-preserved
loop-rest-preserved g c =
    let natives = infos_of (λ z. (goal.PluginFunc-dyn g z).info z.1) c.args.natives.now in
    let n = c.loop-rest.number + 1 in
    let line = c.first_line.result.0.now in
    record {
      counted = omega (arith, c.first_line.ensures.shorter, c.loop-rest.invariant.counted);
      lined = omega (arith, ap length c.first_line.ensures.lines, c.loop-rest.invariant.lined);
      holds = after_holds natives n c.loop-rest.number c.loop-rest.said c.read_line.new.said line c.in-Ok.ensures c.loop-rest.invariant.holds;
      so_far = goes_on natives n c.loop-rest.said c.read_line.new.said line (lines c.first_line.result.1.now) (lines c.loop-rest.rest.now) _ c.first_line.ensures.lines c.in-Ok.ensures c.loop-rest.invariant.so_far;
      text = λ known. c.first_line.ensures.rest_text (c.loop-rest.invariant.text known);
    }
