use Rattle.std.proofs.Common.{◌≡◌, ◌+◌, ◌≤◌, length, true}
use Rattle.std.specs.Prelude.{IsTrue}
use Rattle.std.specs.Str.{is_utf8}
use Rattle.std.specs.Str.Lines.{lines}
use Rattle.rhd_func.specs.Infos.{infos_of}
use Rattle.rhd_text.specs.ReadSession.{text_from, session_of}
use Rattle.rhd_text.proofs.TextHolds.{Holds}
use Rattle.rhd_text.proofs.reading.read_lines.Given as goal

abbrev pub invariant-loop-rest : goal.invariant-loop-rest
invariant-loop-rest g l =
    let natives = infos_of (λ z. (goal.PluginFunc-dyn g z).info z.1) l.natives in
    record {
      counted : l.number + length l.rest ≤ length l.bytes;
      lined : length (lines l.bytes) ≡ l.number + length (lines l.rest);
      holds : Holds natives l.number l.said;
      so_far : text_from natives (l.number + 1) l.said (lines l.rest) ≡ session_of natives (lines l.bytes);
      text : IsTrue l.known → is_utf8 l.rest ≡ true;
    }

abbrev pub decreases-loop-rest : goal.decreases-loop-rest
decreases-loop-rest g l = length l.rest
