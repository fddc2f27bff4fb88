use Rattle.std.proofs.Common.{length}
use Rattle.std.specs.Str.Lines.{lines}
use Rattle.rhd_func.specs.Infos.{infos_of}
use Rattle.rhd_plan.proofs.HeldNatives.{count_infos}
use Rattle.rhd_text.proofs.SessionLaws.{reads, reads_no_other, names_no_other}
use Rattle.rhd_text.proofs.TextHolds.{read_holds, limits_allowed, natives_held, manifests_fit, commands_few}
use Rattle.rhd_text.proofs.reading.read_text.Goals as goal

pub returns-clause-reads : goal.returns-clause-reads
returns-clause-reads g c = reads (infos_of (λ z. (goal.PluginFunc-dyn g z).info z.1) c.args.natives.now) (lines c.args.bytes.now) c.read_lines.result c.read_lines.ensures.reads

pub returns-clause-text : goal.returns-clause-text
returns-clause-text g c = reads_no_other (infos_of (λ z. (goal.PluginFunc-dyn g z).info z.1) c.args.natives.now) (lines c.args.bytes.now) c.read_lines.result c.read_lines.ensures.reads

pub returns-clause-bad : goal.returns-clause-bad
returns-clause-bad g c = names_no_other (infos_of (λ z. (goal.PluginFunc-dyn g z).info z.1) c.args.natives.now) (lines c.args.bytes.now) c.read_lines.result c.read_lines.ensures.reads

pub returns-clause-limits : goal.returns-clause-limits
returns-clause-limits g c =
    let natives = infos_of (λ z. (goal.PluginFunc-dyn g z).info z.1) c.args.natives.now in
    limits_allowed natives (length (lines c.args.bytes.now)) c.read_lines.result (read_holds natives (lines c.args.bytes.now) c.read_lines.result (returns-clause-reads g c))

pub returns-clause-builtins : goal.returns-clause-builtins
returns-clause-builtins g c =
    let natives = infos_of (λ z. (goal.PluginFunc-dyn g z).info z.1) c.args.natives.now in
    natives_held natives (length c.args.natives.now.items.items) (length (lines c.args.bytes.now)) c.read_lines.result
    (count_infos (λ z. (goal.PluginFunc-dyn g z).info z.1) c.args.natives.now)
    (read_holds natives (lines c.args.bytes.now) c.read_lines.result (returns-clause-reads g c))

pub returns-clause-manifests : goal.returns-clause-manifests
returns-clause-manifests g c =
    let natives = infos_of (λ z. (goal.PluginFunc-dyn g z).info z.1) c.args.natives.now in
    manifests_fit natives (length (lines c.args.bytes.now)) c.read_lines.result (read_holds natives (lines c.args.bytes.now) c.read_lines.result (returns-clause-reads g c))

pub returns-clause-count : goal.returns-clause-count
returns-clause-count g c =
    let natives = infos_of (λ z. (goal.PluginFunc-dyn g z).info z.1) c.args.natives.now in
    commands_few natives (length (lines c.args.bytes.now)) (length c.args.bytes.now) c.read_lines.result (read_holds natives (lines c.args.bytes.now) c.read_lines.result (returns-clause-reads g c)) c.read_lines.ensures.few
