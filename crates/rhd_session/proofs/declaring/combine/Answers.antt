use Rattle.std.proofs.Common.{◌≡◌, ◌≤◌, length, refl, rules, arith}
use Rattle.rhd_session.proofs.ManifestChanges.{combine_unheld, combine_held}
use Rattle.rhd_session.proofs.declaring.combine.Goals as goal

pub returns-then-at-len : goal.returns-then-at-len
returns-then-at-len c natives m =
    let n : c.len-then-at-len.result ≡ length c.args.manifests.now = search rules in
    let k : c.len.result ≡ length c.args.manifests.now = search rules in
    let past : length c.args.manifests.now ≤ c.args.id.0 = omega (arith, k, c.if-at-len.true) in
    combine_unheld natives c.args.manifests.now m c.args.id c.args.changed.now c.unknown.result _ _ c.unknown.ensures refl n past

pub returns : goal.returns
returns c natives m =
    let k : c.len.result ≡ length c.args.manifests.now = search rules in
    combine_held natives c.args.manifests.now m c.args.id c.args.changed.now c.combine_manifest.new.self c.combine_manifest.result (omega (arith, k, c.if-at-len.false)) c.combine_manifest.ensures
