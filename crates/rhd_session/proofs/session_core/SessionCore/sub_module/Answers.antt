use Rattle.std.proofs.Common.{◌≡◌, ◌≤◌, ◌<◌, length, refl, rules, arith, ap, ◌∙◌}
use Rattle.rhd_module.specs.Contents.{with_sub}
use Rattle.rhd_call.specs.declared.command.Command.TheVariants as commands
use Rattle.rhd_session.specs.Of.{world_of, frame_of}
use Rattle.rhd_engine.specs.Held.{names_held}
use Rattle.rhd_engine.proofs.HeldLaws.{all_at, all_set}
use Rattle.rhd_session.proofs.Declared.{goes_refused, refused_first, refused_second, at_place}
use Rattle.rhd_session.proofs.GlobalChanges.{sub_goes, sub_either}
use Rattle.rhd_session.proofs.session_core.SessionCore.sub_module.Goals as goal

pub returns-then-at-len-clause-goes : goal.returns-then-at-len-clause-goes
returns-then-at-len-clause-goes g c =
    let n : c.len-then-at-len.result ≡ length c.args.self.now.modules.items = search rules in
    let m : c.len.result ≡ length c.args.self.now.modules.items = search rules in
    let past : length c.args.self.now.modules.items ≤ c.args.id.0 = omega (arith, m, c.if-at-len.true) in
    goes_refused _ _ (commands.SubModule c.args.id c.args.name c.args.sub) c.unknown.result _ _ c.unknown.ensures (refused_first _ _ (commands.SubModule c.args.id c.args.name c.args.sub) c.args.id.0 (length c.args.self.now.modules.items) _ _ _ refl refl n past)

pub returns-then-from-len-clause-goes : goal.returns-then-from-len-clause-goes
returns-then-from-len-clause-goes g c =
    let m : c.len.result ≡ length c.args.self.now.modules.items = search rules in
    let h : c.args.id.0 < length c.args.self.now.modules.items = omega (arith, m, c.if-at-len.false) in
    let k : c.len-2.result ≡ length c.args.self.now.modules.items = search rules in
    let n : c.len-then-from-len.result ≡ length c.args.self.now.modules.items = search rules in
    let past : length c.args.self.now.modules.items ≤ c.args.sub.0 = omega (arith, k, c.if-from-len.true) in
    goes_refused _ _ (commands.SubModule c.args.id c.args.name c.args.sub) c.unknown-then-from-len.result _ _ c.unknown-then-from-len.ensures
    (refused_second _ _ (commands.SubModule c.args.id c.args.name c.args.sub) c.args.id.0 (length c.args.self.now.modules.items) c.args.sub.0 (length c.args.self.now.modules.items) _ _ _ refl h refl n past)

pub invariant_of-self-clause-modules_held : goal.invariant_of-self-clause-modules_held
invariant_of-self-clause-modules_held g c =
    let m : c.len.result ≡ length c.args.self.now.modules.items = search rules in
    let h : c.args.id.0 < length c.args.self.now.modules.items = omega (arith, m, c.if-at-len.false) in
    let there = at_place c.args.self.now.modules.items c.args.id.0 c.index_mut.result.now h c.index_mut.ensures.value in
    let held = all_at _ c.args.self.now.modules.items c.args.id.0 c.index_mut.result.now c.args.self.now.modules_held there in
    let k : c.len-2.result ≡ length c.args.self.now.modules.items = search rules in
    let b : c.args.sub.0 < length c.args.self.now.modules.items = omega (arith, k, c.if-from-len.false) in
    let child = all_at _ c.args.self.now.modules.items c.args.sub.0 c.index.result.now c.args.self.now.modules_held (at_place c.args.self.now.modules.items c.args.sub.0 _ b c.index.ensures) in
    all_set _ c.args.self.now.modules.items c.args.id.0 c.set_sub_module.new.self c.args.self.now.modules_held
    (sub_either c.set_sub_module.result _ c.args.name _ c.index_mut.result.now c.set_sub_module.new.self c.set_sub_module.ensures.ok c.set_sub_module.ensures.err (ap (names_held _) c.in_ok-child.ensures ∙ child) held)

pub returns-clause-goes : goal.returns-clause-goes
returns-clause-goes g c =
    let m : c.len.result ≡ length c.args.self.now.modules.items = search rules in
    let h : c.args.id.0 < length c.args.self.now.modules.items = omega (arith, m, c.if-at-len.false) in
    let k : c.len-2.result ≡ length c.args.self.now.modules.items = search rules in
    let b : c.args.sub.0 < length c.args.self.now.modules.items = omega (arith, k, c.if-from-len.false) in
    sub_goes (world_of (λ z. (goal.PluginFunc-dyn g z).info z.1) c.args.self.now) _ (frame_of c.args.self.now) c.args.id c.args.sub c.args.name c.index_mut.result.now _ c.set_sub_module.new.self
    (at_place c.args.self.now.modules.items c.args.id.0 c.index_mut.result.now h c.index_mut.ensures.value) (at_place c.args.self.now.modules.items c.args.sub.0 _ b c.index.ensures)
    (c.in_ok-set_sub_module.ensures.ok ∙ (λ i. with_sub c.args.name (c.in_ok-child.ensures i) c.index_mut.result.now)) refl
