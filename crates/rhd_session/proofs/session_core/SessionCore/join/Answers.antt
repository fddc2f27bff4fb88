use Rattle.std.proofs.Common.{◌≡◌, ◌≤◌, ◌<◌, Some, length, refl, sym, rules, arith, ap, ◌∙◌}
use Rattle.rhd_session.specs.Of.{world_of, frame_of}
use Rattle.rhd_session.specs.Changing.{join_command}
use Rattle.rhd_engine.specs.Held.{names_held}
use Rattle.rhd_engine.proofs.HeldLaws.{all_at, all_set}
use Rattle.rhd_session.proofs.Declared.{goes_refused, refused_first, refused_second, at_place}
use Rattle.rhd_session.proofs.JoinChanges.{join_operands, join_goes}
use Rattle.rhd_session.proofs.JoinedHeld.{joined_held}
use Rattle.rhd_session.proofs.session_core.SessionCore.join.Goals as goal

pub returns-then-at-len-clause-goes : goal.returns-then-at-len-clause-goes
returns-then-at-len-clause-goes g c =
    let all = length c.args.self.now.modules.items in
    let w = world_of (λ z. (goal.PluginFunc-dyn g z).info z.1) c.args.self.now in
    let f = frame_of c.args.self.now in
    let command = join_command c.args.join c.args.id c.args.other in
    let n : c.len-then-at-len.result ≡ all = search rules in
    let m : c.len.result ≡ all = search rules in
    let past : all ≤ c.args.id.0 = omega (arith, m, c.if-at-len.true) in
    goes_refused w f command c.unknown.result _ _ c.unknown.ensures (refused_first w f command c.args.id.0 all _ _ _ (join_operands w f c.args.join c.args.id c.args.other) refl n past)

pub returns-then-from-len-clause-goes : goal.returns-then-from-len-clause-goes
returns-then-from-len-clause-goes g c =
    let all = length c.args.self.now.modules.items in
    let w = world_of (λ z. (goal.PluginFunc-dyn g z).info z.1) c.args.self.now in
    let f = frame_of c.args.self.now in
    let command = join_command c.args.join c.args.id c.args.other in
    let m : c.len.result ≡ all = search rules in
    let h : c.args.id.0 < all = omega (arith, m, c.if-at-len.false) in
    let k : c.len-2.result ≡ all = search rules in
    let n : c.len-then-from-len.result ≡ all = search rules in
    let past : all ≤ c.args.other.0 = omega (arith, k, c.if-from-len.true) in
    goes_refused w f command c.unknown-then-from-len.result _ _ c.unknown-then-from-len.ensures
    (refused_second w f command c.args.id.0 all c.args.other.0 all _ _ _ (join_operands w f c.args.join c.args.id c.args.other) h refl n past)

pub invariant_of-self-clause-modules_held : goal.invariant_of-self-clause-modules_held
invariant_of-self-clause-modules_held g c =
    let items = c.args.self.now.modules.items in
    let m : c.len.result ≡ length items = search rules in
    let h : c.args.id.0 < length items = omega (arith, m, c.if-at-len.false) in
    let held = all_at _ items c.args.id.0 c.index_mut.result.now c.args.self.now.modules_held (at_place items c.args.id.0 c.index_mut.result.now h c.index_mut.ensures.value) in
    let k : c.len-2.result ≡ length items = search rules in
    let b : c.args.other.0 < length items = omega (arith, k, c.if-from-len.false) in
    let from = all_at _ items c.args.other.0 c.index.result.now c.args.self.now.modules_held (at_place items c.args.other.0 _ b c.index.ensures) in
    all_set _ items c.args.id.0 c.join_with.new.changed c.args.self.now.modules_held
    (joined_held _ c.args.join c.module.result.now c.index_mut.result.now c.join_with.new.changed c.join_with.result c.join_with.ensures (ap (names_held _) (c.module.ensures ∙ c.in_ok-added.ensures) ∙ from) held)

pub returns-clause-goes : goal.returns-clause-goes
returns-clause-goes g c =
    let items = c.args.self.now.modules.items in
    let m : c.len.result ≡ length items = search rules in
    let h : c.args.id.0 < length items = omega (arith, m, c.if-at-len.false) in
    let k : c.len-2.result ≡ length items = search rules in
    let b : c.args.other.0 < length items = omega (arith, k, c.if-from-len.false) in
    join_goes (world_of (λ z. (goal.PluginFunc-dyn g z).info z.1) c.args.self.now) _ (frame_of c.args.self.now) c.args.join c.args.id c.args.other c.index_mut.result.now c.module.result.now c.join_with.new.changed c.join_with.result
    (at_place items c.args.id.0 c.index_mut.result.now h c.index_mut.ensures.value) (at_place items c.args.other.0 _ b c.index.ensures ∙ ap Some (sym (c.module.ensures ∙ c.in_ok-added.ensures))) c.join_with.ensures refl
