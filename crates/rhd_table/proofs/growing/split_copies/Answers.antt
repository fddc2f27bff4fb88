use Rattle.std.proofs.Common.{◌≡◌, ◌∷◌, ◌++◌, [], true, false, is_some, is_none, sym, ap, append_assoc, ◌∙◌}
use Rattle.std.specs.List.{filter}
use Rattle.std.specs.Map.{lookup}
use Rattle.rhd_hash.specs.declared.key.Key.{Key}
use Rattle.rhd_hash.specs.Keys.{key_eq}
use Rattle.rhd_decl.specs.declared.declaration.Declaration.{Declaration}
use Rattle.rhd_table.specs.Pairs.{Pairs}
use Rattle.rhd_table.proofs.Taken.{passing, failing, all_taken, is_found, is_unfound}
use Rattle.rhd_table.proofs.growing.split_copies.Goals as goal

pub loop-key-preserved-in-Continue-branch-2 : goal.loop-key-preserved-in-Continue-branch-2
loop-key-preserved-in-Continue-branch-2 c =
    let p : Key × Declaration = c.in-Some.field-0.now in
    let others = c.args.others.now.pairs in
    let front = c.loop-key.invariant.0 in
    let get = c.get_hashed.ensures ∙ ap (λ (k : Key). lookup (key_eq k) others) c.hashed.ensures in
    let there : is_some (lookup (key_eq p.0) others) ≡ true = is_found c.get_hashed.result (lookup (key_eq p.0) others) c.is_some-is_there.result get c.is_some-is_there.ensures ∙ c.if-is_there.true in (
      front ++ p ∷ [],
      c.loop-key.invariant.1 ∙ ap (λ (t : Pairs). front ++ t) c.in-Some.ensures.steps ∙ sym (append_assoc front (p ∷ []) c.next.new.self),
      c.in_ok-push.ensures.items ∙ (λ k. c.loop-key.invariant.2 k ++ c.in_ok-copy.ensures k ∷ []) ∙ sym (passing (λ (q : Key × Declaration). is_some (lookup (key_eq q.0) others)) front p there),
      c.loop-key.invariant.3 ∙ sym (failing (λ (q : Key × Declaration). is_none (lookup (key_eq q.0) others)) front p (is_unfound (lookup (key_eq p.0) others) true there)),
    )

pub loop-key-preserved : goal.loop-key-preserved
loop-key-preserved c =
    let p : Key × Declaration = c.in-Some.field-0.now in
    let others = c.args.others.now.pairs in
    let front = c.loop-key.invariant.0 in
    let get = c.get_hashed.ensures ∙ ap (λ (k : Key). lookup (key_eq k) others) c.hashed.ensures in
    let none : is_some (lookup (key_eq p.0) others) ≡ false = is_found c.get_hashed.result (lookup (key_eq p.0) others) c.is_some-is_there.result get c.is_some-is_there.ensures ∙ c.if-is_there.false in (
      front ++ p ∷ [],
      c.loop-key.invariant.1 ∙ ap (λ (t : Pairs). front ++ t) c.in-Some.ensures.steps ∙ sym (append_assoc front (p ∷ []) c.next.new.self),
      c.loop-key.invariant.2 ∙ sym (failing (λ (q : Key × Declaration). is_some (lookup (key_eq q.0) others)) front p none),
      c.in_ok-push-2.ensures.items ∙ (λ k. c.loop-key.invariant.3 k ++ c.in_ok-copy.ensures k ∷ []) ∙ sym (passing (λ (q : Key × Declaration). is_none (lookup (key_eq q.0) others)) front p (is_unfound (lookup (key_eq p.0) others) false none)),
    )

pub returns-clause-there : goal.returns-clause-there
returns-clause-there c =
    let others = c.args.others.now.pairs in
    c.loop-key.invariant.2
    ∙ ap (filter (λ (q : Key × Declaration). is_some (lookup (key_eq q.0) others))) (all_taken c.args.of.now.pairs c.loop-key.invariant.0 c.loop-key.key-iterator (sym c.iter-key-items.ensures.pairs ∙ sym c.into_iter-key-iterator.ensures.into_iter_gives ∙ c.loop-key.invariant.1) c.in-None.ensures.steps.0)

pub returns-clause-new : goal.returns-clause-new
returns-clause-new c =
    let others = c.args.others.now.pairs in
    c.loop-key.invariant.3
    ∙ ap (filter (λ (q : Key × Declaration). is_none (lookup (key_eq q.0) others))) (all_taken c.args.of.now.pairs c.loop-key.invariant.0 c.loop-key.key-iterator (sym c.iter-key-items.ensures.pairs ∙ sym c.into_iter-key-iterator.ensures.into_iter_gives ∙ c.loop-key.invariant.1) c.in-None.ensures.steps.0)
