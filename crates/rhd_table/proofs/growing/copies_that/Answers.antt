use Rattle.std.proofs.Common.{◌≡◌, ◌∷◌, ◌++◌, [], true, false, refl, sym, ap, append_assoc, ◌∙◌}
use Rattle.std.proofs.lemmas.Fn.{says_at}
use Rattle.rhd_hash.specs.declared.key.Key.{Key}
use Rattle.rhd_decl.specs.declared.declaration.Declaration.{Declaration}
use Rattle.rhd_table.specs.Pairs.{Pairs}
use Rattle.rhd_table.proofs.Taken.{passing, failing}
use Rattle.rhd_table.proofs.growing.copies_that.Goals as goal

pub loop-key-preserved-in_ok-push : goal.loop-key-preserved-in_ok-push
loop-key-preserved-in_ok-push g c =
    let p : Key × Declaration = c.in-Some.field-0.now in
    let front = c.loop-key.invariant.0 in (
      front ++ p ∷ [],
      c.loop-key.invariant.1 ∙ ap (λ (t : Pairs). front ++ t) c.in-Some.ensures.steps ∙ sym (append_assoc front (p ∷ []) c.next.new.self),
      λ tells h.
          let yes : tells p.0 ≡ true = sym (h p.0 c.passes.result (says_at g.F.Fn c.passes.ensures refl)) ∙ c.if-passes.true in
          c.in_ok-push.ensures.items ∙ (λ k. c.loop-key.invariant.2 tells h k ++ c.in_ok-copy_of.ensures k ∷ []) ∙ sym (passing (λ (q : Key × Declaration). tells q.0) front p yes),
    )

pub loop-key-preserved : goal.loop-key-preserved
loop-key-preserved g c =
    let p : Key × Declaration = c.in-Some.field-0.now in
    let front = c.loop-key.invariant.0 in (
      front ++ p ∷ [],
      c.loop-key.invariant.1 ∙ ap (λ (t : Pairs). front ++ t) c.in-Some.ensures.steps ∙ sym (append_assoc front (p ∷ []) c.next.new.self),
      λ tells h.
          let no : tells p.0 ≡ false = sym (h p.0 c.passes.result (says_at g.F.Fn c.passes.ensures refl)) ∙ c.if-passes.false in
          c.loop-key.invariant.2 tells h ∙ sym (failing (λ (q : Key × Declaration). tells q.0) front p no),
    )
