use Rattle.std.proofs.Common.{◌≡◌, ◌∷◌, ◌++◌, [], Bool, true, false, cond, List, is_none, sym, ap, append_assoc, append-nil, ◌∙◌}
use Rattle.std.proofs.lemmas.List.Elements.{filter-append}
use Rattle.rhd_value.specs.Tree.{Bytes, Tree}
use Rattle.rhd_value.specs.Entries.{found}
use Rattle.rhd_module.specs.Algebra.{new_vars}
use Rattle.rhd_table.proofs.Puts.{is_there, is_absent}
use Rattle.rhd_algebra.proofs.joining.new_vars.Goals as goal

pub loop-name-preserved-in_ok-push : goal.loop-name-preserved-in_ok-push
loop-name-preserved-in_ok-push c =
    let x : Bytes × Tree = (c.in-Some.name.now, c.in-Some.value.now) in
    let front = c.loop-name.invariant.0 in
    let own = c.args.own.now.own.vars in
    let test : Bytes × Tree → Bool = λ v. is_none (found v.0 own) in
    let new : test x ≡ true = is_absent (found x.0 own) (sym c.contains_var.ensures ∙ c.if-not-contains_var.true) in (
      front ++ x ∷ [],
      c.loop-name.invariant.1 ∙ ap (λ (t : List (Bytes × Tree)). front ++ t) c.in-Some.ensures.steps ∙ sym (append_assoc front (x ∷ []) c.next.new.self),
      c.in_ok-push.ensures.items ∙ (λ k. c.loop-name.invariant.2 k ++ (c.in_ok-dup.ensures k, c.in_ok-dup-2.ensures k) ∷ []) ∙ (λ k. new_vars own front ++ cond (sym new k) (x ∷ []) []) ∙ sym (filter-append test front (x ∷ [])),
    )

pub loop-name-preserved : goal.loop-name-preserved
loop-name-preserved c =
    let x : Bytes × Tree = (c.in-Some.name.now, c.in-Some.value.now) in
    let front = c.loop-name.invariant.0 in
    let own = c.args.own.now.own.vars in
    let test : Bytes × Tree → Bool = λ v. is_none (found v.0 own) in
    let there : test x ≡ false = is_there (found x.0 own) (sym c.contains_var.ensures ∙ c.if-not-contains_var.false) in (
      front ++ x ∷ [],
      c.loop-name.invariant.1 ∙ ap (λ (t : List (Bytes × Tree)). front ++ t) c.in-Some.ensures.steps ∙ sym (append_assoc front (x ∷ []) c.next.new.self),
      c.loop-name.invariant.2 ∙ sym (append-nil (new_vars own front)) ∙ (λ k. new_vars own front ++ cond (sym there k) (x ∷ []) []) ∙ sym (filter-append test front (x ∷ [])),
    )
