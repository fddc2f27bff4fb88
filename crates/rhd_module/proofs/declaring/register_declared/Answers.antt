use Rattle.std.proofs.Common.{◌≡◌, ◌∷◌, ◌++◌, [], sym, ap, subst, append_assoc, ◌∙◌}
use Rattle.std.specs.Map.{keys_of}
use Rattle.rhd_hash.specs.declared.key.Key.{Key}
use Rattle.rhd_decl.specs.declared.declaration.Declaration.{Declaration}
use Rattle.rhd_module.specs.Tree.{ModuleTree}
use Rattle.rhd_table.specs.Pairs.{Pairs, put, put_all}
use Rattle.rhd_table.specs.Indexed.{IsClash}
use Rattle.rhd_module.specs.Manifests.{with_pairs}
use Rattle.rhd_table.proofs.Fills.{if_err}
use Rattle.rhd_table.proofs.Noted.{on_err}
use Rattle.rhd_table.proofs.Registers.{all_append, clash_at_pair}
use Rattle.rhd_module.proofs.declaring.register_declared.Goals as goal

pub loop-key-preserved : goal.loop-key-preserved
loop-key-preserved c =
    let p : Key × Declaration = c.in-Some.field-0.now in
    let front = c.loop-key.invariant.0 in
    let old = c.args.target.now in
    let new = c.register_pair.new.target in (
      front ++ p ∷ [],
      c.loop-key.invariant.1 ∙ ap (λ (t : Pairs). front ++ t) c.in-Some.ensures.steps ∙ sym (append_assoc front (p ∷ []) c.next.new.self),
      c.in_ok-register_pair.ensures.ok ∙ (λ k. with_pairs (put p.0 p.1 (c.loop-key.invariant.2 k).own.eager) new.own.indexed (c.loop-key.invariant.2 k)) ∙ ap (λ qs. with_pairs qs new.own.indexed old) (sym (all_append front (p ∷ []) old.own.eager)),
    )

pub returns-in_err-register_pair-clause-clash : goal.returns-in_err-register_pair-clause-clash
returns-in_err-register_pair-clause-clash c =
    let p : Key × Declaration = c.in-Some.field-0.now in
    let front = c.loop-key.invariant.0 in
    let later = c.next.new.self in
    let old = c.args.target.now in
    let fault = c.in_err-register_pair.field-0.0 in
    let source = c.into_iter-key-iterator.ensures.into_iter_gives ∙ c.iter_fn-key-items.ensures.pairs in
    let all : c.args.declared.now.own.eager ≡ front ++ p ∷ later = sym source ∙ c.loop-key.invariant.1 ∙ ap (λ (t : Pairs). front ++ t) c.in-Some.ensures.steps in
    let P : ModuleTree → Type 0 = λ t. IsClash t.own.seeds (keys_of (put p.0 p.1 t.own.eager)) fault in
    if_err c.from_residual.result fault _ c.from_residual.ensures
    (clash_at_pair old.own.seeds front later c.args.declared.now.own.eager p old.own.eager fault all (subst P c.loop-key.invariant.2 c.in_err-register_pair.ensures.clash))

pub returns-in_err-register_pair-clause-front : goal.returns-in_err-register_pair-clause-front
returns-in_err-register_pair-clause-front c =
    let p : Key × Declaration = c.in-Some.field-0.now in
    let front = c.loop-key.invariant.0 in
    let later = c.next.new.self in
    let old = c.args.target.now in
    let source = c.into_iter-key-iterator.ensures.into_iter_gives ∙ c.iter_fn-key-items.ensures.pairs in
    let all : c.args.declared.now.own.eager ≡ front ++ p ∷ later = sym source ∙ c.loop-key.invariant.1 ∙ ap (λ (t : Pairs). front ++ t) c.in-Some.ensures.steps in
    let same = c.in_err-register_pair.ensures.err in
    on_err c.from_residual.result (front, p ∷ later, all, same ∙ c.loop-key.invariant.2 ∙ (λ i. with_pairs (put_all front old.own.eager) (sym same i).own.indexed old))
