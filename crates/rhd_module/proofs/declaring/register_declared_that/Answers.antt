use Rattle.std.proofs.Common.{◌≡◌, ◌∷◌, ◌++◌, [], sym, ap, subst, append_assoc, ◌∙◌}
use Rattle.std.specs.Map.{keys_of}
use Rattle.rhd_hash.specs.declared.key.Key.{Key}
use Rattle.rhd_decl.specs.declared.declaration.Declaration.{Declaration}
use Rattle.rhd_module.specs.Tree.{ModuleTree}
use Rattle.rhd_table.specs.Pairs.{Pairs, put_all}
use Rattle.rhd_module.specs.Algebra.{that_pass}
use Rattle.rhd_table.specs.Indexed.{IsClash}
use Rattle.rhd_module.specs.Manifests.{with_pairs}
use Rattle.rhd_table.proofs.Fills.{if_err}
use Rattle.rhd_table.proofs.Noted.{on_err}
use Rattle.rhd_module.proofs.JoinParts.{passed_next, clash_passed}
use Rattle.rhd_module.proofs.declaring.register_declared_that.Goals as goal

pub loop-key-preserved : goal.loop-key-preserved
loop-key-preserved g c =
    let p : Key × Declaration = c.in-Some.field-0.now in
    let front = c.loop-key.invariant.0 in
    let old = c.args.made.now in
    let new = c.register_pair_that.new.made in (
      front ++ p ∷ [],
      c.loop-key.invariant.1 ∙ ap (λ (t : Pairs). front ++ t) c.in-Some.ensures.steps ∙ sym (append_assoc front (p ∷ []) c.next.new.self),
      λ tells h.
          let is = c.loop-key.invariant.2 tells h in
          c.in_ok-register_pair_that.ensures.ok tells h ∙ (λ k. with_pairs (put_all (that_pass tells (p ∷ [])) (is k).own.eager) new.own.indexed (is k))
          ∙ ap (λ qs. with_pairs qs new.own.indexed old) (passed_next (λ q. tells q.1) front p old.own.eager),
      c.in_ok-register_pair_that.ensures.others.0 ∙ c.loop-key.invariant.3,
      c.in_ok-register_pair_that.ensures.others.1 ∙ c.loop-key.invariant.4,
    )

pub returns-in_err-register_pair_that-clause-clash : goal.returns-in_err-register_pair_that-clause-clash
returns-in_err-register_pair_that-clause-clash g c =
    λ tells h.
    let p : Key × Declaration = c.in-Some.field-0.now in
    let front = c.loop-key.invariant.0 in
    let later = c.next.new.self in
    let old = c.args.made.now in
    let fault = c.in_err-register_pair_that.field-0.0 in
    let source = c.into_iter-key-iterator.ensures.into_iter_gives ∙ c.iter_fn-key-items.ensures.pairs in
    let all : c.args.other.now.own.eager ≡ front ++ p ∷ later = sym source ∙ c.loop-key.invariant.1 ∙ ap (λ (t : Pairs). front ++ t) c.in-Some.ensures.steps in
    let P : ModuleTree → Type 0 = λ t. IsClash t.own.seeds (keys_of (put_all (that_pass tells (p ∷ [])) t.own.eager)) fault in
    if_err c.from_residual.result fault _ c.from_residual.ensures
    (clash_passed (λ q. tells q.1) old.own.seeds front later c.args.other.now.own.eager p old.own.eager fault all (subst P (c.loop-key.invariant.2 tells h) (c.in_err-register_pair_that.ensures.clash tells h)))

pub returns-in_err-register_pair_that-clause-front : goal.returns-in_err-register_pair_that-clause-front
returns-in_err-register_pair_that-clause-front g c =
    let p : Key × Declaration = c.in-Some.field-0.now in
    let front = c.loop-key.invariant.0 in
    let later = c.next.new.self in
    let old = c.args.made.now in
    let source = c.into_iter-key-iterator.ensures.into_iter_gives ∙ c.iter_fn-key-items.ensures.pairs in
    let all : c.args.other.now.own.eager ≡ front ++ p ∷ later = sym source ∙ c.loop-key.invariant.1 ∙ ap (λ (t : Pairs). front ++ t) c.in-Some.ensures.steps in
    let same = c.in_err-register_pair_that.ensures.err in
    on_err c.from_residual.result (front, p ∷ later, all, λ tells h. same ∙ c.loop-key.invariant.2 tells h ∙ (λ i. with_pairs (put_all (that_pass tells front) old.own.eager) (sym same i).own.indexed old))
