use Rattle.std.proofs.Common.{◌≡◌, ◌∷◌, [], ◌++◌, List, sym, ap, subst, ◌∙◌, append_assoc, append-nil, Global}
use Rattle.std.specs.declared.rc.Rc.{Rc}
use Rattle.std.specs.Map.{keys_of}
use Rattle.rhd_value.specs.Tree.{Bytes}
use Rattle.rhd_module.specs.Tree.{ModuleTree, Subs, subs_of}
use Rattle.rhd_table.specs.Pairs.{Pairs}
use Rattle.rhd_module.specs.Shown.{shown}
use Rattle.rhd_module.specs.Walk.{walk, below}
use Rattle.rhd_module.specs.Below.{some_below, some_in, declares_global, declares_dynamic}
use Rattle.rhd_table.specs.Indexed.{Fills, IsClash}
use Rattle.rhd_module.specs.contracts.module.Module.{the_view}
use Rattle.rhd_table.proofs.Fills.{if_err, if_more}
use Rattle.rhd_module.proofs.Fills.{on_more, clash_below, clash_module, fills_below, fills_module}
use Rattle.rhd_module.proofs.module.Module.+index_into.Goals as goal

pub returns-in_err-index_into-clause-clash : goal.returns-in_err-index_into-clause-clash
returns-in_err-index_into-clause-clash t c =
    let path = c.args.path.now in
    let x : Bytes × Rc ModuleTree Global = (c.in-Some.name.now, c.in-Some.child.now) in
    let done = c.loop-name.invariant.0 in
    let next = c.next.new.self in
    let m = the_view c.self.inside in
    let fault = c.in_err-index_into.field-0.0 in
    let lower = c.in_ok-push.ensures ∙ (λ i. c.in_ok-below.ensures i ++ c.in_ok-dup.ensures i ∷ []) in
    let source = c.into_iter-name-iterator.ensures.into_iter_gives ∙ c.iter-name-items.ensures.rest in
    let all : c.self.inside.subs.entries ≡ (done ++ x ∷ []) ++ next =
    sym source ∙ c.loop-name.invariant.1 ∙ ap (λ (r : List (Bytes × Rc ModuleTree Global)). done ++ r) c.in-Some.ensures.steps ∙ sym (append_assoc done (x ∷ []) next) in
    let at : IsClash c.loop-name.index.seeds (keys_of (walk (path ++ x.0 ∷ []) x.1.value) ++ keys_of c.loop-name.index.pairs) fault =
    subst (λ (ps : Pairs). IsClash c.loop-name.index.seeds (keys_of ps ++ keys_of c.loop-name.index.pairs) fault) (λ i. walk (lower i) (c.deref.ensures i)) c.in_err-index_into.ensures.clash in
    let P : ModuleTree → Type 0 = λ m. IsClash c.args.index.now.seeds (keys_of (walk path m) ++ keys_of c.args.index.now.pairs) fault in
    if_err c.from_residual-in_err-index_into.result fault _ c.from_residual-in_err-index_into.ensures
    (subst P c.self.view_is (clash_below {Z = Global} c.args.index.now c.loop-name.index path done x next c.self.inside.subs.entries (shown m.own) _ _ fault all c.loop-name.invariant.2 at))

pub loop-name-preserved : goal.loop-name-preserved
loop-name-preserved t c =
    let path = c.args.path.now in
    let x : Bytes × Rc ModuleTree Global = (c.in-Some.name.now, c.in-Some.child.now) in
    let done = c.loop-name.invariant.0 in
    let next = c.next.new.self in
    let lower = c.in_ok-push.ensures ∙ (λ i. c.in_ok-below.ensures i ++ c.in_ok-dup.ensures i ∷ []) in
    let more : Fills c.loop-name.index c.index_into.new.index (walk (path ++ x.0 ∷ []) x.1.value) (λ v. some_in (declares_dynamic c.loop-name.index.seeds v) x.1.value) (some_in declares_global x.1.value) =
    subst (λ (p : List Bytes × ModuleTree). Fills c.loop-name.index c.index_into.new.index (walk p.0 p.1) (λ v. some_in (declares_dynamic c.loop-name.index.seeds v) p.1) (some_in declares_global p.1)) (λ i. (lower i, c.deref.ensures i)) c.in_ok-index_into.ensures.fills in (
      done ++ x ∷ [],
      c.loop-name.invariant.1 ∙ ap (λ (r : List (Bytes × Rc ModuleTree Global)). done ++ r) c.in-Some.ensures.steps ∙ sym (append_assoc done (x ∷ []) next),
      fills_below {Z = Global} c.args.index.now c.loop-name.index c.index_into.new.index path done x c.loop-name.invariant.2 more,
    )

pub returns-clause-fills : goal.returns-clause-fills
returns-clause-fills t c =
    let path = c.args.path.now in
    let done = c.loop-name.invariant.0 in
    let old = c.args.index.now in
    let m = c.args.self.now in
    let source = c.into_iter-name-iterator.ensures.into_iter_gives ∙ c.iter-name-items.ensures.rest in
    let all : done ≡ c.self.inside.subs.entries =
    sym (append-nil done) ∙ sym (c.loop-name.invariant.1 ∙ ap (λ (r : List (Bytes × Rc ModuleTree Global)). done ++ r) c.in-None.ensures.steps.0) ∙ source in
    let subs : subs_of done ≡ m.subs = ap subs_of all ∙ ap (λ (t : ModuleTree). t.subs) c.self.view_is in
    let F : Subs → Type 0 = λ s. Fills old c.loop-name.index (below path s) (λ v. some_below (declares_dynamic old.seeds v) s) (some_below declares_global s) in
    on_more c.put_own.result _ _ (λ own. fills_module old c.loop-name.index c.put_own.new.index path m (subst F subs c.loop-name.invariant.2) own) c.put_own.ensures.fills

pub returns-clause-clash : goal.returns-clause-clash
returns-clause-clash t c =
    let path = c.args.path.now in
    let done = c.loop-name.invariant.0 in
    let old = c.args.index.now in
    let m = c.args.self.now in
    let source = c.into_iter-name-iterator.ensures.into_iter_gives ∙ c.iter-name-items.ensures.rest in
    let all : done ≡ c.self.inside.subs.entries =
    sym (append-nil done) ∙ sym (c.loop-name.invariant.1 ∙ ap (λ (r : List (Bytes × Rc ModuleTree Global)). done ++ r) c.in-None.ensures.steps.0) ∙ source in
    let subs : subs_of done ≡ m.subs = ap subs_of all ∙ ap (λ (t : ModuleTree). t.subs) c.self.view_is in
    let F : Subs → Type 0 = λ s. Fills old c.loop-name.index (below path s) (λ v. some_below (declares_dynamic old.seeds v) s) (some_below declares_global s) in
    if_more c.put_own.result _ _ (λ f h. clash_module old c.loop-name.index path m _ _ f (subst F subs c.loop-name.invariant.2) h) c.put_own.ensures.clash
