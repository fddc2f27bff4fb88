use Rattle.std.proofs.Common.{◌≡◌, ◌∷◌, [], Bool, true, false, cond, OnOk, IfErr, sym, subst, refl, ◌∙◌}
use Rattle.std.proofs.lemmas.Fn.{says_at}
use Rattle.std.specs.Map.{keys_of}
use Rattle.rhd_table.specs.Indexed.{IsClash}
use Rattle.rhd_module.specs.Manifests.{with_pairs}
use Rattle.rhd_table.specs.Pairs.{put_all}
use Rattle.rhd_module.proofs.declaring.register_pair_that.Goals as goal

pub returns-then-not-passes-clause-ok : goal.returns-then-not-passes-clause-ok
returns-then-not-passes-clause-ok g c =
    λ tells h.
    let k = c.args.key.now in
    let d = c.args.declaration.now in
    let old = c.args.made.now in
    let no : tells d ≡ false = sym (h d c.passes.result (says_at g.F.Fn c.passes.ensures refl)) ∙ c.if-not-passes.true in
    λ i. with_pairs (put_all (cond (sym no i) ((k, d) ∷ []) []) old.own.eager) old.own.indexed old

pub returns-clause-ok : goal.returns-clause-ok
returns-clause-ok g c =
    λ tells h.
    let k = c.args.key.now in
    let d = c.args.declaration.now in
    let old = c.args.made.now in
    let new = c.register_pair.new.target in
    let yes : tells d ≡ true = sym (h d c.passes.result (says_at g.F.Fn c.passes.ensures refl)) ∙ c.if-not-passes.false in
    let P : Bool → Type 0 = λ b. OnOk c.register_pair.result (new ≡ with_pairs (put_all (cond b ((k, d) ∷ []) []) old.own.eager) new.own.indexed old) in
    subst P (sym yes) c.register_pair.ensures.ok

pub returns-clause-clash : goal.returns-clause-clash
returns-clause-clash g c =
    λ tells h.
    let k = c.args.key.now in
    let d = c.args.declaration.now in
    let old = c.args.made.now in
    let yes : tells d ≡ true = sym (h d c.passes.result (says_at g.F.Fn c.passes.ensures refl)) ∙ c.if-not-passes.false in
    let P : Bool → Type 0 = λ b. IfErr c.register_pair.result (IsClash old.own.seeds (keys_of (put_all (cond b ((k, d) ∷ []) []) old.own.eager))) in
    subst P (sym yes) c.register_pair.ensures.clash
