use Rattle.std.proofs.Common.{◌≡◌, ◌∷◌, [], Bool, true, false, cond, OnOk, IfErr, sym, ap, subst, refl, ◌∙◌}
use Rattle.std.proofs.lemmas.Fn.{says_at}
use Rattle.std.specs.Map.{keys_of}
use Rattle.rhd_hash.specs.declared.mixer.Seeds.{Seeds}
use Rattle.rhd_manifest.specs.Entry.{entry_pair, entry_decl}
use Rattle.rhd_table.specs.Indexed.{IsClash}
use Rattle.rhd_module.specs.Manifests.{with_pairs}
use Rattle.rhd_table.specs.Pairs.{put_back}
use Rattle.rhd_algebra.proofs.listed.register_entry_that.Goals as goal

pub returns-then-not-passes-clause-ok : goal.returns-then-not-passes-clause-ok
returns-then-not-passes-clause-ok g c =
    λ tells h.
    let e = c.args.entry.now in
    let old = c.args.made.now in
    let d = c.in_ok-declaration.declaration in
    let is : d ≡ entry_decl old.own.seeds e = c.in_ok-declaration.ensures ∙ ap (λ (s : Seeds). entry_decl s e) c.seeds.ensures in
    let no : tells (entry_decl old.own.seeds e) ≡ false = ap tells (sym is) ∙ sym (h d c.passes.result (says_at g.F.Fn c.passes.ensures refl)) ∙ c.if-not-passes.true in
    λ i. with_pairs (put_back (cond (sym no i) (entry_pair old.own.seeds e ∷ []) []) old.own.eager) old.own.indexed old

pub returns-clause-ok : goal.returns-clause-ok
returns-clause-ok g c =
    λ tells h.
    let e = c.args.entry.now in
    let old = c.args.made.now in
    let d = c.in_ok-declaration.declaration in
    let is : d ≡ entry_decl old.own.seeds e = c.in_ok-declaration.ensures ∙ ap (λ (s : Seeds). entry_decl s e) c.seeds.ensures in
    let yes : tells (entry_decl old.own.seeds e) ≡ true = ap tells (sym is) ∙ sym (h d c.passes.result (says_at g.F.Fn c.passes.ensures refl)) ∙ c.if-not-passes.false in
    let new = c.put_entry.new.target in
    let P : Bool → Type 0 = λ b. OnOk c.put_entry.result (new ≡ with_pairs (put_back (cond b (entry_pair old.own.seeds e ∷ []) []) old.own.eager) new.own.indexed old) in
    subst P (sym yes) c.put_entry.ensures.ok

pub returns-clause-clash : goal.returns-clause-clash
returns-clause-clash g c =
    λ tells h.
    let e = c.args.entry.now in
    let old = c.args.made.now in
    let d = c.in_ok-declaration.declaration in
    let is : d ≡ entry_decl old.own.seeds e = c.in_ok-declaration.ensures ∙ ap (λ (s : Seeds). entry_decl s e) c.seeds.ensures in
    let yes : tells (entry_decl old.own.seeds e) ≡ true = ap tells (sym is) ∙ sym (h d c.passes.result (says_at g.F.Fn c.passes.ensures refl)) ∙ c.if-not-passes.false in
    let P : Bool → Type 0 = λ b. IfErr c.put_entry.result (IsClash old.own.seeds (keys_of (put_back (cond b (entry_pair old.own.seeds e ∷ []) []) old.own.eager))) in
    subst P (sym yes) c.put_entry.ensures.clash
