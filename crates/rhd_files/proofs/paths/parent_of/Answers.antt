use Rattle.std.proofs.Common.{◌≡◌, ℕ, List, [], arith, rules, subst, sym, ◌∙◌}
use Rattle.std.proofs.lemmas.List.{nil_from_length}
use Rattle.std.proofs.lemmas.Bool.{eqb-true}
use Rattle.rhd_files.proofs.Cuts.{IsCut, lacks, cut}
use Rattle.rhd_files.proofs.Folders.{root, no_parent}
use Rattle.rhd_files.proofs.paths.parent_of.Goals as goal

pub returns-in-Some : goal.returns-in-Some
returns-in-Some c =
    let path = c.args.path.now in
    let empty : c.in-Some.front.now ≡ [] = nil_from_length _ (eqb-true _ _ (sym c.is_empty.ensures ∙ c.if-is_empty.true)) in
    root path _ (subst (λ (front : List ℕ). IsCut 47 path front c.in-Some.field-0-1.now) empty (cut 47 path _ _ c.in-Some.ensures.cases (omega arith)))

pub returns-in-Some-2 : goal.returns-in-Some-2
returns-in-Some-2 c = rw (cut 47 c.args.path.now _ _ c.in-Some.ensures.cases (omega arith)).before (search rules)

pub returns-in-None : goal.returns-in-None
returns-in-None c = no_parent c.args.path.now (lacks 47 c.args.path.now c.in-None.ensures.cases (omega arith))
