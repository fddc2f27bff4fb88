use Rattle.std.proofs.Common.{List, sym, subst}
use Rattle.std.specs.List.{Contains}
use Rattle.rhd_value.specs.Tree.{Bytes}
use Rattle.rhd_func.specs.declared.func.ScriptFuncDef.{ScriptFuncDef}
use Rattle.rhd_table.proofs.Fills.{if_err}
use Rattle.rhd_loader.specs.Imports.{ImportedScripts}
use Rattle.rhd_loader.specs.Loads.{AreApart}
use Rattle.rhd_loader.specs.Making.{SomeClash}
use Rattle.rhd_loader.proofs.ImportsMade.{told_some, first_there, later_there, made_more}
use Rattle.rhd_loader.proofs.making.make_imports.Goals as goal

pub loop-name-preserved : goal.loop-name-preserved
loop-name-preserved c =
    let seeds = c.args.seeds in
    let i : Bytes × List ScriptFuncDef = (c.in-Some.name.now, c.in-Some.defs.now) in
    let rest = c.next.new.self in
    let step = c.in-Some.ensures.steps in
    record {
      made = made_more seeds c.loop-name.made c.put_import.new.made _ _ i c.loop-name.name-iterator rest c.in_ok-put_import.ensures.ok c.in_ok-dup.ensures step c.loop-name.invariant.made;
      apart = λ later. c.loop-name.invariant.apart (subst (λ (is : ImportedScripts). AreApart seeds is) (sym step) (c.in_ok-put_import.ensures.apart, later));
      among = λ j at. c.loop-name.invariant.among j (subst (λ (is : ImportedScripts). Contains is j) (sym step) (later_there i j rest at));
    }

pub returns-in_err-put_import-clause-clash : goal.returns-in_err-put_import-clause-clash
returns-in_err-put_import-clause-clash c =
    let seeds = c.args.seeds in
    let all = c.args.imports.now in
    let i : Bytes × List ScriptFuncDef = (c.in-Some.name.now, c.in-Some.defs.now) in
    let fault = c.in_err-put_import.field-0.0 in
    let at = c.loop-name.invariant.among i (subst (λ (is : ImportedScripts). Contains is i) (sym c.in-Some.ensures.steps) (first_there i c.next.new.self)) in
    if_err c.from_residual-in_err-put_import.result fault (SomeClash seeds all) c.from_residual-in_err-put_import.ensures (told_some seeds all i fault at c.in_err-put_import.ensures.clash)
