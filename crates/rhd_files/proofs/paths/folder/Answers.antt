use Rattle.std.proofs.Common.{◌+◌, ◌-◌, take, ap, ◌∙◌, arith}
use Rattle.rhd_files.proofs.Cuts.{lacks, is_last}
use Rattle.rhd_files.proofs.Folders.{folder_at, no_folder}
use Rattle.rhd_files.proofs.paths.folder.Goals as goal

pub returns-in-Some : goal.returns-in-Some
returns-in-Some c =
    let path = c.args.path.now in
    let found = c.in-Some.ensures.cases in
    c.range.ensures.value ∙ ap (λ n. take n path) {x = c.in-Some.at + 1 - 0} {y = c.in-Some.at + 1} (omega arith) ∙ folder_at path c.in-Some.at (is_last 47 path c.in-Some.at found.0 found.1 (omega arith)).1

pub returns-in-None : goal.returns-in-None
returns-in-None c = no_folder c.args.path.now (lacks 47 c.args.path.now c.in-None.ensures.cases (omega arith))
