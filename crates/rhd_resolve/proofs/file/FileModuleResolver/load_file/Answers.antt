use Rattle.std.proofs.Common.{ℕ, Ok, Err, Some, ap, subst}
use Rattle.rhd_resolve.specs.declared.fault.ResolveFault.{ResolveFault}
use Rattle.rhd_resolve.specs.declared.loaded.LoadedScript.{LoadedScript}
use Rattle.rhd_resolve.specs.Asked.{IsSaid}
use Rattle.rhd_resolve.specs.File.{refused, loaded}
use Rattle.rhd_resolve.proofs.ReadAnswers.{found_is, none_read, no_text, said_in_module}
use Rattle.rhd_resolve.proofs.file.FileModuleResolver.load_file.Goals as goal

pub returns-in-Ok-clause-loads : goal.returns-in-Ok-clause-loads
returns-in-Ok-clause-loads g c =
    let read = rw c.in_ok-file.ensures at c.in_ok-text.ensures.answer in
    let text = found_is _ _ _ _ _ _ read c.in-Found.is in
    λ said. loaded _ c.in-Ok.loaded text.0 text.1 (c.in-Ok.ensures.allowed tt) (ap (λ path. Ok (record c.in-Ok.loaded { source = Some path })) c.in_ok-dup-in-Ok.ensures)

pub returns-in_default-clause-loads : goal.returns-in_default-clause-loads
returns-in_default-clause-loads g c =
    let read = rw c.in_ok-file.ensures at c.in_ok-text.ensures.answer in
    λ said. no_text _ _ _ _ _ (none_read _ _ _ _ _ read c.in_default.not-Found) (ap Err c.in_ok-not_found.ensures)

pub returns-clause-loads : goal.returns-clause-loads
returns-clause-loads g c =
    let read = rw c.in_ok-file.ensures at c.in_ok-text.ensures.answer in
    let text = found_is _ _ _ _ _ _ read c.in-Found.is in
    let P : ResolveFault → Type 0 = λ f. IsSaid {A = ℕ} (Err f) in
    λ said. refused _ c.in-Err.fault text.0 text.1 (c.in-Err.ensures.allowed (said_in_module ℕ LoadedScript c.in-Err.fault c.args.path.now c.args.pos (subst P c.in_ok-in_module-in-Err.ensures said))) (ap Err c.in_ok-in_module-in-Err.ensures)
