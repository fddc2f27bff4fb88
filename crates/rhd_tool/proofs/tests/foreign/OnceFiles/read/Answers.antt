use Rattle.std.proofs.Common.{◌≡◌, Option, Some, IsSome, refl, sym, ap, subst, ◌∙◌, arith}
use Rattle.rhd_files.specs.Files.{found, no_file, failed}
use Rattle.rhd_tool.proofs.tests.foreign.OnceFiles.read.Goals as goal

is_some_of : {X : Type 0} (o : Option X) (x : X) → Some x ≡ o → IsSome o
is_some_of o x e = let P : Option _ → Type 0 = IsSome in subst P e refl

pub returns-in_default-clause-answer : goal.returns-in_default-clause-answer
returns-in_default-clause-answer c = no_file (sym c.in_default.ensures) refl

pub returns-then-self-clause-answer : goal.returns-then-self-clause-answer
returns-then-self-clause-answer c = failed (is_some_of _ _ c.in-Some.ensures) (grind arith)

pub returns-clause-answer : goal.returns-clause-answer
returns-clause-answer c = found (sym c.in-Some.ensures ∙ ap Some (sym c.in_ok-dup.ensures)) refl
