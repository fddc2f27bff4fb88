use Rattle.std.proofs.Common.{refl}
use Rattle.rhd_resolve.specs.Asked.{script}
use Rattle.rhd_resolve.specs.File.{file_script}
use Rattle.rhd_resolve.proofs.file.FileModuleResolverModuleResolver.resolve_ast.Goals as goal

pub returns-clause-allowed : goal.returns-clause-allowed
returns-clause-allowed g c = λ said. script (file_script _ _ refl (c.load_file.ensures.loads said) c.load_file.ensures.read refl)
