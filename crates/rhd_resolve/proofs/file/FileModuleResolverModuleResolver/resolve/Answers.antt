use Rattle.std.proofs.Common.{refl}
use Rattle.rhd_resolve.specs.File.{gives_none, makes, file_allows}
use Rattle.rhd_resolve.specs.Sessions.{adds_nothing}
use Rattle.rhd_resolve.proofs.MakeAnswers.{makes_given, makes_adds, makes_none, makes_collision}
use Rattle.rhd_resolve.proofs.file.FileModuleResolverModuleResolver.resolve.Goals as goal

pub returns-in-Err-clause-exact : goal.returns-in-Err-clause-exact
returns-in-Err-clause-exact g c = λ said. gives_none _ (c.in-Err.ensures.loads said) c.in-Err.ensures.read refl refl

pub returns-in-Err-clause-allowed : goal.returns-in-Err-clause-allowed
returns-in-Err-clause-allowed g c = λ said. file_allows _ (returns-in-Err-clause-exact g c said) refl

pub returns-in-Err-clause-adds : goal.returns-in-Err-clause-adds
returns-in-Err-clause-adds g c = adds_nothing refl

pub returns-clause-exact : goal.returns-clause-exact
returns-clause-exact g c = λ said. makes c.in-Ok.loaded (c.in-Ok.ensures.loads tt) c.in-Ok.ensures.read c.make.ensures

pub returns-clause-allowed : goal.returns-clause-allowed
returns-clause-allowed g c = λ said. file_allows _ (returns-clause-exact g c said) refl

pub returns-clause-given : goal.returns-clause-given
returns-clause-given g c = makes_given _ c.in-Ok.loaded _ _ _ c.in-Ok.ensures.loaded c.make.ensures

pub returns-clause-adds : goal.returns-clause-adds
returns-clause-adds g c = makes_adds _ c.in-Ok.loaded _ _ _ c.in-Ok.ensures.loaded c.make.ensures

pub returns-clause-refused : goal.returns-clause-refused
returns-clause-refused g c = makes_none c.in-Ok.loaded _ _ _ c.make.ensures

pub returns-clause-collision : goal.returns-clause-collision
returns-clause-collision g c = makes_collision c.in-Ok.loaded _ _ _ c.make.ensures
