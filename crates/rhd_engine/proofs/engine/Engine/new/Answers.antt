use Rattle.std.proofs.Common.{refl}
use Rattle.rhd_engine.specs.Of.{lists_of}
use Rattle.rhd_engine.proofs.HeldManifests.{fits_held}
use Rattle.rhd_engine.proofs.engine.Engine.new.Goals as goal

pub invariant_of-result-clause-manifests_held : goal.invariant_of-result-clause-manifests_held
invariant_of-result-clause-manifests_held g c = fits_held (λ z. (goal.PluginFunc-dyn g z).info z.1) c.args.natives c.args.manifests c.requires.fits

pub returns-clause-lists : goal.returns-clause-lists
unfolding lists_of
returns-clause-lists g c = rw (c.new-3.ensures, c.in_ok-push.ensures, c.in_ok-namespace.ensures, c.in_ok-empty.ensures, c.new-globals.ensures) refl
