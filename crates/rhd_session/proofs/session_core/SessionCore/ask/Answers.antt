use Rattle.std.proofs.Common.{ap, refl, sym, ◌∙◌}
use Rattle.rhd_engine.specs.Of.{lists_of}
use Rattle.rhd_engine.proofs.HeldLaws.{infos_count}
use Rattle.rhd_resolve.specs.Environs.{Envs}
use Rattle.rhd_session.proofs.Imported.{adds_held, adds_same, envs_here, asked_here}
use Rattle.rhd_session.proofs.session_core.SessionCore.ask.Goals as goal

pub invariant_of-self-clause-environs_held : goal.invariant_of-self-clause-environs_held
invariant_of-self-clause-environs_held g c = adds_held _ _ c.args.self.now.environs c.resolve.new.envs c.args.self.now.same_natives c.resolve.ensures.adds c.args.self.now.environs_held

pub invariant_of-self-clause-same_seeds : goal.invariant_of-self-clause-same_seeds
invariant_of-self-clause-same_seeds g c = ap (λ (e : Envs). e.seeds) (adds_same _ _ _ c.resolve.ensures.adds) ∙ c.args.self.now.same_seeds

pub invariant_of-self-clause-same_natives : goal.invariant_of-self-clause-same_natives
invariant_of-self-clause-same_natives g c = ap (λ (e : Envs). e.natives) (adds_same _ _ _ c.resolve.ensures.adds) ∙ c.args.self.now.same_natives

pub invariant_of-self-clause-no_iterators : goal.invariant_of-self-clause-no_iterators
invariant_of-self-clause-no_iterators g c = ap (λ (e : Envs). e.iterators) (adds_same _ _ _ c.resolve.ensures.adds) ∙ c.args.self.now.no_iterators

pub returns-clause-asked : goal.returns-clause-asked
unfolding lists_of
returns-clause-asked g c =
    let count = sym (infos_count (λ z. (goal.PluginFunc-dyn g z).info z.1) c.args.self.now.engine.natives) in
    let adds = adds_same _ _ _ c.resolve.ensures.adds in
    asked_here _ _ _ _ _ _ _ _ _ _ _ _ _ _
    (envs_here c.args.self.now.environs _ _ _ c.args.self.now.same_seeds (c.args.self.now.same_natives ∙ count) c.args.self.now.no_iterators)
    (envs_here c.resolve.new.envs _ _ _ (ap (λ (e : Envs). e.seeds) adds ∙ c.args.self.now.same_seeds) (ap (λ (e : Envs). e.natives) adds ∙ c.args.self.now.same_natives ∙ count) (ap (λ (e : Envs). e.iterators) adds ∙ c.args.self.now.no_iterators))
    c.source_of-source.ensures refl c.resolve.ensures.exact
