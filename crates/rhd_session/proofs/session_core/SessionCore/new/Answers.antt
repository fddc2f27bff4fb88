use Rattle.std.proofs.Common.{ap, sym, ◌∙◌, length}
use Rattle.rhd_engine.specs.Engine.{EngineLists}
use Rattle.rhd_engine.specs.Of.{lists_of}
use Rattle.rhd_func.specs.declared.natives.Natives.{Natives}
use Rattle.rhd_resolve.specs.Environs.{Envs}
use Rattle.rhd_session.proofs.session_core.SessionCore.new.Goals as goal

pub invariant_of-result-clause-same_seeds : goal.invariant_of-result-clause-same_seeds
unfolding lists_of
invariant_of-result-clause-same_seeds g c = ap (λ (e : Envs). e.seeds) c.in_ok-environs.ensures ∙ sym (ap (λ (l : EngineLists). l.seeds) c.in_ok-new.ensures.lists)

pub invariant_of-result-clause-same_natives : goal.invariant_of-result-clause-same_natives
invariant_of-result-clause-same_natives g c = ap (λ (e : Envs). e.natives) c.in_ok-environs.ensures ∙ c.len.ensures ∙ sym (ap (λ (n : Natives _ _). length n.items.items) c.in_ok-new.ensures.natives)
