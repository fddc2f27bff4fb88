use Rattle.std.proofs.Common.{sym, ap, subst, ◌∙◌}
use Rattle.std.specs.Str.Lines.{lines}
use Rattle.rhd_value.specs.Tree.{Bytes}
use Rattle.rhd_hash.specs.declared.mixer.Seeds.{Seeds}
use Rattle.rhd_loader.specs.Making.{Makes}
use Rattle.rhd_loader.specs.Reading.{said_from, StopsSo}
use Rattle.rhd_loader.specs.Said.{nothing_said}
use Rattle.rhd_loader.proofs.PlanAnswers.{made_loaded, plan_made, plan_stopped}
use Rattle.rhd_loader.proofs.loader.PlanLoaderLoader.load.Goals as goal

pub returns-in-Ok-clause-allowed : goal.returns-in-Ok-clause-allowed
returns-in-Ok-clause-allowed c =
    let s = c.in-Ok.said in
    let r = c.script_of.result in
    let says = sym (ap (λ (text : Bytes). said_from 1 nothing_said (lines text)) (c.as_bytes.ensures.value ∙ c.as_str.ensures)) ∙ c.in-Ok.ensures in
    plan_made c.args._manifests.now c.args.text.now c.args.envs.now s r says (subst (λ (seeds : Seeds). Makes seeds s r) c.seeds.ensures c.script_of.ensures)

pub returns-in-Ok-clause-loaded : goal.returns-in-Ok-clause-loaded
returns-in-Ok-clause-loaded c =
    let s = c.in-Ok.said in
    let r = c.script_of.result in
    made_loaded c.args._manifests.now c.args.envs.now s r (subst (λ (seeds : Seeds). Makes seeds s r) c.seeds.ensures c.script_of.ensures)

pub returns-in-Err-clause-allowed : goal.returns-in-Err-clause-allowed
returns-in-Err-clause-allowed c =
    let stop = c.in-Err.unsaid in
    let says = subst (λ (text : Bytes). StopsSo stop (said_from 1 nothing_said (lines text))) (c.as_bytes.ensures.value ∙ c.as_str.ensures) c.in-Err.ensures in
    plan_stopped c.args._manifests.now c.args.text.now c.args.envs.now stop c.refused.result says c.refused.ensures
