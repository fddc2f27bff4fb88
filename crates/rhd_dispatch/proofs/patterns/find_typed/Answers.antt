use Rattle.std.proofs.Common.{length, sym, ◌∙◌}
use Rattle.rhd_hash.specs.Keys.{key_types}
use Rattle.rhd_dispatch.proofs.Looks.{most_exact, most_others}
use Rattle.rhd_dispatch.proofs.Passes.{map_some, map_none}
use Rattle.rhd_dispatch.proofs.Typed.{typed_exact}
use Rattle.rhd_dispatch.proofs.patterns.find_typed.Goals as goal

pub returns-then-is_some-clause-found : goal.returns-then-is_some-clause-found
returns-then-is_some-clause-found g c = typed_exact (g.L.Look.look c.args.look) c.args.key.now _ c.find-exact.ensures.found (map_some g.L.Look.pick c.find-exact.result _ c.is_some.ensures c.if-is_some.true)

pub find_others-requires-clause-missed : goal.find_others-requires-clause-missed
find_others-requires-clause-missed g c = sym c.find-exact.ensures.found ∙ map_none g.L.Look.pick c.find-exact.result _ c.is_some.ensures c.if-is_some.false

pub returns-then-is_some-clause-steps : goal.returns-then-is_some-clause-steps
returns-then-is_some-clause-steps g c = most_exact (key_types c.args.key.now) _ _ _ c.find-exact.ensures.steps

pub returns-clause-steps : goal.returns-clause-steps
returns-clause-steps g c = most_others (length _) _ _ _ _ c.find-exact.ensures.steps c.find_others.ensures.steps
