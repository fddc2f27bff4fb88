use Rattle.std.proofs.Common.{◌≡◌, ◌++◌, ◌∷◌, [], rules}
use Rattle.rhd_layers.specs.Paths.{path_of}
use Rattle.rhd_layers.proofs.PathLaws.{one_more, the_last}
use Rattle.rhd_layers.proofs.paths.path_of.Goals as goal

pub parts-preserved : goal.parts-preserved
parts-preserved c =
    let pushed : c.push.new.self ≡ c.parts.names ++ c.in_ok-from_str.field-0 ∷ [] = c.in_ok-push.ensures in
    let named : c.in_ok-from_str.field-0 ≡ c.in-Some.name.now = c.in_ok-from_str.ensures in
    (rw (pushed, named) (one_more c.parts.names (path_of c.args.path.now) c.parts.rest.now c.in-Some.name.now c.in-Some.after.now c.parts.invariant.0 c.in-Some.ensures.cases), search rules)

pub returns : goal.returns
returns c =
    let pushed : c.push-2.new.self ≡ c.parts.names ++ c.in_ok-from_str-2.field-0 ∷ [] = c.in_ok-push-2.ensures in
    let named : c.in_ok-from_str-2.field-0 ≡ c.parts.rest.now = c.in_ok-from_str-2.ensures in
    rw (pushed, named) (the_last c.parts.names (path_of c.args.path.now) c.parts.rest.now c.parts.invariant.0 c.in_default.ensures.cases)
