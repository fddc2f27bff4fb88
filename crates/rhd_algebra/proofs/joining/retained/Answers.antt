use Rattle.std.proofs.Common.{◌≡◌, ap, ◌∙◌}
use Rattle.rhd_module.specs.Algebra.{that_pass}
use Rattle.rhd_module.specs.Manifests.{with_pairs}
use Rattle.rhd_table.specs.Pairs.{put_all}
use Rattle.rhd_module.specs.Tree.{empty_module}
use Rattle.rhd_module.proofs.JoinParts.{kept_alone}
use Rattle.rhd_algebra.proofs.joining.retained.Goals as goal

pub returns-clause-kept : goal.returns-clause-kept
returns-clause-kept g c =
    λ tells h.
    let of = c.args.of.now.own in
    let new = c.register_declared_that.new.made in
    let target : c.in_ok-target.target ≡ empty_module of.seeds = c.in_ok-target.ensures ∙ ap empty_module c.seeds.ensures in
    c.in_ok-register_declared_that.ensures.ok tells h ∙ (λ k. with_pairs (put_all (that_pass tells of.eager) (target k).own.eager) new.own.indexed (target k))
    ∙ ap (λ ps. with_pairs ps new.own.indexed (empty_module of.seeds)) (kept_alone (λ p. tells p.1) of.seeds of.eager c.iter_fn-apart.ensures.apart)
