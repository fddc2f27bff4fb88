use Rattle.std.proofs.Common.{Bool, List, sym, subst, arith}
use Rattle.rhd_func.specs.declared.access.ManifestId.{ManifestId}
use Rattle.rhd_manifest.specs.Entry.{Entry}
use Rattle.rhd_manifest.proofs.Places.{popped}
use Rattle.rhd_module.specs.Tree.{Lists}
use Rattle.rhd_module.specs.Index.{IsFilter, IsKept}
use Rattle.rhd_module.specs.contracts.module.Module.{the_view}
use Rattle.rhd_module.proofs.module.Module.put_listing.Goals as goal

-- where memory runs out, all is as before
pub invariant_of-self-in-Err : goal.invariant_of-self-in-Err
invariant_of-self-in-Err c =
    let inside = c.self.inside in
    let before = popped inside.manifests.items c.push.new.self.items c.pop.new.self.items c.args.manifest c.pop.result c.in_ok-push.ensures.items c.pop.ensures.items (c.pop.ensures.variant.1 (omega (arith, c.in_ok-push.ensures.len))) in
    let own : List (ManifestId × Bool) × List Entry → Lists = λ p. record (the_view inside).own { manifests = p.0; listed = p.1 } in
    let P : List (ManifestId × Bool) × List Entry → Type 0 = λ p. IsFilter inside.filter (own p) × IsKept inside.index.value (record { own = own p; subs = (the_view inside).subs }) in
    let kept = subst P (λ i. (sym before i, sym c.in-Err.ensures.err i)) c.self.invariant in
    kept
