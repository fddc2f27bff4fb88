use Rattle.std.proofs.Common.{◌≡◌, ◌&&◌, nat_eq, length, sym, ap, subst, ◌∙◌, Global}
use Rattle.rhd_module.specs.Tree.{ModuleTree}
use Rattle.rhd_module.specs.Contents.{is_empty}
use Rattle.rhd_manifest.proofs.Empty.{none_of}
use Rattle.rhd_module.proofs.SubModules.{subs_none}
use Rattle.rhd_module.proofs.module.Module.is_empty.Goals as goal

pub returns : goal.returns
returns c =
    let inside = c.self.inside in
    let P : ModuleTree → Type 0 = λ m. nat_eq c.len-no_vars.result 0 && (nat_eq c.len-no_subs.result 0 && (nat_eq c.len-no_fns.result 0 && nat_eq (length c.iter_manifests.result.now) 0)) ≡ is_empty m in
    let vars = ap (λ n. nat_eq n 0) c.len-no_vars.ensures ∙ none_of inside.vars in
    let subs = ap (λ n. nat_eq n 0) c.len-no_subs.ensures.len ∙ subs_none {Z = Global} inside.subs.entries in
    let fns = ap (λ n. nat_eq n 0) c.len-no_fns.ensures ∙ none_of inside.eager.pairs in
    let manifests = ap (λ n. nat_eq n 0) (ap length (c.iter_manifests.ensures ∙ ap (λ (m : ModuleTree). m.own.manifests) (sym c.self.view_is))) ∙ none_of inside.manifests.items in
    subst P c.self.view_is (λ i. vars i && (subs i && (fns i && manifests i)))
