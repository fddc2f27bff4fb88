use Rattle.std.proofs.Common.{◌≡◌, false, Bool, not, is_some, is_none, None, OnOk, rules, sym, ap, subst, ◌∙◌}
use Rattle.std.specs.List.{AllByRecursion, filter}
use Rattle.std.specs.Map.{keys_of}
use Rattle.rhd_hash.specs.declared.key.Key.{Key}
use Rattle.rhd_hash.specs.Table.{HasOwnHashes}
use Rattle.rhd_module.specs.Algebra.{with_named}
use Rattle.rhd_table.specs.Indexed.{IsClash}
use Rattle.rhd_table.specs.Pairs.{put_all, without, Pairs}
use Rattle.rhd_module.specs.Manifests.{with_pairs}
use Rattle.rhd_module.specs.Shown.{shown, own_decl}
use Rattle.rhd_module.specs.Tree.{ModuleTree, subs_of}
use Rattle.rhd_table.proofs.Fills.{if_more}
use Rattle.rhd_table.proofs.Lookups.{first}
use Rattle.rhd_module.proofs.PutParts.{all_absent, not_is, same_filter, every, front_none}
use Rattle.rhd_module.proofs.module.Module.put_unshown.Goals as goal
use Rattle.rhd_module.proofs.module.Module.put_unshown.Goals.{After-put_copies}

-- nothing is declared or listed under a key
abbrev is_new : ModuleTree → Key → Bool
is_new m k = is_none (first k (shown m.own))

pub put_copies-requires-clause-new : goal.put_copies-requires-clause-new
unfolding own_decl
put_copies-requires-clause-new c =
    let m = c.args.self.now in
    let other = c.args.other.now.own.eager in
    let shows : Key → Bool = λ k. not (is_some (own_decl m k)) in
    let items : c.in_ok-new.new.items ≡ without (shown m.own) other = c.in_ok-new.ensures shows (λ k r h. search rules) ∙ ap (λ (t : ModuleTree). filter (λ p. shows p.0) t.own.eager) c.other.view_is ∙ same_filter shows (is_new m) other (every shows (is_new m) other (λ k. not_is (own_decl m k))) in
    subst (AllByRecursion (λ p. first p.0 m.own.eager ≡ None)) (sym items) (all_absent m.own.eager (is_new m) other (λ k h. front_none k m.own h))

whole : (c : After-put_copies) → put_all c.new.result.items (put_all c.in_ok-new.new.items c.args.self.now.own.eager) ≡ put_all (without (shown c.args.self.now.own) c.args.other.now.own.eager) c.args.self.now.own.eager
unfolding own_decl
whole c =
    let m = c.args.self.now in
    let other = c.args.other.now.own.eager in
    let shows : Key → Bool = λ k. not (is_some (own_decl m k)) in
    let items : c.in_ok-new.new.items ≡ without (shown m.own) other = c.in_ok-new.ensures shows (λ k r h. search rules) ∙ ap (λ (t : ModuleTree). filter (λ p. shows p.0) t.own.eager) c.other.view_is ∙ same_filter shows (is_new m) other (every shows (is_new m) other (λ k. not_is (own_decl m k))) in
    λ i. put_all (c.new.ensures.items i) (put_all (items i) m.own.eager)

pub returns-clause-ok : goal.returns-clause-ok
returns-clause-ok c = subst (λ (ps : Pairs). OnOk c.put_copies.result (c.put_copies.new.self ≡ with_named c.args.named.vars.items (subs_of c.args.named.subs.items) (with_pairs ps false c.args.self.now))) (whole c) c.put_copies.ensures.ok

pub returns-clause-table : goal.returns-clause-table
returns-clause-table c = subst (λ (ps : Pairs). OnOk c.put_copies.result (HasOwnHashes c.args.self.now.own.seeds (keys_of ps))) (whole c) c.put_copies.ensures.table

pub returns-clause-clash : goal.returns-clause-clash
unfolding own_decl
returns-clause-clash c =
    let m = c.args.self.now in
    let other = c.args.other.now.own.eager in
    let shows : Key → Bool = λ k. not (is_some (own_decl m k)) in
    let items : c.in_ok-new.new.items ≡ without (shown m.own) other = c.in_ok-new.ensures shows (λ k r h. search rules) ∙ ap (λ (t : ModuleTree). filter (λ p. shows p.0) t.own.eager) c.other.view_is ∙ same_filter shows (is_new m) other (every shows (is_new m) other (λ k. not_is (own_decl m k))) in
    if_more c.put_copies.result _ _ (λ f h. subst (λ (ps : Pairs). IsClash m.own.seeds (keys_of (put_all ps m.own.eager)) f) items h) c.put_copies.ensures.clash
