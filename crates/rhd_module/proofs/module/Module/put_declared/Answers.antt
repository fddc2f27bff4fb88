use Rattle.std.proofs.Common.{◌≡◌, false, true, is_some, None, OnOk, sym, subst, ◌∙◌}
use Rattle.std.specs.List.{AllByRecursion, filter}
use Rattle.std.specs.Map.{keys_of}
use Rattle.rhd_hash.specs.Table.{HasOwnHashes}
use Rattle.rhd_module.specs.Algebra.{with_named}
use Rattle.rhd_table.specs.Indexed.{IsClash}
use Rattle.rhd_table.specs.Pairs.{put_all, Pairs}
use Rattle.rhd_module.specs.Manifests.{with_pairs}
use Rattle.rhd_module.specs.Tree.{subs_of}
use Rattle.rhd_table.proofs.Fills.{if_more}
use Rattle.rhd_table.proofs.Lookups.{first}
use Rattle.rhd_table.proofs.Registers.{clash_all}
use Rattle.rhd_module.proofs.PutParts.{present, absent, all_present, all_absent, is_nothing, alone_own, split_all}
use Rattle.rhd_module.proofs.module.Module.put_declared.Goals as goal
use Rattle.rhd_module.proofs.module.Module.put_declared.Goals.{After-put_copies}

pub put_copies-requires-clause-there : goal.put_copies-requires-clause-there
put_copies-requires-clause-there c =
    let own = c.args.self.now.own.eager in
    let other = c.args.other.now.own.eager in
    let items : c.in_ok-there.field-0.there.items ≡ filter (λ p. present own p.0) other = c.in_ok-there.ensures.there ∙ (λ i. filter (λ p. present (c.self.view_is i).own.eager p.0) (c.other.view_is i).own.eager) in
    subst (AllByRecursion (λ p. is_some (first p.0 own) ≡ true)) (sym items) (all_present own other)

pub put_copies-requires-clause-new : goal.put_copies-requires-clause-new
put_copies-requires-clause-new c =
    let own = c.args.self.now.own.eager in
    let other = c.args.other.now.own.eager in
    let items : c.in_ok-there.field-0.new.items ≡ filter (λ p. absent own p.0) other = c.in_ok-there.ensures.new ∙ (λ i. filter (λ p. absent (c.self.view_is i).own.eager p.0) (c.other.view_is i).own.eager) in
    subst (AllByRecursion (λ p. first p.0 own ≡ None)) (sym items) (all_absent own (absent own) other (λ k h. is_nothing (first k own) h))

whole : (c : After-put_copies) → put_all c.in_ok-there.field-0.there.items (put_all c.in_ok-there.field-0.new.items c.args.self.now.own.eager) ≡ put_all c.args.other.now.own.eager c.args.self.now.own.eager
whole c =
    let own = c.args.self.now.own.eager in
    let other = c.args.other.now.own in
    let here : c.in_ok-there.field-0.there.items ≡ filter (λ p. present own p.0) other.eager = c.in_ok-there.ensures.there ∙ (λ i. filter (λ p. present (c.self.view_is i).own.eager p.0) (c.other.view_is i).own.eager) in
    let new : c.in_ok-there.field-0.new.items ≡ filter (λ p. absent own p.0) other.eager = c.in_ok-there.ensures.new ∙ (λ i. filter (λ p. absent (c.self.view_is i).own.eager p.0) (c.other.view_is i).own.eager) in
    (λ i. put_all (here i) (put_all (new i) own)) ∙ split_all other.eager own (alone_own other.seeds other.eager c.iter_fn-apart.ensures.apart)

pub returns-clause-ok : goal.returns-clause-ok
returns-clause-ok c = subst (λ (ps : Pairs). OnOk c.put_copies.result (c.put_copies.new.self ≡ with_named c.args.named.vars.items (subs_of c.args.named.subs.items) (with_pairs ps false c.args.self.now))) (whole c) c.put_copies.ensures.ok

pub returns-clause-table : goal.returns-clause-table
returns-clause-table c = subst (λ (ps : Pairs). OnOk c.put_copies.result (HasOwnHashes c.args.self.now.own.seeds (keys_of ps))) (whole c) c.put_copies.ensures.table

pub returns-clause-clash : goal.returns-clause-clash
returns-clause-clash c =
    let s = c.args.self.now.own.seeds in
    let grown = put_all c.in_ok-there.field-0.new.items c.args.self.now.own.eager in
    if_more c.put_copies.result _ _ (λ f h. subst (λ (ps : Pairs). IsClash s (keys_of ps) f) (whole c) (clash_all s c.in_ok-there.field-0.there.items grown f h)) c.put_copies.ensures.clash
