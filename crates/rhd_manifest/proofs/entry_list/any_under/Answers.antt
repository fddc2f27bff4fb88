use Rattle.std.proofs.Common.{◌≡◌, ◌+◌, ◌||◌, ◌∷◌, true, drop, sym, ap, ◌∙◌}
use Rattle.std.proofs.lemmas.List.{drop_more}
use Rattle.std.specs.List.{list_any}
use Rattle.rhd_hash.specs.Keys.{key_eq}
use Rattle.rhd_manifest.proofs.Firsts.{under}
use Rattle.rhd_manifest.proofs.entry_list.any_under.Goals as goal

pub returns-then-eq : goal.returns-then-eq
returns-then-eq c =
    let t = under c.args.key.now in
    let es = c.args.entries.now in
    let i = c.loop-entry.entry-index in
    let here : t c.entry-item.result ≡ true = ap (key_eq c.args.key.now) (sym c.key.ensures) ∙ sym c.eq.ensures ∙ c.if-eq.true in
    sym (sym c.loop-entry.invariant ∙ ap (list_any t) (drop_more es i c.entry-item.result c.loop-entry-test.true ∙ ap (λ y. y ∷ drop (i + 1) es) (sym c.entry-item.is)) ∙ ap (λ b. b || list_any t (drop (i + 1) es)) here)
