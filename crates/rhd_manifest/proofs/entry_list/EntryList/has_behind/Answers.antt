use Rattle.std.proofs.Common.{Some, is_some, nat_eq, sym, ap, ◌∙◌}
use Rattle.std.specs.HashMap.{get}
use Rattle.rhd_manifest.specs.Index.{entry_at}
use Rattle.rhd_manifest.proofs.Places.{not_less, behind_nothing, behind_last, before_last}
use Rattle.rhd_manifest.proofs.Ranks.{copied_is}
use Rattle.rhd_manifest.proofs.entry_list.EntryList.has_behind.Goals as goal

pub returns-then-place-last : goal.returns-then-place-last
returns-then-place-last c = rw (← c.self.view_is)
    (sym (copied_is c.entry_at.result c.is_some.result c.is_some.ensures) ∙ ap is_some (c.entry_at.ensures ∙ ap (λ es. entry_at c.args.key.now es (Some c.in-Some.last.now)) c.as_slice.ensures.value)
    ∙ before_last (get nat_eq c.self.inside.places) c.self.inside.clashes c.self.inside.entries.items c.self.invariant c.if-self.false c.args.key.now c.args.hash c.args.place c.requires.hash c.in-Some.last.now (sym c.in-Some.ensures.value) c.if-place-last.true)

pub returns-else-place-last : goal.returns-else-place-last
returns-else-place-last c = rw (← c.self.view_is)
    (not_less c.args.place c.in-Some.last.now c.if-place-last.false
    ∙ sym (behind_last (get nat_eq c.self.inside.places) c.self.inside.clashes c.self.inside.entries.items c.self.invariant c.if-self.false c.args.key.now c.args.hash c.args.place c.requires.hash c.in-Some.last.now (sym c.in-Some.ensures.value) c.if-place-last.false))

pub returns-in-None : goal.returns-in-None
returns-in-None c = rw (← c.self.view_is)
    (sym (behind_nothing (get nat_eq c.self.inside.places) c.self.inside.clashes c.self.inside.entries.items c.self.invariant c.if-self.false c.args.key.now c.args.hash c.args.place c.requires.hash (sym c.in-None.ensures.value)))
