use Rattle.std.proofs.Common.{sym, ap, reverse, ◌∙◌}
use Rattle.std.specs.Option.{option_copied}
use Rattle.rhd_hash.specs.Keys.{key_eq}
use Rattle.rhd_manifest.specs.Entry.{entry_key}
use Rattle.rhd_manifest.specs.Listing.{listed_in}
use Rattle.rhd_manifest.specs.Rank.{find_entry}
use Rattle.rhd_manifest.proofs.Firsts.{listed_last}
use Rattle.rhd_manifest.proofs.Places.{no_script}
use Rattle.rhd_manifest.proofs.Ranks.{find_found, find_past, copied_is}
use Rattle.rhd_manifest.proofs.listing.Listing.find.Goals as goal

pub returns-then-is_script : goal.returns-then-is_script
returns-then-is_script c = sym (no_script c.args.key.now _ (sym c.is_script.ensures ∙ c.if-is_script.true))

pub returns-then-is_some : goal.returns-then-is_some
returns-then-is_some c =
    let x = c.in-Some.part.now in
    let front = c.next.new.self.iter.rest.now in
    let some = copied_is c.find_key-found.result c.is_some.result c.is_some.ensures ∙ c.if-is_some.true in
    find_found (λ e. key_eq c.args.key.now (entry_key e)) (reverse x.value) (listed_in front) (option_copied c.find_key-found.result) (c.find_key-found.ensures ∙ ap (λ es. find_entry c.args.key.now (reverse es)) c.deref-in-loop-part.ensures) some
    ∙ ap (find_entry c.args.key.now) (sym (ap listed_in c.in-Some.ensures.steps ∙ listed_last front x))
    ∙ c.loop-part.invariant

pub loop-part-preserved : goal.loop-part-preserved
loop-part-preserved c =
    let x = c.in-Some.part.now in
    let front = c.next.new.self.iter.rest.now in
    let none = copied_is c.find_key-found.result c.is_some.result c.is_some.ensures ∙ c.if-is_some.false in
    sym (ap (find_entry c.args.key.now) (ap listed_in c.in-Some.ensures.steps ∙ listed_last front x)
    ∙ find_past (λ e. key_eq c.args.key.now (entry_key e)) (reverse x.value) (listed_in front) (option_copied c.find_key-found.result) (c.find_key-found.ensures ∙ ap (λ es. find_entry c.args.key.now (reverse es)) c.deref-in-loop-part.ensures) none)
    ∙ c.loop-part.invariant
