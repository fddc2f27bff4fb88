use Rattle.std.proofs.Common.{◌≡◌, ℕ, ◌||◌, List, Some, cond, length, nat_eq, sym, ap, subst, ◌∙◌, arith, rules}
use Rattle.std.specs.HashMap.{get}
use Rattle.std.specs.Map.{lookup}
use Rattle.rhd_manifest.specs.Entry.{Entry, entry_key}
use Rattle.rhd_manifest.specs.Index.{IsIndex, index_hash, has_other}
use Rattle.rhd_manifest.proofs.Places.{index_push, popped}
use Rattle.rhd_manifest.proofs.entry_list.EntryList.push.Goals as goal

pub invariant_of-self-in-Ok : goal.invariant_of-self-in-Ok
invariant_of-self-in-Ok c =
    let es = c.self.inside.entries.items in
    let e = c.args.entry in
    let old = get nat_eq c.self.inside.places in
    let new = get nat_eq c.insert.new.self in
    let hash : c.index_hash-hash.result ≡ index_hash (entry_key e) = c.index_hash-hash.ensures ∙ ap index_hash c.key-key.ensures in
    let at : c.len-place.result ≡ length es = search rules in
    let puts : (h : ℕ) → new h ≡ cond (nat_eq (index_hash (entry_key e)) h) (Some (length es)) (old h) = λ h. c.in-Ok.ensures.updates.0 h ∙ (λ i. cond (nat_eq (hash i) h) (Some (at i)) (old h)) in
    let slice : c.as_slice.result.now ≡ es = search rules in
    let before : c.copied-before.result ≡ old c.index_hash-hash.result = search rules in
    let notes : (c.self.inside.clashes || c.has_other-other.result) ≡ (c.self.inside.clashes || has_other (entry_key e) es (old (index_hash (entry_key e)))) =
    ap (λ b. c.self.inside.clashes || b) (c.has_other-other.ensures ∙ (λ i. has_other (c.key-key.ensures i) (slice i) ((before ∙ ap old hash) i))) in
    let P : List Entry → Type 0 = λ xs. IsIndex new (c.self.inside.clashes || c.has_other-other.result) xs in
    subst P (sym c.in_ok-push.ensures.items) (index_push old c.self.inside.clashes es c.self.invariant e new (c.self.inside.clashes || c.has_other-other.result) puts notes)

pub invariant_of-self-in-Err : goal.invariant_of-self-in-Err
invariant_of-self-in-Err c =
    let es = c.self.inside.entries.items in
    let same = popped es c.push.new.self.items c.pop.new.self.items c.args.entry c.pop.result c.in_ok-push.ensures.items c.pop.ensures.items (c.pop.ensures.variant.1 (omega (arith, c.in_ok-push.ensures.len))) in
    let P : List (ℕ × ℕ) → List Entry → Type 0 = λ ps xs. IsIndex (λ h. lookup (nat_eq h) ps) c.self.inside.clashes xs in
    subst (λ ps. P ps c.pop.new.self.items) (sym c.in-Err.ensures.err) (subst (λ xs. P c.self.inside.places.entries xs) (sym same) c.self.invariant)
