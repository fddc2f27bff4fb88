use Rattle.std.proofs.Common.{◌≡◌, sym, ap, subst, ◌∙◌}
use Rattle.std.specs.List.{Contains}
use Rattle.std.specs.Map.{keys_of}
use Rattle.rhd_hash.specs.declared.key.Key.{Key}
use Rattle.rhd_hash.specs.Keys.{key_eq, key_eq-Decides}
use Rattle.rhd_hash.specs.Parts.{mixed}
use Rattle.rhd_hash.specs.Table.{first_hashed, Clashes, HasOwnHashes}
use Rattle.rhd_hash.proofs.FirstFound.{is_other}
use Rattle.rhd_hash.proofs.Tables.{first_hashed-hash, first_hashed-Contains, lookup-clash, on_err}
use Rattle.rhd_hash.proofs.table.KeyTable.clash_with.Goals as goal

pub returns-in_ok-dup-in-Some-clause-held : goal.returns-in_ok-dup-in-Some-clause-held
returns-in_ok-dup-in-Some-clause-held g c =
    let s = c.args.self.now in
    let key = c.args.key.now in
    let e : c.args.hash ≡ mixed s.seeds key = c.requires in
    let found = ap (λ h. first_hashed (mixed s.seeds) h s.pairs) (sym e) ∙ sym c.in-Some.ensures.pair in
    let P : Key → Type 0 = λ q. Contains (keys_of s.pairs) q × Clashes s.seeds q key in
    subst P (sym c.in_ok-dup-in-Some.ensures) (
      first_hashed-Contains (mixed s.seeds) _ _ _ s.pairs found,
      record {
        differ = λ same. is_other key_eq key_eq-Decides _ _ (ap (λ k. key_eq k c.args.key.now) (sym c.key.ensures) ∙ sym c.eq.ensures ∙ c.if-eq.false) (sym same);
        one_hash = first_hashed-hash (mixed s.seeds) _ _ _ s.pairs found;
      },
    )

pub returns-in_ok-dup-in-Some-clause-absent : goal.returns-in_ok-dup-in-Some-clause-absent
unfolding HasOwnHashes
returns-in_ok-dup-in-Some-clause-absent g c =
    let s = c.args.self.now in
    let e : c.args.hash ≡ mixed s.seeds c.args.key.now = c.requires in
    let found = ap (λ h. first_hashed (mixed s.seeds) h s.pairs) (sym e) ∙ sym c.in-Some.ensures.pair in
    lookup-clash (mixed s.seeds) key_eq key_eq-Decides c.args.key.now _ _ s.pairs c.in-Some.ensures.apart found (ap (λ k. key_eq k c.args.key.now) (sym c.key.ensures) ∙ sym c.eq.ensures ∙ c.if-eq.false)

pub returns-in_err-dup-in-Some-clause-err : goal.returns-in_err-dup-in-Some-clause-err
unfolding HasOwnHashes
returns-in_err-dup-in-Some-clause-err g c =
    let s = c.args.self.now in
    let e : c.args.hash ≡ mixed s.seeds c.args.key.now = c.requires in
    let found = ap (λ h. first_hashed (mixed s.seeds) h s.pairs) (sym e) ∙ sym c.in-Some.ensures.pair in
    on_err _ (lookup-clash (mixed s.seeds) key_eq key_eq-Decides c.args.key.now _ _ s.pairs c.in-Some.ensures.apart found (ap (λ k. key_eq k c.args.key.now) (sym c.key.ensures) ∙ sym c.eq.ensures ∙ c.if-eq.false))
