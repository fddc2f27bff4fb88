use Rattle.std.proofs.Common.{◌≡◌, List, [], ◌∷◌, ◌++◌, map, Bor, sym, ap, subst, append_assoc, ◌∙◌}
use Rattle.std.specs.Map.{keys_of}
use Rattle.std.proofs.lemmas.List.{map-append}
use Rattle.rhd_hash.specs.declared.key.Key.{Key}
use Rattle.rhd_decl.specs.declared.declaration.Declaration.{Declaration}
use Rattle.rhd_manifest.specs.Entry.{Entry, entry_pair}
use Rattle.rhd_table.specs.Pairs.{Pairs, without}
use Rattle.rhd_table.specs.Paths.{pairs_at}
use Rattle.rhd_table.specs.Indexed.{IsClash}
use Rattle.rhd_table.proofs.Fills.{if_err, clash_entry, fills_listed}
use Rattle.rhd_table.proofs.tree_index.TreeIndex.put_each_listed.Goals as goal

pub returns-in_err-put_entry-clause-clash : goal.returns-in_err-put_entry-clause-clash
returns-in_err-put_entry-clause-clash c =
    let es = c.args.listed.now in
    let eager = c.args.declarations.now.pairs in
    let path = c.args.path.now in
    let old = c.args.self.now in
    let pair : Bor Entry → Key × Declaration = λ e. entry_pair c.args.declarations.now.seeds e.now in
    let x = c.in-Some.entry.now in
    let front = c.next.new.self.iter.rest.now in
    let done = c.loop-entry.invariant.0 in
    let fault = c.in_err-put_entry.field-0.0 in
    let source = ap (λ r. r.iter.rest.now) c.into_iter-entry-iterator.ensures.into_iter_gives ∙ ap (λ r. r.rest.now) c.rev-entry-items.ensures.source ∙ c.iter.ensures.rest in
    let all : es ≡ front ++ x ∷ done = sym source ∙ c.loop-entry.invariant.1 ∙ ap (λ (t : List (Bor Entry)). t ++ done) c.in-Some.ensures.steps ∙ append_assoc front (x ∷ []) done in
    let parts : map pair es ≡ map pair front ++ pair x ∷ map pair done = ap (map pair) all ∙ map-append pair front (x ∷ done) in
    let P : Pairs → Type 0 = λ ps. IsClash old.seeds (keys_of (pairs_at path (without eager ps)) ++ keys_of old.pairs) fault in
    if_err c.from_residual.result fault _ c.from_residual.ensures
    (subst P (sym parts) (clash_entry old c.loop-entry.self c.loop-entry.self path eager (pair x) (map pair done) (map pair front) fault c.loop-entry.invariant.2 c.in_err-put_entry.ensures.clash))

pub loop-entry-preserved : goal.loop-entry-preserved
loop-entry-preserved c =
    let eager = c.args.declarations.now.pairs in
    let pair : Bor Entry → Key × Declaration = λ e. entry_pair c.args.declarations.now.seeds e.now in
    let x = c.in-Some.entry.now in
    let front = c.next.new.self.iter.rest.now in
    let done = c.loop-entry.invariant.0 in (
      x ∷ done,
      c.loop-entry.invariant.1 ∙ ap (λ (t : List (Bor Entry)). t ++ done) c.in-Some.ensures.steps ∙ append_assoc front (x ∷ []) done,
      fills_listed c.args.self.now c.loop-entry.self c.put_entry.new.self c.args.path.now eager (pair x) (map pair done) c.loop-entry.invariant.2 c.in_ok-put_entry.ensures.fills,
    )
