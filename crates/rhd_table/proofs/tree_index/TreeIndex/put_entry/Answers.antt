use Rattle.std.proofs.Common.{◌≡◌, Bool, true, not, is_none, cond, [], ◌∷◌, ◌++◌, append-nil, sym, ap, subst, ◌∙◌}
use Rattle.std.specs.Result.{IfErr}
use Rattle.std.specs.Map.{lookup, keys_of}
use Rattle.rhd_hash.specs.declared.key.Key.{Key}
use Rattle.rhd_hash.specs.Keys.{key_eq}
use Rattle.rhd_decl.specs.declared.declaration.Declaration.{Declaration}
use Rattle.rhd_manifest.specs.Entry.{entry_pair}
use Rattle.rhd_table.specs.Indexed.{IsClash}
use Rattle.rhd_table.specs.Pairs.{Pairs}
use Rattle.rhd_table.specs.Paths.{unpathed, pathed, pairs_at}
use Rattle.rhd_table.proofs.Taken.{is_found, is_unfound}
use Rattle.rhd_table.proofs.tree_index.TreeIndex.put_entry.Goals as goal

pub returns-clause-clash : goal.returns-clause-clash
returns-clause-clash c =
    let seeds = c.args.declarations.now.seeds in
    let es = c.args.declarations.now.pairs in
    let path = c.args.path.now in
    let old = c.args.self.now in
    let p : Key × Declaration = entry_pair seeds c.args.entry.now in
    let found = lookup (key_eq p.0) es in
    let get = c.get.ensures ∙ ap (λ (k : Key). lookup (key_eq k) es) c.key.ensures in
    let none : is_none found ≡ true = is_unfound found c.is_some.result (is_found c.get.result found c.is_some.result get c.is_some.ensures) ∙ ap not c.if-is_some.false in
    let P : Pairs → Type 0 = λ ps. IfErr c.put_entry_pairs.result (IsClash old.seeds (keys_of ps ++ keys_of old.pairs)) in
    let here : P (pairs_at path (p ∷ [])) = subst P (sym (append-nil (unpathed p ++ pathed path p))) (c.put_entry_pairs.ensures.clash seeds) in
    subst (λ (b : Bool). P (pairs_at path (cond b (p ∷ []) []))) (sym none) here
