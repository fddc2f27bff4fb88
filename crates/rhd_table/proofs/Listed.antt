-- What a module shows beside its declarations: what is listed, the first under each key.
use Rattle.std.proofs.Common.{◌≡◌, [], ◌∷◌, ◌++◌, is_none}
use Rattle.std.specs.Map.{lookup}
use Rattle.std.proofs.lemmas.List.Elements.{filter-append}
use Rattle.rhd_hash.specs.declared.key.Key.{Key}
use Rattle.rhd_hash.specs.Keys.{key_eq}
use Rattle.rhd_decl.specs.declared.declaration.Declaration.{Declaration}
use Rattle.rhd_table.specs.Pairs.{Pairs, without}

-- the first of some declarations, and the others
pub without_more : (others : Pairs) (p : Key × Declaration) (ps : Pairs) → without others (p ∷ ps) ≡ without others (p ∷ []) ++ without others ps
without_more others p ps = filter-append (λ p. is_none (lookup (key_eq p.0) others)) (p ∷ []) ps
