-- Declarations after comments are set.
use Rattle.std.proofs.Common.{◌≡◌, ℕ, ◌+◌, Bool, true, false, cond, List, [], ◌∷◌, Some, None, refl, sym, ap}
use Rattle.std.specs.Map.{lookup}
use Rattle.rhd_value.specs.Tree.{Bytes}
use Rattle.rhd_hash.specs.declared.key.Key.{Key}
use Rattle.rhd_hash.specs.Keys.{key_eq}
use Rattle.rhd_decl.specs.declared.declaration.Declaration.{Declaration}
use Rattle.rhd_table.specs.Pairs.{Pairs, put}
use Rattle.rhd_table.specs.Found.{commented, comment_on}
use Rattle.rhd_table.specs.NativeIndex.{places_from}

module _ (k : Key) (comments : List Bytes) where
  put_step : (d : Declaration) (p : Key × Declaration) (ps : Pairs) (same : Bool) → key_eq k p.0 ≡ same → (lookup (key_eq k) ps ≡ Some d → put k (commented comments d) ps ≡ comment_on k comments ps)
      → cond same (Some p.1) (lookup (key_eq k) ps) ≡ Some d
      → cond same ((p.0, commented comments d) ∷ ps) (p ∷ put k (commented comments d) ps) ≡ cond same ((p.0, commented comments p.1) ∷ ps) (p ∷ comment_on k comments ps)
  put_step d p ps true s ih e = let is : p.1 ≡ d = cc in ap (λ (x : Declaration). (p.0, commented comments x) ∷ ps) (sym is)
  put_step d p ps false s ih e = ap (λ (qs : Pairs). p ∷ qs) (ih e)

  -- to put the declaration with comments is to comment on it
  pub put_commented : (d : Declaration) (ps : Pairs) → lookup (key_eq k) ps ≡ Some d → put k (commented comments d) ps ≡ comment_on k comments ps
  put_commented d [] e = absurd cc
  put_commented d (p ∷ ps) e = put_step d p ps (key_eq k p.0) refl (put_commented d ps) e

  none_step : (p : Key × Declaration) (ps : Pairs) (same : Bool) → key_eq k p.0 ≡ same → (lookup (key_eq k) ps ≡ None → comment_on k comments ps ≡ ps)
      → cond same (Some p.1) (lookup (key_eq k) ps) ≡ None → cond same ((p.0, commented comments p.1) ∷ ps) (p ∷ comment_on k comments ps) ≡ p ∷ ps
  none_step p ps true s ih e = absurd cc
  none_step p ps false s ih e = ap (λ (qs : Pairs). p ∷ qs) (ih e)

  -- where there is none, nothing changes
  pub none_commented : (ps : Pairs) → lookup (key_eq k) ps ≡ None → comment_on k comments ps ≡ ps
  none_commented [] e = refl
  none_commented (p ∷ ps) e = none_step p ps (key_eq k p.0) refl (none_commented ps) e

  places_step : (n : ℕ) (own : Key → Bool) (p : Key × Declaration) (ps : Pairs) (same : Bool) → places_from (n + 1) own (comment_on k comments ps) ≡ places_from (n + 1) own ps
      → places_from n own (cond same ((p.0, commented comments p.1) ∷ ps) (p ∷ comment_on k comments ps)) ≡ places_from n own (p ∷ ps)
  places_step n own p ps true ih = refl
  places_step n own p ps false ih = ap (λ (xs : List ℕ). cond (own p.0) (n ∷ xs) xs) ih

  -- natives stay where they are
  pub places_commented : (n : ℕ) (own : Key → Bool) (ps : Pairs) → places_from n own (comment_on k comments ps) ≡ places_from n own ps
  places_commented n own [] = refl
  places_commented n own (p ∷ ps) = places_step n own p ps (key_eq k p.0) (places_commented (n + 1) own ps)
