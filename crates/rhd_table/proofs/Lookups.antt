-- What a key finds among declarations: joined, put in one after the other, and in what a module shows before and after what it lists is registered.
use Rattle.std.proofs.Common.{◌≡◌, Bool, true, false, cond, Option, Some, refl, sym, ap, ◌∙◌}
use Rattle.std.specs.Map.{lookup}
use Rattle.rhd_hash.specs.declared.key.Key.{Key}
use Rattle.rhd_hash.specs.Keys.{key_eq, key_eq-Decides}
use Rattle.rhd_hash.proofs.FirstFound.{is_other}
use Rattle.rhd_hash.proofs.PutIn.{finds_itself, finds_others}
use Rattle.rhd_decl.specs.declared.declaration.Declaration.{Declaration}
use Rattle.rhd_table.specs.Pairs.{Pairs, put}

-- the first declaration with a key
abbrev pub first : Key → Pairs → Option Declaration
first k ps = lookup (key_eq k) ps

pub one_key : (a b : Key) → key_eq a b ≡ true → a ≡ b
one_key a b e = (key_eq-Decides a b).0 e

pub first_put : (k q : Key) (d : Declaration) (ps : Pairs) → first k (put q d ps) ≡ cond (key_eq k q) (Some d) (first k ps)
first_put k q d ps = by (key_eq k q) refl
  where
    by : (same : Bool) → key_eq k q ≡ same → first k (put q d ps) ≡ cond same (Some d) (first k ps)
    by true s = ap (λ x. first x (put q d ps)) (one_key k q s) ∙ finds_itself key_eq key_eq-Decides q d ps
    by false s = finds_others key_eq key_eq-Decides q d k ps (λ same. is_other key_eq key_eq-Decides k q s (sym same))
