-- How the table of built-in operators is put into, and that what it has is held.
use Rattle.std.proofs.Common.{◌≡◌, ℕ, Bool, true, false, cond, List, [], ◌∷◌, refl, sym, ap, ◌∙◌}
use Rattle.std.specs.Prelude.{Some, nat_lt}
use Rattle.std.specs.List.{AllZip}
use Rattle.std.specs.Map.{lookup}
use Rattle.rhd_value.specs.declared.tag.FnId.{FnId}
use Rattle.indexmap.specs.IndexMap.{insert_entry}
use Rattle.rhd_layers.proofs.Bools.{parts}
use Rattle.rhd_engine.specs.Engine.{Operator}
use Rattle.rhd_engine.specs.Held.{builtins_held}
use Rattle.rhd_engine.specs.Operators.{operator_eq, put_builtin}

pub put_is : (o : Operator) (id : FnId) (bs : List (Operator × FnId)) → insert_entry operator_eq bs o id ≡ put_builtin o id bs
put_is o id [] = refl
put_is o id (b ∷ bs) = rw (put_is o id bs)

held_step : (n : ℕ) (o : Operator) (b : Operator × FnId) (bs : List (Operator × FnId)) (id : FnId) (same : Bool) → builtins_held n (b ∷ bs) ≡ true → (builtins_held n bs ≡ true → lookup (operator_eq o) bs ≡ Some id → nat_lt id.0 n ≡ true)
    → cond same (Some b.1) (lookup (operator_eq o) bs) ≡ Some id → nat_lt id.0 n ≡ true
held_step n o b bs id true all ih e = let q : b.1 ≡ id = cc in ap (λ (x : FnId). nat_lt x.0 n) (sym q) ∙ (parts (nat_lt b.1.0 n) (builtins_held n bs) all).0
held_step n o b bs id false all ih e = ih (parts (nat_lt b.1.0 n) (builtins_held n bs) all).1 e

-- what the table has for an operator is held
pub table_held : (n : ℕ) (o : Operator) (bs : List (Operator × FnId)) (id : FnId) → builtins_held n bs ≡ true → lookup (operator_eq o) bs ≡ Some id → nat_lt id.0 n ≡ true
table_held n o [] id all e = absurd cc
table_held n o (b ∷ bs) id all e = held_step n o b bs id (operator_eq o b.0) all (table_held n o bs id) e

-- a clone of a table is the table
pub copy_is : (old new : List (Operator × FnId)) → AllZip (λ p q. (q.0 ≡ p.0) × (q.1 ≡ p.1)) old new → new ≡ old
copy_is [] [] h = refl
copy_is [] (q ∷ qs) h = absurd h
copy_is (p ∷ ps) [] h = absurd h
copy_is (p ∷ ps) (q ∷ qs) h = let rest = copy_is ps qs h.1 in λ i. (h.0.0 i, h.0.1 i) ∷ rest i
