-- Operators between two kinds, and the table of their functions.
use Rattle.std.specs.Prelude.{◌≡◌, ℕ, Bool, ◌&&◌, List, ◌++◌, true}
use Rattle.std.specs.Bool.{Decides}
use Rattle.std.specs.Cmp.{IsEquivalence, decided}
use Rattle.std.specs.Hash as fed
use Rattle.std.proofs.Common.{ap}
use Rattle.std.proofs.lemmas.Bool.Decides.{Decides-and, Decides-like}
use Rattle.rhd_value.specs.Same.{tag_argument, tag_eq, tag_eq-Decides}
use Rattle.rhd_value.specs.declared.tag.FnId.{FnId}
use Rattle.rhd_names.specs.Tokens.{token_text, token_eq, token_eq-Decides}
use Rattle.rhd_hash.specs.PutIn.{put_in}
use Rattle.rhd_engine.specs.declared.builtins.Operator.{Operator}

abbrev pub operator_eq : Operator → Operator → Bool
operator_eq a b = token_eq a.token b.token && (tag_eq a.left b.left && tag_eq a.right b.right)

pub operator_eq-Decides : (a b : Operator) → Decides (operator_eq a b) (a ≡ b)
operator_eq-Decides a b =
    Decides-like (operator_eq a b)
    (λ h. (λ i. record { token = h.0 i; left = h.1.0 i; right = h.1.1 i }))
    (λ e. (ap (λ (o : Operator). o.token) e, (ap (λ (o : Operator). o.left) e, ap (λ (o : Operator). o.right) e)))
    (Decides-and (token_eq a.token b.token) (tag_eq a.left b.left && tag_eq a.right b.right) (token_eq-Decides a.token b.token)
    (Decides-and (tag_eq a.left b.left) (tag_eq a.right b.right) (tag_eq-Decides a.left b.left) (tag_eq-Decides a.right b.right)))

pub operator_eq_equiv : IsEquivalence operator_eq
operator_eq_equiv = decided operator_eq operator_eq-Decides

-- what a hash of an operator is made of: its token, and the numbers of custom types
abbrev pub operator_input : Operator → List (List ℕ)
operator_input o = fed.str (token_text o.token) ++ (fed.u32 (tag_argument o.left) ++ fed.u32 (tag_argument o.right))

pub operator_alike : (a b : Operator) → operator_eq a b ≡ true → operator_input a ≡ operator_input b
operator_alike a b e = ap operator_input ((operator_eq-Decides a b).0 e)

-- an equal operator keeps its place and gets the new function; else the pair goes last
abbrev pub put_builtin : Operator → FnId → List (Operator × FnId) → List (Operator × FnId)
put_builtin o id bs = put_in operator_eq o id bs
