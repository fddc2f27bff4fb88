-- Names with their values, written one after the other.
use Rattle.std.proofs.Common.{◌≡◌, ℕ, Bool, true, false, cond, List, [], ◌∷◌, ◌++◌, if◌then◌else◌, codes, append_assoc}
use Rattle.std.proofs.lemmas.List.{append-nil}
use Rattle.rhd_value.specs.Tree.{Bytes, Tree, members_of}
use Rattle.rhd_print.specs.PrintedTexts.{quoted}
use Rattle.rhd_print.specs.PrintedValues.{spelled, spelled_members, spaced_members}

between : (out name space value more : List ℕ) → ((out ++ space) ++ ((name ++ space) ++ value)) ++ more ≡ out ++ ((((space ++ name) ++ space) ++ value) ++ more)
between out name space value more = simp append_assoc

first : (out name space value more : List ℕ) → ((out ++ []) ++ ((name ++ space) ++ value)) ++ more ≡ out ++ (((name ++ space) ++ value) ++ more)
first out name space value more = simp (append_assoc, append-nil)

-- the next name with its value, after a space if it isn't the first
pub next_entry : (later : Bool) (out : List ℕ) (e : Bytes × Tree) (more : List (Bytes × Tree))
    → ((out ++ (if later then 32 ∷ [] else [])) ++ (quoted e.0 ++ codes " " ++ spelled e.1)) ++ spaced_members (members_of more)
    ≡ out ++ cond later (spaced_members (members_of (e ∷ more))) (spelled_members (members_of (e ∷ more)))
next_entry true out e more = between out (quoted e.0) (codes " ") (spelled e.1) (spaced_members (members_of more))
next_entry false out e more = first out (quoted e.0) (codes " ") (spelled e.1) (spaced_members (members_of more))
