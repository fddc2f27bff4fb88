-- The fault of a call that isn't found, by the code's tests.
use Rattle.std.proofs.Common.{◌≡◌, ◌<◌, ◌≤◌, ℕ, Bool, true, false, List, [], ◌∷◌, length, get_or, drop, append_assoc, refl, sym, ap, ◌∙◌, ◌⊎◌, inl, inr, arith}
use Rattle.std.specs.Prelude.{codes, ◌++◌, map, nat_eq, if◌then◌else◌}
use Rattle.std.specs.List.{starts_with}
use Rattle.std.specs.Str.Pattern.{FindsTextPrefix, StripsPrefix}
use Rattle.std.proofs.lemmas.Slice.Eq.{starts_is}
use Rattle.std.proofs.lemmas.Bool.{cases_Bool}
use Rattle.std.proofs.lemmas.Bool.Decides.{Decides-eqb}
use Rattle.rhd_value.specs.Tree.{Bytes, Tree}
use Rattle.rhd_value.specs.Same.{text_eq}
use Rattle.rhd_value.specs.declared.tag.Position.{Position}
use Rattle.rhd_value.specs.declared.fault.EvalAltResult.{EvalAltResult}
use Rattle.rhd_value.specs.declared.fault.EvalAltResult.TheVariants.{ErrorFunctionNotFound, ErrorDotExpr, ErrorIndexingType}
use Rattle.rhd_engine.specs.Engine.{EngineLists}
use Rattle.rhd_engine.specs.Display.{display, signature}
use Rattle.rhd_engine.specs.NotFound.{wrong_number, get_index, set_index, get_property, set_property, not_found}

-- a list of a number of elements, by the elements that are read
pub one_type : (types : List Bytes) (a : Bytes) → 1 ≤ length types → length types < 2 → a ≡ get_or types 0 a → types ≡ a ∷ []
one_type [] a l u x = absurd (omega arith)
one_type (p ∷ []) a l u x = ap (λ (y : Bytes). y ∷ []) (sym x)
one_type (p ∷ q ∷ types) a l u x = absurd (omega arith)

pub two_types : (types : List Bytes) (a b : Bytes) → 2 ≤ length types → length types < 3 → a ≡ get_or types 0 a → b ≡ get_or types 1 b → types ≡ a ∷ b ∷ []
two_types [] a b l u x y = absurd (omega arith)
two_types (p ∷ []) a b l u x y = absurd (omega arith)
two_types (p ∷ q ∷ []) a b l u x y = (λ i. sym x i ∷ sym y i ∷ [])
two_types (p ∷ q ∷ r ∷ types) a b l u x y = absurd (omega arith)

pub three_types : (types : List Bytes) (a b c : Bytes) → 3 ≤ length types → length types < 4 → a ≡ get_or types 0 a → b ≡ get_or types 1 b → c ≡ get_or types 2 c → types ≡ a ∷ b ∷ c ∷ []
three_types [] a b c l u x y z = absurd (omega arith)
three_types (p ∷ []) a b c l u x y z = absurd (omega arith)
three_types (p ∷ q ∷ []) a b c l u x y z = absurd (omega arith)
three_types (p ∷ q ∷ r ∷ []) a b c l u x y z = (λ i. sym x i ∷ sym y i ∷ sym z i ∷ [])
three_types (p ∷ q ∷ r ∷ s ∷ types) a b c l u x y z = absurd (omega arith)

-- the faults of the wanted number, by the parts of the text that is formatted
pub is_get_index : (pos : Position) (types : List Bytes) (a b x y text : Bytes) → types ≡ a ∷ b ∷ [] → x ≡ a → y ≡ b → text ≡ x ++ (codes " [" ++ (y ++ codes "]")) → ErrorIndexingType text pos ≡ get_index pos types
is_get_index pos types a b x y text are p q e = ap (λ (t : Bytes). ErrorIndexingType t pos) (e ∙ (λ i. p i ++ (codes " [" ++ (q i ++ codes "]"))) ∙ simp append_assoc) ∙ ap (get_index pos) (sym are)

pub is_set_index : (pos : Position) (types : List Bytes) (a b c x y z text : Bytes) → types ≡ a ∷ b ∷ c ∷ [] → x ≡ a → y ≡ b → z ≡ c → text ≡ x ++ (codes " [" ++ (y ++ (codes "] = " ++ z))) → ErrorIndexingType text pos ≡ set_index pos types
is_set_index pos types a b c x y z text are p q r e = ap (λ (t : Bytes). ErrorIndexingType t pos) (e ∙ (λ i. p i ++ (codes " [" ++ (q i ++ (codes "] = " ++ r i)))) ∙ simp append_assoc) ∙ ap (set_index pos) (sym are)

pub is_get_property : (pos : Position) (property : Bytes) (types : List Bytes) (a x text : Bytes) → types ≡ a ∷ [] → x ≡ a → text ≡ codes "Unknown property '" ++ (property ++ (codes "' - a getter is not registered for type '" ++ (x ++ codes "'")))
    → ErrorDotExpr text pos ≡ get_property pos property types
is_get_property pos property types a x text are p e =
    ap (λ (t : Bytes). ErrorDotExpr t pos) (e ∙ (λ i. codes "Unknown property '" ++ (property ++ (codes "' - a getter is not registered for type '" ++ (p i ++ codes "'")))) ∙ simp append_assoc) ∙ ap (get_property pos property) (sym are)

pub is_set_property : (pos : Position) (property : Bytes) (types : List Bytes) (a b x y text : Bytes) → types ≡ a ∷ b ∷ [] → x ≡ a → y ≡ b
    → text ≡ codes "No writable property '" ++ (property ++ (codes "' - a setter is not registered for type '" ++ (x ++ (codes "' to handle '" ++ (y ++ codes "'")))))
    → ErrorDotExpr text pos ≡ set_property pos property types
is_set_property pos property types a b x y text are p q e =
    ap (λ (t : Bytes). ErrorDotExpr t pos) (e ∙ (λ i. codes "No writable property '" ++ (property ++ (codes "' - a setter is not registered for type '" ++ (p i ++ (codes "' to handle '" ++ (q i ++ codes "'")))))) ∙ simp append_assoc)
    ∙ ap (set_property pos property) (sym are)

pub other_set_index : (pos : Position) (types : List Bytes) → (length types ≡ 3 → ⊥) → wrong_number pos types (codes "index setter") 3 ≡ set_index pos types
other_set_index pos [] n = refl
other_set_index pos (p ∷ []) n = refl
other_set_index pos (p ∷ q ∷ []) n = refl
other_set_index pos (p ∷ q ∷ r ∷ []) n = absurd (n refl)
other_set_index pos (p ∷ q ∷ r ∷ s ∷ types) n = refl

get_property_named : (pos : Position) (property : Bytes) (types : List Bytes) → (length types ≡ 1 → ⊥) → wrong_number pos types (codes "property getter '" ++ property ++ codes "'") 1 ≡ get_property pos property types
get_property_named pos property [] n = refl
get_property_named pos property (p ∷ []) n = absurd (n refl)
get_property_named pos property (p ∷ q ∷ types) n = refl

set_property_named : (pos : Position) (property : Bytes) (types : List Bytes) → (length types ≡ 2 → ⊥) → wrong_number pos types (codes "property setter '" ++ property ++ codes "'") 2 ≡ set_property pos property types
set_property_named pos property [] n = refl
set_property_named pos property (p ∷ []) n = refl
set_property_named pos property (p ∷ q ∷ []) n = absurd (n refl)
set_property_named pos property (p ∷ q ∷ r ∷ types) n = refl

pub other_get_property : (pos : Position) (property : Bytes) (types : List Bytes) (what : Bytes) → (length types ≡ 1 → ⊥) → what ≡ codes "property getter '" ++ (property ++ codes "'") → wrong_number pos types what 1 ≡ get_property pos property types
other_get_property pos property types what n e = ap (λ (t : Bytes). wrong_number pos types t 1) (e ∙ simp append_assoc) ∙ get_property_named pos property types n

pub other_set_property : (pos : Position) (property : Bytes) (types : List Bytes) (what : Bytes) → (length types ≡ 2 → ⊥) → what ≡ codes "property setter '" ++ (property ++ codes "'") → wrong_number pos types what 2 ≡ set_property pos property types
other_set_property pos property types what n e = ap (λ (t : Bytes). wrong_number pos types t 2) (e ∙ simp append_assoc) ∙ set_property_named pos property types n

-- what a prefix says of the test for it
pub begins : (prefix name rest : Bytes) → name ≡ prefix ++ rest → starts_with nat_eq name prefix ≡ true
begins prefix name rest e = (starts_is Decides-eqb name prefix _ refl).1 rest e

pub begins_not : (prefix name : Bytes) → ((rest : Bytes) → name ≡ prefix ++ rest → ⊥) → starts_with nat_eq name prefix ≡ false
begins_not prefix name lacks =
    let by : (starts_with nat_eq name prefix ≡ true) ⊎ (starts_with nat_eq name prefix ≡ false) → starts_with nat_eq name prefix ≡ false =
    elim [ inl e ↦ absurd (lacks (drop (length prefix) name) ((starts_is Decides-eqb name prefix _ refl).0 e)) | inr e ↦ e ]
    in by (cases_Bool (starts_with nat_eq name prefix))

-- the fault by the tests of the name
abbrev pub by_tests : EngineLists → Position → Bytes → List Tree → Bool → Bool → Bool → Bool → EvalAltResult
by_tests e pos name args i j g s =
    if i then get_index pos (map (display e) args)
    else if j then set_index pos (map (display e) args)
    else if g then get_property pos (drop 4 name) (map (display e) args)
    else if s then set_property pos (drop 4 name) (map (display e) args)
    else ErrorFunctionNotFound (signature e name args) pos

pub tested : (e : EngineLists) (pos : Position) (name : Bytes) (args : List Tree) (i j g s : Bool) → text_eq name (codes "index$get$") ≡ i → text_eq name (codes "index$set$") ≡ j → starts_with nat_eq name (codes "get$") ≡ g → starts_with nat_eq name (codes "set$") ≡ s
    → not_found e pos name args ≡ by_tests e pos name args i j g s
unfolding not_found
tested e pos name args i j g s a b c d = λ k. by_tests e pos name args (a k) (b k) (c k) (d k)

-- the fault of each row, at what the code has read of the call
module _ (e : EngineLists) (pos at : Position) (name named : Bytes) (types : List Bytes) (args : List Tree) where
  pub row_get_index : pos ≡ at → name ≡ named → types ≡ map (display e) args → true ≡ text_eq name (codes "index$get$") → get_index pos types ≡ not_found e at named args
  row_get_index p n t a = (λ k. get_index (p k) (t k)) ∙ sym (tested e at named args true _ _ _ (ap (λ (x : Bytes). text_eq x (codes "index$get$")) (sym n) ∙ sym a) refl refl refl)

  pub row_set_index : pos ≡ at → name ≡ named → types ≡ map (display e) args → false ≡ text_eq name (codes "index$get$") → true ≡ text_eq name (codes "index$set$") → set_index pos types ≡ not_found e at named args
  row_set_index p n t a b =
      (λ k. set_index (p k) (t k))
      ∙ sym (tested e at named args false true _ _ (ap (λ (x : Bytes). text_eq x (codes "index$get$")) (sym n) ∙ sym a) (ap (λ (x : Bytes). text_eq x (codes "index$set$")) (sym n) ∙ sym b) refl refl)

  pub row_get_property : (property : Bytes) → pos ≡ at → name ≡ named → types ≡ map (display e) args → false ≡ text_eq name (codes "index$get$") → false ≡ text_eq name (codes "index$set$") → StripsPrefix (FindsTextPrefix (codes "get$")) name property
      → get_property pos property types ≡ not_found e at named args
  row_get_property property p n t a b c =
      (λ k. get_property (p k) ((c.2 ∙ ap (λ (m : ℕ). drop m name) c.1.0 ∙ ap (drop 4) n) k) (t k))
      ∙ sym (tested e at named args false false true _ (ap (λ (x : Bytes). text_eq x (codes "index$get$")) (sym n) ∙ sym a) (ap (λ (x : Bytes). text_eq x (codes "index$set$")) (sym n) ∙ sym b) (begins (codes "get$") named _ (sym n ∙ c.1.1)) refl)

  pub row_set_property : (property : Bytes) → pos ≡ at → name ≡ named → types ≡ map (display e) args → false ≡ text_eq name (codes "index$get$") → false ≡ text_eq name (codes "index$set$") → ((rest : Bytes) → name ≡ codes "get$" ++ rest → ⊥) → StripsPrefix (FindsTextPrefix (codes "set$")) name property
      → set_property pos property types ≡ not_found e at named args
  row_set_property property p n t a b c d =
      (λ k. set_property (p k) ((d.2 ∙ ap (λ (m : ℕ). drop m name) d.1.0 ∙ ap (drop 4) n) k) (t k))
      ∙ sym (tested e at named args false false false true (ap (λ (x : Bytes). text_eq x (codes "index$get$")) (sym n) ∙ sym a) (ap (λ (x : Bytes). text_eq x (codes "index$set$")) (sym n) ∙ sym b) (begins_not (codes "get$") named (λ rest h. c rest (n ∙ h))) (begins (codes "set$") named _ (sym n ∙ d.1.1)))

pub row_other : (e : EngineLists) (pos at : Position) (name named : Bytes) (args : List Tree) (text : Bytes) → pos ≡ at → name ≡ named → text ≡ signature e named args → false ≡ text_eq name (codes "index$get$") → false ≡ text_eq name (codes "index$set$") → ((rest : Bytes) → name ≡ codes "get$" ++ rest → ⊥) → ((rest : Bytes) → name ≡ codes "set$" ++ rest → ⊥)
    → ErrorFunctionNotFound text pos ≡ not_found e at named args
row_other e pos at name named args text p n t a b c d =
    (λ k. ErrorFunctionNotFound (t k) (p k))
    ∙ sym (tested e at named args false false false false (ap (λ (x : Bytes). text_eq x (codes "index$get$")) (sym n) ∙ sym a) (ap (λ (x : Bytes). text_eq x (codes "index$set$")) (sym n) ∙ sym b) (begins_not (codes "get$") named (λ rest h. c rest (n ∙ h))) (begins_not (codes "set$") named (λ rest h. d rest (n ∙ h))))
