-- The number of the fault of a call that isn't found, by its name and the number of its arguments.
use Rattle.std.proofs.Common.{◌≡◌, ◌≤◌, ℕ, Bool, true, false, List, [], ◌∷◌, length, get_or, drop, refl, sym, ap, subst, ◌∙◌, ◌⊎◌, inl, inr, arith}
use Rattle.std.specs.Prelude.{◌↔◌, codes, ◌++◌, map, nat_eq}
use Rattle.std.specs.List.{starts_with}
use Rattle.std.proofs.lemmas.List.{length-map}
use Rattle.std.proofs.lemmas.Slice.Eq.{starts_is, bytes_eq-Decides}
use Rattle.std.proofs.lemmas.Bool.Decides.{Decides-eqb}
use Rattle.rhd_value.specs.Tree.{Bytes, Tree}
use Rattle.rhd_value.specs.Same.{text_eq}
use Rattle.rhd_value.specs.declared.tag.Position.{Position}
use Rattle.rhd_value.specs.declared.fault.EvalAltResult.{EvalAltResult}
use Rattle.rhd_func.specs.Shapes.{all_args}
use Rattle.rhd_engine.specs.Engine.{EngineLists}
use Rattle.rhd_engine.specs.Display.{display}
use Rattle.rhd_engine.specs.NotFound.{get_index, set_index, get_property, set_property, not_found, not_found_in}
use Rattle.rhd_machine.specs.Plans.{Plan, Search, by_name, in_module}
use Rattle.rhd_machine.specs.Ends.{missing_fault}
use Rattle.rhd_laws.specs.Unfound.{fault_number, IsProperty, is_getter, is_setter, IsIndexer, is_index_getter, is_index_setter, IsAccess}
use Rattle.rhd_engine.proofs.Unfound.{by_tests, tested}

-- the numbers of each form: with the wanted number of arguments, or with another
abbrev IsOfForm : ℕ → ℕ → ℕ → ℕ → Type 0
IsOfForm n wanted good k = ((n ≡ wanted) × (k ≡ good)) ⊎ ((n ≡ wanted → ⊥) × (k ≡ 4))

get_index_form : (pos : Position) (types : List Bytes) → IsOfForm (length types) 2 3 (fault_number (get_index pos types))
get_index_form pos [] = inr (λ h. absurd (omega (arith, h)), refl)
get_index_form pos (a ∷ []) = inr (λ h. absurd (omega (arith, h)), refl)
get_index_form pos (a ∷ b ∷ []) = inl (refl, refl)
get_index_form pos (a ∷ b ∷ c ∷ types) = inr (λ h. absurd (omega (arith, h)), refl)

set_index_form : (pos : Position) (types : List Bytes) → IsOfForm (length types) 3 3 (fault_number (set_index pos types))
set_index_form pos [] = inr (λ h. absurd (omega (arith, h)), refl)
set_index_form pos (a ∷ []) = inr (λ h. absurd (omega (arith, h)), refl)
set_index_form pos (a ∷ b ∷ []) = inr (λ h. absurd (omega (arith, h)), refl)
set_index_form pos (a ∷ b ∷ c ∷ []) = inl (refl, refl)
set_index_form pos (a ∷ b ∷ c ∷ d ∷ types) = inr (λ h. absurd (omega (arith, h)), refl)

get_property_form : (pos : Position) (p : Bytes) (types : List Bytes) → IsOfForm (length types) 1 2 (fault_number (get_property pos p types))
get_property_form pos p [] = inr (λ h. absurd (omega (arith, h)), refl)
get_property_form pos p (a ∷ []) = inl (refl, refl)
get_property_form pos p (a ∷ b ∷ types) = inr (λ h. absurd (omega (arith, h)), refl)

set_property_form : (pos : Position) (p : Bytes) (types : List Bytes) → IsOfForm (length types) 2 2 (fault_number (set_property pos p types))
set_property_form pos p [] = inr (λ h. absurd (omega (arith, h)), refl)
set_property_form pos p (a ∷ []) = inr (λ h. absurd (omega (arith, h)), refl)
set_property_form pos p (a ∷ b ∷ []) = inl (refl, refl)
set_property_form pos p (a ∷ b ∷ c ∷ types) = inr (λ h. absurd (omega (arith, h)), refl)

-- the number k of the fault, by the name and the number of arguments
data Row (name : Bytes) (n k : ℕ) : Type 0 where
  by_property : IsProperty name n → k ≡ 2 → Row name n k
  by_indexer : IsIndexer name n → k ≡ 3 → Row name n k
  by_number : (m : ℕ) → IsAccess name m → (n ≡ m → ⊥) → k ≡ 4 → Row name n k
  by_other : ((m : ℕ) → IsAccess name m → ⊥) → k ≡ 1 → Row name n k

property_row : (name : Bytes) (n m k : ℕ) → ((i : ℕ) → i ≡ m → IsProperty name i) → IsOfForm n m 2 k → Row name n k
property_row name n m k is (inl h) = by_property (is n h.0) h.1
property_row name n m k is (inr h) = by_number m (inl (is m refl)) h.0 h.1

indexer_row : (name : Bytes) (n m k : ℕ) → ((i : ℕ) → i ≡ m → IsIndexer name i) → IsOfForm n m 3 k → Row name n k
indexer_row name n m k is (inl h) = by_indexer (is n h.0) h.1
indexer_row name n m k is (inr h) = by_number m (inr (is m refl)) h.0 h.1

-- what the tests of a name say
same_name : (name other : Bytes) → text_eq name other ≡ true → name ≡ other
same_name name other h = (bytes_eq-Decides name other).0 h

other_name : (name other : Bytes) → text_eq name other ≡ false → name ≡ other → ⊥
other_name name other h e = let q : false ≡ true = sym h ∙ (bytes_eq-Decides name other).1 e in absurd cc

has_prefix : (name prefix : Bytes) → starts_with nat_eq name prefix ≡ true → name ≡ prefix ++ drop (length prefix) name
has_prefix name prefix h = (starts_is Decides-eqb name prefix _ refl).0 h

has_no_prefix : (name prefix rest : Bytes) → starts_with nat_eq name prefix ≡ false → name ≡ prefix ++ rest → ⊥
has_no_prefix name prefix rest h e = let q : false ≡ true = sym h ∙ (starts_is Decides-eqb name prefix _ refl).1 rest e in absurd cc

no_access : (name : Bytes) → text_eq name (codes "index$get$") ≡ false → text_eq name (codes "index$set$") ≡ false → starts_with nat_eq name (codes "get$") ≡ false
    → starts_with nat_eq name (codes "set$") ≡ false → (m : ℕ) → IsAccess name m → ⊥
no_access name i j g s m (inl (is_getter p e n)) = has_no_prefix name (codes "get$") p g e
no_access name i j g s m (inl (is_setter p e n)) = has_no_prefix name (codes "set$") p s e
no_access name i j g s m (inr (is_index_getter e n)) = other_name name (codes "index$get$") i e
no_access name i j g s m (inr (is_index_setter e n)) = other_name name (codes "index$set$") j e

row_by : (e : EngineLists) (pos : Position) (name : Bytes) (args : List Tree) (i j g s : Bool) → text_eq name (codes "index$get$") ≡ i → text_eq name (codes "index$set$") ≡ j
    → starts_with nat_eq name (codes "get$") ≡ g → starts_with nat_eq name (codes "set$") ≡ s
    → Row name (length (map (display e) args)) (fault_number (by_tests e pos name args i j g s))
row_by e pos name args true j g s a b c d = indexer_row name _ 2 _ (λ i h. is_index_getter (same_name name (codes "index$get$") a) h) (get_index_form pos (map (display e) args))
row_by e pos name args false true g s a b c d = indexer_row name _ 3 _ (λ i h. is_index_setter (same_name name (codes "index$set$") b) h) (set_index_form pos (map (display e) args))
row_by e pos name args false false true s a b c d = property_row name _ 1 _ (λ i h. is_getter (drop 4 name) (has_prefix name (codes "get$") c) h) (get_property_form pos (drop 4 name) (map (display e) args))
row_by e pos name args false false false true a b c d = property_row name _ 2 _ (λ i h. is_setter (drop 4 name) (has_prefix name (codes "set$") d) h) (set_property_form pos (drop 4 name) (map (display e) args))
row_by e pos name args false false false false a b c d = by_other (no_access name a b c d) refl

row_of : (e : EngineLists) (pos : Position) (name : Bytes) (args : List Tree) → Row name (length args) (fault_number (not_found e pos name args))
row_of e pos name args =
    let tests = tested e pos name args _ _ _ _ refl refl refl refl in
    subst (λ (n : ℕ). Row name n (fault_number (not_found e pos name args))) (length-map args (display e))
    (subst (λ (x : EvalAltResult). Row name (length (map (display e) args)) (fault_number x)) (sym tests) (row_by e pos name args _ _ _ _ refl refl refl refl))

-- no name is of two forms
apart : (k : ℕ) (name xs ys : Bytes) → name ≡ xs → name ≡ ys → (get_or xs k 0 ≡ get_or ys k 0 → ⊥) → ⊥
apart k name xs ys a b n = n (ap (λ (l : Bytes). get_or l k 0) (sym a ∙ b))

property_once : (name : Bytes) (m n : ℕ) → IsProperty name m → IsProperty name n → m ≡ n
property_once name m n (is_getter p a x) (is_getter q b y) = x ∙ sym y
property_once name m n (is_getter p a x) (is_setter q b y) = absurd (apart 0 name _ _ a b (λ h. absurd (omega (arith, h))))
property_once name m n (is_setter p a x) (is_getter q b y) = absurd (apart 0 name _ _ a b (λ h. absurd (omega (arith, h))))
property_once name m n (is_setter p a x) (is_setter q b y) = x ∙ sym y

indexer_once : (name : Bytes) (m n : ℕ) → IsIndexer name m → IsIndexer name n → m ≡ n
indexer_once name m n (is_index_getter a x) (is_index_getter b y) = x ∙ sym y
indexer_once name m n (is_index_getter a x) (is_index_setter b y) = absurd (apart 6 name _ _ a b (λ h. absurd (omega (arith, h))))
indexer_once name m n (is_index_setter a x) (is_index_getter b y) = absurd (apart 6 name _ _ a b (λ h. absurd (omega (arith, h))))
indexer_once name m n (is_index_setter a x) (is_index_setter b y) = x ∙ sym y

not_both : (name : Bytes) (m n : ℕ) → IsProperty name m → IsIndexer name n → ⊥
not_both name m n (is_getter p a x) (is_index_getter b y) = apart 0 name _ _ a b (λ h. absurd (omega (arith, h)))
not_both name m n (is_getter p a x) (is_index_setter b y) = apart 0 name _ _ a b (λ h. absurd (omega (arith, h)))
not_both name m n (is_setter p a x) (is_index_getter b y) = apart 0 name _ _ a b (λ h. absurd (omega (arith, h)))
not_both name m n (is_setter p a x) (is_index_setter b y) = apart 0 name _ _ a b (λ h. absurd (omega (arith, h)))

access_once : (name : Bytes) (m n : ℕ) → IsAccess name m → IsAccess name n → m ≡ n
access_once name m n (inl p) (inl q) = property_once name m n p q
access_once name m n (inl p) (inr q) = absurd (not_both name m n p q)
access_once name m n (inr p) (inl q) = absurd (not_both name n m q p)
access_once name m n (inr p) (inr q) = indexer_once name m n p q

-- each number exactly for its rows
only_property : (name : Bytes) (n k : ℕ) → Row name n k → k ≡ 2 → IsProperty name n
only_property name n k (by_property p e) h = p
only_property name n k (by_indexer p e) h = absurd (omega (arith, e, h))
only_property name n k (by_number m a d e) h = absurd (omega (arith, e, h))
only_property name n k (by_other none e) h = absurd (omega (arith, e, h))

property_is : (name : Bytes) (n k : ℕ) → Row name n k → IsProperty name n → k ≡ 2
property_is name n k (by_property p e) h = e
property_is name n k (by_indexer p e) h = absurd (not_both name n n h p)
property_is name n k (by_number m a d e) h = absurd (d (access_once name n m (inl h) a))
property_is name n k (by_other none e) h = absurd (none n (inl h))

only_indexer : (name : Bytes) (n k : ℕ) → Row name n k → k ≡ 3 → IsIndexer name n
only_indexer name n k (by_property p e) h = absurd (omega (arith, e, h))
only_indexer name n k (by_indexer p e) h = p
only_indexer name n k (by_number m a d e) h = absurd (omega (arith, e, h))
only_indexer name n k (by_other none e) h = absurd (omega (arith, e, h))

indexer_is : (name : Bytes) (n k : ℕ) → Row name n k → IsIndexer name n → k ≡ 3
indexer_is name n k (by_property p e) h = absurd (not_both name n n p h)
indexer_is name n k (by_indexer p e) h = e
indexer_is name n k (by_number m a d e) h = absurd (d (access_once name n m (inr h) a))
indexer_is name n k (by_other none e) h = absurd (none n (inr h))

only_number : (name : Bytes) (n k : ℕ) → Row name n k → k ≡ 4 → (m : ℕ) × IsAccess name m × (n ≡ m → ⊥)
only_number name n k (by_property p e) h = absurd (omega (arith, e, h))
only_number name n k (by_indexer p e) h = absurd (omega (arith, e, h))
only_number name n k (by_number m a d e) h = (m, a, d)
only_number name n k (by_other none e) h = absurd (omega (arith, e, h))

number_is : (name : Bytes) (n k : ℕ) → Row name n k → (m : ℕ) × IsAccess name m × (n ≡ m → ⊥) → k ≡ 4
number_is name n k (by_property p e) h = absurd (h.2 (access_once name n h.0 (inl p) h.1))
number_is name n k (by_indexer p e) h = absurd (h.2 (access_once name n h.0 (inr p) h.1))
number_is name n k (by_number m a d e) h = e
number_is name n k (by_other none e) h = absurd (none h.0 h.1)

only_other : (name : Bytes) (n k : ℕ) → Row name n k → k ≡ 1 → (m : ℕ) → IsAccess name m → ⊥
only_other name n k (by_property p e) h = absurd (omega (arith, e, h))
only_other name n k (by_indexer p e) h = absurd (omega (arith, e, h))
only_other name n k (by_number m a d e) h = absurd (omega (arith, e, h))
only_other name n k (by_other none e) h = none

other_is : (name : Bytes) (n k : ℕ) → Row name n k → ((m : ℕ) → IsAccess name m → ⊥) → k ≡ 1
other_is name n k (by_property p e) h = absurd (h n (inl p))
other_is name n k (by_indexer p e) h = absurd (h n (inr p))
other_is name n k (by_number m a d e) h = absurd (h m a)
other_is name n k (by_other none e) h = e

pub property_exactly : (e : EngineLists) (pos : Position) (name : Bytes) (args : List Tree) → (fault_number (not_found e pos name args) ≡ 2) ↔ IsProperty name (length args)
property_exactly e pos name args = (only_property name _ _ (row_of e pos name args), property_is name _ _ (row_of e pos name args))

pub indexer_exactly : (e : EngineLists) (pos : Position) (name : Bytes) (args : List Tree) → (fault_number (not_found e pos name args) ≡ 3) ↔ IsIndexer name (length args)
indexer_exactly e pos name args = (only_indexer name _ _ (row_of e pos name args), indexer_is name _ _ (row_of e pos name args))

pub number_exactly : (e : EngineLists) (pos : Position) (name : Bytes) (args : List Tree) → (fault_number (not_found e pos name args) ≡ 4) ↔ ((n : ℕ) × IsAccess name n × (length args ≡ n → ⊥))
number_exactly e pos name args = (only_number name _ _ (row_of e pos name args), number_is name _ _ (row_of e pos name args))

pub other_exactly : (e : EngineLists) (pos : Position) (name : Bytes) (args : List Tree) → (fault_number (not_found e pos name args) ≡ 1) ↔ ((n : ℕ) → IsAccess name n → ⊥)
other_exactly e pos name args = (only_other name _ _ (row_of e pos name args), other_is name _ _ (row_of e pos name args))

-- that of a qualified call is always 1
pub qualified_exactly : (e : EngineLists) (path : List Bytes) (pos : Position) (name : Bytes) (args : List Tree) → fault_number (not_found_in e path pos name args) ≡ 1
unfolding not_found_in
qualified_exactly e path pos name args = refl

-- it is one of the first four
positive : (name : Bytes) (n k : ℕ) → Row name n k → 1 ≤ k
positive name n k (by_property p e) = omega arith
positive name n k (by_indexer p e) = omega arith
positive name n k (by_number m a d e) = omega arith
positive name n k (by_other none e) = omega arith

pub missing_positive : (e : EngineLists) (plan : Plan) (search : Search) → 1 ≤ fault_number (missing_fault e plan search)
unfolding not_found_in
missing_positive e plan (by_name token native_only) = positive plan.name _ _ (row_of e plan.pos plan.name (all_args plan.shape))
missing_positive e plan (in_module path) = omega arith

small : (name : Bytes) (n k : ℕ) → Row name n k → k ≤ 4
small name n k (by_property p e) = omega arith
small name n k (by_indexer p e) = omega arith
small name n k (by_number m a d e) = omega arith
small name n k (by_other none e) = omega arith

pub missing_number : (e : EngineLists) (plan : Plan) (search : Search) → fault_number (missing_fault e plan search) ≤ 4
unfolding not_found_in
missing_number e plan (by_name token native_only) = small plan.name _ _ (row_of e plan.pos plan.name (all_args plan.shape))
missing_number e plan (in_module path) = omega arith
