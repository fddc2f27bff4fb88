-- The patterns of some kinds are the types that match them, the more exact first.
use Rattle.std.proofs.Common.{◌≡◌, ◌≢◌, ℕ, ◌<◌, Bool, true, false, List, [], ◌∷◌, ◌++◌, length, map, take, refl, sym, ap, subst, ◌∙◌, ◌⊎◌, inl, inr, arith}
use Rattle.std.specs.Prelude.{zero, suc, slice_get, Option, Some, None}
use Rattle.std.specs.List.{Contains}
use Rattle.std.specs.Option.{option_or}
use Rattle.std.proofs.lemmas.List.Elements.{Contains-append_left, Contains-append_right, Contains-append_cases}
use Rattle.rhd_value.specs.Firsts.{first_of}
use Rattle.rhd_value.specs.Same.{tag_eq, tag_eq-Decides}
use Rattle.rhd_value.specs.declared.tag.TypeTag.{TypeTag}
use Rattle.rhd_value.specs.declared.tag.TypeTag.TheVariants.{Dynamic}
use Rattle.rhd_dispatch.specs.Patterns.{patterns_to}
use Rattle.rhd_laws.specs.Matches.{Takes, its_kind, any_kind, TypesMatch, IsMoreExact}

-- place by place, where n types may be `Dynamic`
abbrev pub MatchTo : ℕ → List TypeTag → List TypeTag → Type 0
MatchTo n [] [] = Unit {0}
MatchTo n [] (k ∷ ks) = ⊥
MatchTo n (t ∷ ts) [] = ⊥
MatchTo zero (t ∷ ts) (k ∷ ks) = (t ≡ k) × MatchTo zero ts ks
MatchTo (suc n) (t ∷ ts) (k ∷ ks) = ((t ≡ k) ⊎ (t ≡ Dynamic)) × MatchTo n ts ks

abbrev pub Before : List TypeTag → List TypeTag → List TypeTag → Type 0
Before [] types others = ⊥
Before (k ∷ ks) [] others = ⊥
Before (k ∷ ks) (t ∷ ts) [] = ⊥
Before (k ∷ ks) (t ∷ ts) (o ∷ rest) = ((t ≡ k) × (o ≢ k)) ⊎ ((t ≡ o) × Before ks ts rest)

exact_types : (types kinds : List TypeTag) → MatchTo 0 types kinds → types ≡ kinds
exact_types [] [] m = refl
exact_types [] (k ∷ ks) m = absurd m
exact_types (t ∷ ts) [] m = absurd m
exact_types (t ∷ ts) (k ∷ ks) m = let r = exact_types ts ks m.1 in (λ i. m.0 i ∷ r i)

exactly : (kinds : List TypeTag) → MatchTo 0 kinds kinds
exactly [] = tt
exactly (k ∷ ks) = (refl, exactly ks)

-- Lists of questions.

pub or_cases : {A : Type 0} (a b : Option A) (y : A) → option_or a b ≡ Some y → (a ≡ Some y) ⊎ ((a ≡ None) × (b ≡ Some y))
or_cases None b y h = inr (refl, h)
or_cases (Some x) b y h = inl h

pub or_parts : {A : Type 0} (a b : Option A) → option_or a b ≡ None → (a ≡ None) × (b ≡ None)
or_parts None b h = (refl, h)
or_parts (Some x) b h = absurd cc

pub or_nones : {A : Type 0} (a b : Option A) → a ≡ None → b ≡ None → option_or a b ≡ None
or_nones a b p q = (λ i. option_or (p i) (q i))

pub or_none : {A : Type 0} (o : Option A) → option_or o None ≡ o
or_none None = refl
or_none (Some a) = refl

of_append : {A B : Type 0} (f : A → Option B) (xs ys : List A) → first_of f (xs ++ ys) ≡ option_or (first_of f xs) (first_of f ys)
of_append f [] ys = refl
of_append {B = B} f (x ∷ xs) ys =
    let by : (o : Option B) → option_or o (first_of f (xs ++ ys)) ≡ option_or (option_or o (first_of f xs)) (first_of f ys) = elim [ None ↦ of_append f xs ys | Some y ↦ refl ]
    in by (f x)

of_map : {A B C : Type 0} (f : B → Option C) (g : A → B) (xs : List A) → first_of f (map g xs) ≡ first_of (λ x. f (g x)) xs
of_map f g [] = refl
of_map f g (x ∷ xs) = ap (option_or (f (g x))) (of_map f g xs)

-- one place: its kind, and then `Dynamic`
one_place : {P : Type 0} (look : List TypeTag → Option P) (n : ℕ) (k : TypeTag) (ks : List TypeTag)
    → first_of look (patterns_to (suc n) (k ∷ ks)) ≡ option_or (first_of (λ ts. look (k ∷ ts)) (patterns_to n ks)) (first_of (λ ts. look (Dynamic ∷ ts)) (patterns_to n ks))
unfolding patterns_to
one_place look n k ks =
    of_append look (map (λ p. k ∷ p) (patterns_to n ks)) (map (λ p. Dynamic ∷ p) (patterns_to n ks))
    ∙ (λ i. option_or (of_map look (λ p. k ∷ p) (patterns_to n ks) i) (of_map look (λ p. Dynamic ∷ p) (patterns_to n ks) i))

no_place : {P : Type 0} (look : List TypeTag → Option P) (n : ℕ) → first_of look (patterns_to n []) ≡ look []
unfolding patterns_to
no_place look n = or_none (look [])

last_place : {P : Type 0} (look : List TypeTag → Option P) (k : TypeTag) (ks : List TypeTag) → first_of look (patterns_to zero (k ∷ ks)) ≡ look (k ∷ ks)
unfolding patterns_to
last_place look k ks = or_none (look (k ∷ ks))

-- where no pattern is found, none of the types that match is
pub none_matching : {P : Type 0} (look : List TypeTag → Option P) (n : ℕ) (kinds types : List TypeTag) → first_of look (patterns_to n kinds) ≡ None → MatchTo n types kinds → look types ≡ None
none_matching look n [] [] h m = sym (no_place look n) ∙ h
none_matching look n [] (t ∷ ts) h m = absurd m
none_matching look n (k ∷ ks) [] h m = absurd m
none_matching look zero (k ∷ ks) (t ∷ ts) h m = ap look (exact_types (t ∷ ts) (k ∷ ks) m) ∙ sym (last_place look k ks) ∙ h
none_matching look (suc n) (k ∷ ks) (t ∷ ts) h (inl same, m) =
    let r = or_parts (first_of (λ xs. look (k ∷ xs)) (patterns_to n ks)) (first_of (λ xs. look (Dynamic ∷ xs)) (patterns_to n ks)) (sym (one_place look n k ks) ∙ h) in
    ap (λ x. look (x ∷ ts)) same ∙ none_matching (λ xs. look (k ∷ xs)) n ks ts r.0 m
none_matching look (suc n) (k ∷ ks) (t ∷ ts) h (inr any, m) =
    let r = or_parts (first_of (λ xs. look (k ∷ xs)) (patterns_to n ks)) (first_of (λ xs. look (Dynamic ∷ xs)) (patterns_to n ks)) (sym (one_place look n k ks) ∙ h) in
    ap (λ x. look (x ∷ ts)) any ∙ none_matching (λ xs. look (Dynamic ∷ xs)) n ks ts r.1 m

pub matching_none : {P : Type 0} (look : List TypeTag → Option P) (n : ℕ) (kinds : List TypeTag) → ((types : List TypeTag) → MatchTo n types kinds → look types ≡ None) → first_of look (patterns_to n kinds) ≡ None
matching_none look n [] h = no_place look n ∙ h [] tt
matching_none look zero (k ∷ ks) h = last_place look k ks ∙ h (k ∷ ks) (exactly (k ∷ ks))
matching_none look (suc n) (k ∷ ks) h =
    one_place look n k ks ∙ or_nones (first_of (λ xs. look (k ∷ xs)) (patterns_to n ks)) (first_of (λ xs. look (Dynamic ∷ xs)) (patterns_to n ks))
    (matching_none (λ xs. look (k ∷ xs)) n ks (λ ts m. h (k ∷ ts) (inl refl, m)))
    (matching_none (λ xs. look (Dynamic ∷ xs)) n ks (λ ts m. h (Dynamic ∷ ts) (inr refl, m)))

-- the first pattern that is found matches, and no more exact types that match are found
pub data FirstOf {P : Type 0} (look : List TypeTag → Option P) (n : ℕ) (kinds : List TypeTag) (y : P) : Type 0 where
  first_types : (types : List TypeTag) → MatchTo n types kinds → look types ≡ Some y → ((others : List TypeTag) → MatchTo n others kinds → Before kinds others types → look others ≡ None) → FirstOf look n kinds y

pub not_before_itself : (types kinds : List TypeTag) → Before kinds types kinds → ⊥
not_before_itself types [] b = b
not_before_itself [] (k ∷ ks) b = b
not_before_itself (t ∷ ts) (k ∷ ks) (inl h) = h.1 refl
not_before_itself (t ∷ ts) (k ∷ ks) (inr h) = not_before_itself ts ks h.1

before_kept : {P : Type 0} (look : List TypeTag → Option P) (n : ℕ) (k : TypeTag) (ks types : List TypeTag) → ((others : List TypeTag) → MatchTo n others ks → Before ks others types → look (k ∷ others) ≡ None)
    → (others : List TypeTag) → MatchTo (suc n) others (k ∷ ks) → Before (k ∷ ks) others (k ∷ types) → look others ≡ None
before_kept look n k ks types h [] m b = absurd m
before_kept look n k ks types h (o ∷ rest) m (inl b) = absurd (b.1 refl)
before_kept look n k ks types h (o ∷ rest) m (inr b) = ap (λ x. look (x ∷ rest)) b.0 ∙ h rest m.1 b.1

before_any : {P : Type 0} (look : List TypeTag → Option P) (n : ℕ) (k : TypeTag) (ks types : List TypeTag) → first_of (λ xs. look (k ∷ xs)) (patterns_to n ks) ≡ None
    → ((others : List TypeTag) → MatchTo n others ks → Before ks others types → look (Dynamic ∷ others) ≡ None)
    → (others : List TypeTag) → MatchTo (suc n) others (k ∷ ks) → Before (k ∷ ks) others (Dynamic ∷ types) → look others ≡ None
before_any look n k ks types none h [] m b = absurd m
before_any look n k ks types none h (o ∷ rest) m (inl b) = ap (λ x. look (x ∷ rest)) b.0 ∙ none_matching (λ xs. look (k ∷ xs)) n ks rest none m.1
before_any look n k ks types none h (o ∷ rest) m (inr b) = ap (λ x. look (x ∷ rest)) b.0 ∙ h rest m.1 b.1

pub first_pattern : {P : Type 0} (look : List TypeTag → Option P) (n : ℕ) (kinds : List TypeTag) (y : P) → first_of look (patterns_to n kinds) ≡ Some y → FirstOf look n kinds y
first_pattern look n [] y h = first_types [] tt (sym (no_place look n) ∙ h) (λ others m b. absurd b)
first_pattern look zero (k ∷ ks) y h = first_types (k ∷ ks) (exactly (k ∷ ks)) (sym (last_place look k ks) ∙ h) (λ others m b. absurd (not_before_itself others (k ∷ ks) b))
first_pattern look (suc n) (k ∷ ks) y h =
    let kept : FirstOf (λ xs. look (k ∷ xs)) n ks y → FirstOf look (suc n) (k ∷ ks) y = elim [ first_types types m is first ↦ first_types (k ∷ types) (inl refl, m) is (before_kept look n k ks types first) ] in
    let any : first_of (λ xs. look (k ∷ xs)) (patterns_to n ks) ≡ None → FirstOf (λ xs. look (Dynamic ∷ xs)) n ks y → FirstOf look (suc n) (k ∷ ks) y = λ none. elim [ first_types types m is first ↦ first_types (Dynamic ∷ types) (inr refl, m) is (before_any look n k ks types none first) ] in
    let by : (first_of (λ xs. look (k ∷ xs)) (patterns_to n ks) ≡ Some y) ⊎ ((first_of (λ xs. look (k ∷ xs)) (patterns_to n ks) ≡ None) × (first_of (λ xs. look (Dynamic ∷ xs)) (patterns_to n ks) ≡ Some y)) → FirstOf look (suc n) (k ∷ ks) y =
    elim [ inl e ↦ kept (first_pattern (λ xs. look (k ∷ xs)) n ks y e) | inr e ↦ any e.0 (first_pattern (λ xs. look (Dynamic ∷ xs)) n ks y e.1) ]
    in by (or_cases (first_of (λ xs. look (k ∷ xs)) (patterns_to n ks)) (first_of (λ xs. look (Dynamic ∷ xs)) (patterns_to n ks)) y (sym (one_place look n k ks) ∙ h))

-- The same of places.

-- each type is its kind, or `Dynamic` at one of the first n places
abbrev pub EachTo : ℕ → List TypeTag → List TypeTag → Type 0
EachTo n types kinds = (place : ℕ) (t k : TypeTag) → slice_get types place ≡ Some t → slice_get kinds place ≡ Some k → (t ≡ k) ⊎ ((place < n) × (t ≡ Dynamic))

lower : (n place : ℕ) (t k : TypeTag) → (t ≡ k) ⊎ ((suc place < suc n) × (t ≡ Dynamic)) → (t ≡ k) ⊎ ((place < n) × (t ≡ Dynamic))
lower n place t k (inl e) = inl e
lower n place t k (inr e) = inr (omega (arith, e.0), e.1)

none_left : (place : ℕ) (t k : TypeTag) → (t ≡ k) ⊎ ((place < 0) × (t ≡ Dynamic)) → t ≡ k
none_left place t k (inl e) = e
none_left place t k (inr e) = absurd (omega (arith, e.0))

at_head : (n : ℕ) (t k : TypeTag) → (t ≡ k) ⊎ ((0 < n) × (t ≡ Dynamic)) → (t ≡ k) ⊎ (t ≡ Dynamic)
at_head n t k (inl e) = inl e
at_head n t k (inr e) = inr e.1

pub places_match : (n : ℕ) (types kinds : List TypeTag) → length types ≡ length kinds → EachTo n types kinds → MatchTo n types kinds
places_match n [] [] same h = tt
places_match n [] (k ∷ ks) same h = absurd (omega (arith, same))
places_match n (t ∷ ts) [] same h = absurd (omega (arith, same))
places_match zero (t ∷ ts) (k ∷ ks) same h = (none_left 0 t k (h 0 t k refl refl), places_match zero ts ks (omega (arith, same)) (λ place a b p q. inl (none_left (suc place) a b (h (suc place) a b p q))))
places_match (suc n) (t ∷ ts) (k ∷ ks) same h = (at_head (suc n) t k (h 0 t k refl refl), places_match n ts ks (omega (arith, same)) (λ place a b p q. lower n place a b (h (suc place) a b p q)))

pub as_long : (n : ℕ) (types kinds : List TypeTag) → MatchTo n types kinds → length types ≡ length kinds
as_long n [] [] m = refl
as_long n [] (k ∷ ks) m = absurd m
as_long n (t ∷ ts) [] m = absurd m
as_long zero (t ∷ ts) (k ∷ ks) m = ap suc (as_long zero ts ks m.1)
as_long (suc n) (t ∷ ts) (k ∷ ks) m = ap suc (as_long n ts ks m.1)

get_head : (t a : TypeTag) → ◌≡◌ {A = Option TypeTag} (Some t) (Some a) → t ≡ a
get_head t a e = cc

head_to : (n : ℕ) (t k a b : TypeTag) → (t ≡ k) ⊎ (t ≡ Dynamic) → t ≡ a → k ≡ b → (a ≡ b) ⊎ ((0 < suc n) × (a ≡ Dynamic))
head_to n t k a b (inl e) p q = inl (sym p ∙ e ∙ q)
head_to n t k a b (inr e) p q = inr (omega arith, sym p ∙ e)

higher : (n place : ℕ) (t k : TypeTag) → (t ≡ k) ⊎ ((place < n) × (t ≡ Dynamic)) → (t ≡ k) ⊎ ((suc place < suc n) × (t ≡ Dynamic))
higher n place t k (inl e) = inl e
higher n place t k (inr e) = inr (omega (arith, e.0), e.1)

not_past : (n place : ℕ) (t k : TypeTag) → (t ≡ k) ⊎ ((place < 0) × (t ≡ Dynamic)) → (t ≡ k) ⊎ ((n < 0) × (t ≡ Dynamic))
not_past n place t k e = inl (none_left place t k e)

pub match_places : (n : ℕ) (types kinds : List TypeTag) → MatchTo n types kinds → EachTo n types kinds
match_places n [] [] m place a b p q = absurd cc
match_places n [] (k ∷ ks) m place a b p q = absurd m
match_places n (t ∷ ts) [] m place a b p q = absurd m
match_places zero (t ∷ ts) (k ∷ ks) m zero a b p q = inl (sym (get_head t a p) ∙ m.0 ∙ get_head k b q)
match_places zero (t ∷ ts) (k ∷ ks) m (suc place) a b p q = not_past (suc place) place a b (match_places zero ts ks m.1 place a b p q)
match_places (suc n) (t ∷ ts) (k ∷ ks) m zero a b p q = head_to n t k a b m.0 (get_head t a p) (get_head k b q)
match_places (suc n) (t ∷ ts) (k ∷ ks) m (suc place) a b p q = higher n place a b (match_places n ts ks m.1 place a b p q)

takes_is : (place : ℕ) (t k : TypeTag) → Takes place t k → (t ≡ k) ⊎ ((place < 16) × (t ≡ Dynamic))
takes_is place t k (its_kind e) = inl e
takes_is place t k (any_kind small e) = inr (small, e)

is_takes : (place : ℕ) (t k : TypeTag) → (t ≡ k) ⊎ ((place < 16) × (t ≡ Dynamic)) → Takes place t k
is_takes place t k (inl e) = its_kind e
is_takes place t k (inr e) = any_kind e.0 e.1

pub match_to : (types kinds : List TypeTag) → TypesMatch types kinds → MatchTo 16 types kinds
match_to types kinds r = places_match 16 types kinds r.as_many (λ place t k p q. takes_is place t k (r.each place t k p q))

pub types_match : (types kinds : List TypeTag) → MatchTo 16 types kinds → TypesMatch types kinds
types_match types kinds m = record { as_many = as_long 16 types kinds m; each = λ place t k p q. is_takes place t k (match_places 16 types kinds m place t k p q) }

-- the order of two

before_at : (kinds types others : List TypeTag) (place : ℕ) → length types ≡ length kinds → length others ≡ length kinds → take place types ≡ take place others
    → slice_get types place ≡ slice_get kinds place → slice_get others place ≢ slice_get kinds place → Before kinds types others
before_at [] [] [] place a b alike exact apart = absurd (apart refl)
before_at [] [] (o ∷ rest) place a b alike exact apart = absurd (omega (arith, b))
before_at [] (t ∷ ts) others place a b alike exact apart = absurd (omega (arith, a))
before_at (k ∷ ks) [] others place a b alike exact apart = absurd (omega (arith, a))
before_at (k ∷ ks) (t ∷ ts) [] place a b alike exact apart = absurd (omega (arith, b))
before_at (k ∷ ks) (t ∷ ts) (o ∷ rest) zero a b alike exact apart = inl (get_head t k exact, λ e. apart (ap Some e))
before_at (k ∷ ks) (t ∷ ts) (o ∷ rest) (suc place) a b alike exact apart =
    let h : t ≡ o = cc in
    let r : take place ts ≡ take place rest = cc in
    inr (h, before_at ks ts rest place (omega (arith, a)) (omega (arith, b)) r exact apart)

pub before_is : (kinds types others : List TypeTag) → length types ≡ length kinds → length others ≡ length kinds → IsMoreExact kinds types others → Before kinds types others
before_is kinds types others a b r = before_at kinds types others r.place a b r.alike r.exact r.apart

pub is_before : (kinds types others : List TypeTag) → Before kinds types others → IsMoreExact kinds types others
is_before [] types others b = absurd b
is_before (k ∷ ks) [] others b = absurd b
is_before (k ∷ ks) (t ∷ ts) [] b = absurd b
is_before (k ∷ ks) (t ∷ ts) (o ∷ rest) (inl h) = record { place = 0; alike = refl; exact = ap Some h.0; apart = λ e. h.1 (get_head o k e) }
is_before (k ∷ ks) (t ∷ ts) (o ∷ rest) (inr h) =
    let r = is_before ks ts rest h.1 in
    record { place = suc r.place; alike = (λ i. h.0 i ∷ r.alike i); exact = r.exact; apart = r.apart }

-- of two that match, one goes first or they are the same
pub data Ordered (kinds types others : List TypeTag) : Type 0 where
  first_goes : Before kinds types others → Ordered kinds types others
  second_goes : Before kinds others types → Ordered kinds types others
  same_types : types ≡ others → Ordered kinds types others

ordered_on : (k t o : TypeTag) (ks ts rest : List TypeTag) → t ≡ o → Ordered ks ts rest → Ordered (k ∷ ks) (t ∷ ts) (o ∷ rest)
ordered_on k t o ks ts rest e (first_goes b) = first_goes (inr (e, b))
ordered_on k t o ks ts rest e (second_goes b) = second_goes (inr (sym e, b))
ordered_on k t o ks ts rest e (same_types s) = same_types (λ i. e i ∷ s i)

same_tag : (t o : TypeTag) → (t ≡ o) ⊎ (t ≢ o)
same_tag t o =
    let by : (b : Bool) → tag_eq t o ≡ b → (t ≡ o) ⊎ (t ≢ o) = elim [ true ↦ (λ h. inl ((tag_eq-Decides t o).0 h)) | false ↦ (λ h. inr (λ e. (let q : false ≡ true = sym h ∙ (tag_eq-Decides t o).1 e in cc))) ]
    in by (tag_eq t o) refl

apart_heads : (k t o : TypeTag) (ks ts rest : List TypeTag) → (t ≡ k) ⊎ (t ≡ Dynamic) → (o ≡ k) ⊎ (o ≡ Dynamic) → t ≢ o → Ordered (k ∷ ks) (t ∷ ts) (o ∷ rest)
apart_heads k t o ks ts rest (inl a) q apart = first_goes (inl (a, λ e. apart (a ∙ sym e)))
apart_heads k t o ks ts rest (inr a) (inl b) apart = second_goes (inl (b, λ e. apart (e ∙ sym b)))
apart_heads k t o ks ts rest (inr a) (inr b) apart = absurd (apart (a ∙ sym b))

pub in_order : (n : ℕ) (kinds types others : List TypeTag) → MatchTo n types kinds → MatchTo n others kinds → Ordered kinds types others
in_order n [] [] [] m o = same_types refl
in_order n [] [] (x ∷ xs) m o = absurd o
in_order n [] (t ∷ ts) others m o = absurd m
in_order n (k ∷ ks) [] others m o = absurd m
in_order n (k ∷ ks) (t ∷ ts) [] m o = absurd o
in_order zero (k ∷ ks) (t ∷ ts) (x ∷ xs) m o = same_types (exact_types (t ∷ ts) (k ∷ ks) m ∙ sym (exact_types (x ∷ xs) (k ∷ ks) o))
in_order (suc n) (k ∷ ks) (t ∷ ts) (x ∷ xs) m o =
    let by : (t ≡ x) ⊎ (t ≢ x) → Ordered (k ∷ ks) (t ∷ ts) (x ∷ xs) = elim [ inl e ↦ ordered_on k t x ks ts xs e (in_order n ks ts xs m.1 o.1) | inr e ↦ apart_heads k t x ks ts xs m.0 o.0 e ]
    in by (same_tag t x)

-- The patterns are the types that match.

here_is : {A : Type 0} (x : A) (xs : List A) → Contains (x ∷ xs) x
here_is x xs = (0, omega arith, refl)

there_is : {A : Type 0} (x y : A) (xs : List A) → Contains xs y → Contains (x ∷ xs) y
there_is x y xs (k, small, e) = (suc k, omega (arith, small), e)

is_where : {A : Type 0} (x y : A) (xs : List A) → Contains (x ∷ xs) y → (x ≡ y) ⊎ Contains xs y
is_where x y xs (zero, small, e) = inl e
is_where x y xs (suc k, small, e) = inr (k, omega (arith, small), e)

is_nowhere : {A : Type 0} (y : A) → Contains [] y → ⊥
is_nowhere y (k, small, e) = omega (arith, small)

map_has : {A B : Type 0} (g : A → B) (x : A) (xs : List A) → Contains xs x → Contains (map g xs) (g x)
map_has g x [] c = absurd (is_nowhere x c)
map_has g x (a ∷ xs) c =
    let by : (a ≡ x) ⊎ Contains xs x → Contains (map g (a ∷ xs)) (g x) = elim [ inl e ↦ subst (λ z. Contains (g a ∷ map g xs) (g z)) e (here_is (g a) (map g xs)) | inr d ↦ there_is (g a) (g x) (map g xs) (map_has g x xs d) ]
    in by (is_where a x xs c)

has_map : {A B : Type 0} (g : A → B) (y : B) (xs : List A) → Contains (map g xs) y → (x : A) × Contains xs x × (g x ≡ y)
has_map g y [] c = absurd (is_nowhere y c)
has_map {A} g y (a ∷ xs) c =
    let by : (g a ≡ y) ⊎ Contains (map g xs) y → (x : A) × Contains (a ∷ xs) x × (g x ≡ y) = elim [ inl e ↦ (a, here_is a xs, e) | inr d ↦ (let r = has_map g y xs d in (r.0, there_is a r.0 xs r.1, r.2)) ]
    in by (is_where (g a) y (map g xs) c)

only_has : {A : Type 0} (x y : A) → Contains (x ∷ []) y → y ≡ x
only_has x y c =
    let by : (x ≡ y) ⊎ Contains [] y → y ≡ x = elim [ inl e ↦ sym e | inr d ↦ absurd (is_nowhere y d) ]
    in by (is_where x y [] c)

pub pattern_matches : (n : ℕ) (kinds types : List TypeTag) → Contains (patterns_to n kinds) types → MatchTo n types kinds
unfolding patterns_to
pattern_matches n [] types c = subst (λ ts. MatchTo n ts []) (sym (only_has [] types c)) tt
pattern_matches zero (k ∷ ks) types c = subst (λ ts. MatchTo 0 ts (k ∷ ks)) (sym (only_has (k ∷ ks) types c)) (exactly (k ∷ ks))
pattern_matches (suc n) (k ∷ ks) types c =
    let by : Contains (map (λ p. k ∷ p) (patterns_to n ks)) types ⊎ Contains (map (λ p. Dynamic ∷ p) (patterns_to n ks)) types → MatchTo (suc n) types (k ∷ ks) = elim [
      | inl d ↦ (let r = has_map (λ p. k ∷ p) types (patterns_to n ks) d in subst (λ ts. MatchTo (suc n) ts (k ∷ ks)) r.2 (inl refl, pattern_matches n ks r.0 r.1))
      | inr d ↦ (let r = has_map (λ p. Dynamic ∷ p) types (patterns_to n ks) d in subst (λ ts. MatchTo (suc n) ts (k ∷ ks)) r.2 (inr refl, pattern_matches n ks r.0 r.1))
    ]
    in by (Contains-append_cases (map (λ p. k ∷ p) (patterns_to n ks)) (map (λ p. Dynamic ∷ p) (patterns_to n ks)) types c)

pub matching_pattern : (n : ℕ) (kinds types : List TypeTag) → MatchTo n types kinds → Contains (patterns_to n kinds) types
unfolding patterns_to
matching_pattern n [] [] m = here_is [] []
matching_pattern n [] (t ∷ ts) m = absurd m
matching_pattern n (k ∷ ks) [] m = absurd m
matching_pattern zero (k ∷ ks) (t ∷ ts) m = subst (λ xs. Contains ((k ∷ ks) ∷ []) xs) (sym (exact_types (t ∷ ts) (k ∷ ks) m)) (here_is (k ∷ ks) [])
matching_pattern (suc n) (k ∷ ks) (t ∷ ts) (inl e, m) =
    Contains-append_left (map (λ p. k ∷ p) (patterns_to n ks)) (map (λ p. Dynamic ∷ p) (patterns_to n ks)) (t ∷ ts)
    (subst (λ x. Contains (map (λ p. k ∷ p) (patterns_to n ks)) (x ∷ ts)) (sym e) (map_has (λ p. k ∷ p) ts (patterns_to n ks) (matching_pattern n ks ts m)))
matching_pattern (suc n) (k ∷ ks) (t ∷ ts) (inr e, m) =
    Contains-append_right (map (λ p. k ∷ p) (patterns_to n ks)) (map (λ p. Dynamic ∷ p) (patterns_to n ks)) (t ∷ ts)
    (subst (λ x. Contains (map (λ p. Dynamic ∷ p) (patterns_to n ks)) (x ∷ ts)) (sym e) (map_has (λ p. Dynamic ∷ p) ts (patterns_to n ks) (matching_pattern n ks ts m)))
