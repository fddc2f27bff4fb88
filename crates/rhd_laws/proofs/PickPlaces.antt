-- A key is found in the first place of a frame that has a declaration under it.
use Rattle.std.proofs.Common.{◌≡◌, ℕ, ◌<◌, List, [], ◌∷◌, refl, sym, ap, ◌∙◌, ◌⊎◌, inl, inr, arith}
use Rattle.std.specs.Prelude.{zero, suc, slice_get, Option, Some, None, option_map}
use Rattle.std.specs.Map.{lookup}
use Rattle.std.specs.Option.{option_or}
use Rattle.rhd_value.specs.Firsts.{first_of}
use Rattle.rhd_hash.specs.declared.key.Key.{Key}
use Rattle.rhd_decl.specs.declared.declaration.Declaration.{Declaration}
use Rattle.rhd_hash.specs.FirstPairs.{IsFirstWith}
use Rattle.rhd_hash.proofs.FirstFound.{found_first, first_found}
use Rattle.rhd_hash.specs.Keys.{key_eq, key_eq-Decides}
use Rattle.rhd_call.specs.declared.pick.Pick.{Pick}
use Rattle.rhd_engine.specs.Engine.{EngineLists, Frame}
use Rattle.rhd_dispatch.specs.Searched.{Place, searched, pick_at, found}
use Rattle.rhd_laws.specs.Matches.{IsInFirstPlace, NoneDeclares}
use Rattle.rhd_laws.proofs.PatternOrder.{or_cases, or_parts, or_nones}

pub got : {A : Type 0} (x y : A) → ◌≡◌ {A = Option A} (Some x) (Some y) → x ≡ y
got x y e = cc

-- The first of a list by its number.

-- y is what f gives for one of a list, and f gives none for each of a lower number
pub record IsNumbered {A B : Type 0} (f : A → Option B) (xs : List A) (y : B) : Type 0 where
  pub number : ℕ
  pub one : A
  pub stands : slice_get xs number ≡ Some one
  pub gives : f one ≡ Some y
  pub before : (n : ℕ) (x : A) → n < number → slice_get xs n ≡ Some x → f x ≡ None

pub none_each : {A B : Type 0} (f : A → Option B) (xs : List A) → first_of f xs ≡ None → (n : ℕ) (x : A) → slice_get xs n ≡ Some x → f x ≡ None
none_each f [] h n x is = absurd cc
none_each f (a ∷ xs) h zero x is = ap f (sym (got a x is)) ∙ (or_parts (f a) (first_of f xs) h).0
none_each f (a ∷ xs) h (suc n) x is = none_each f xs (or_parts (f a) (first_of f xs) h).1 n x is

pub each_none : {A B : Type 0} (f : A → Option B) (xs : List A) → ((n : ℕ) (x : A) → slice_get xs n ≡ Some x → f x ≡ None) → first_of f xs ≡ None
each_none f [] h = refl
each_none f (a ∷ xs) h = or_nones (f a) (first_of f xs) (h 0 a refl) (each_none f xs (λ n x is. h (suc n) x is))

none_before : {A B : Type 0} (f : A → Option B) (a : A) (xs : List A) (number : ℕ) → f a ≡ None → ((n : ℕ) (x : A) → n < number → slice_get xs n ≡ Some x → f x ≡ None)
    → (n : ℕ) (x : A) → n < suc number → slice_get (a ∷ xs) n ≡ Some x → f x ≡ None
none_before f a xs number none h zero x less is = ap f (sym (got a x is)) ∙ none
none_before f a xs number none h (suc n) x less is = h n x (omega (arith, less)) is

pub numbered : {A B : Type 0} (f : A → Option B) (xs : List A) (y : B) → first_of f xs ≡ Some y → IsNumbered f xs y
numbered f [] y h = absurd cc
numbered f (a ∷ xs) y h =
    let below : f a ≡ None → IsNumbered f xs y → IsNumbered f (a ∷ xs) y = λ none r. record { number = suc r.number; one = r.one; stands = r.stands; gives = r.gives; before = none_before f a xs r.number none r.before } in
    let by : (f a ≡ Some y) ⊎ ((f a ≡ None) × (first_of f xs ≡ Some y)) → IsNumbered f (a ∷ xs) y = elim [
      | inl q ↦ record { number = 0; one = a; stands = refl; gives = q; before = λ n x less is. absurd (omega (arith, less)) }
      | inr q ↦ below q.0 (numbered f xs y q.1)
    ]
    in by (or_cases (f a) (first_of f xs) y h)

pub from_number : {A B : Type 0} (f : A → Option B) (xs : List A) (y : B) (number : ℕ) (one : A) → slice_get xs number ≡ Some one → f one ≡ Some y
    → ((n : ℕ) (x : A) → n < number → slice_get xs n ≡ Some x → f x ≡ None) → first_of f xs ≡ Some y
from_number f [] y number one is gives before = absurd cc
from_number {A} {B} f (a ∷ xs) y zero one is gives before = ap (λ (o : Option B). option_or o (first_of f xs)) (ap f (got a one is) ∙ gives)
from_number {A} {B} f (a ∷ xs) y (suc number) one is gives before =
    ap (λ (o : Option B). option_or o (first_of f xs)) (before 0 a (omega arith) refl) ∙ from_number f xs y number one is gives (λ n x less at. before (suc n) x (omega (arith, less)) at)

-- What a place has under a key.

pub data PlacePick (key : Key) (place : Place) (pick : Pick) : Type 0 where
  place_pick : (d : Declaration) → IsFirstWith key d place.pairs → pick.layer ≡ place.layer → pick.func ≡ d.func → pick.source ≡ place.source → PlacePick key place pick

abbrev pub made : Place → Declaration → Pick
made place d = record { layer = place.layer; func = d.func; source = place.source }

pick_by : (key : Key) (place : Place) (pick : Pick) (o : Option Declaration) → lookup (key_eq key) place.pairs ≡ o → option_map (made place) o ≡ Some pick → PlacePick key place pick
pick_by key place pick None is h = absurd cc
pick_by key place pick (Some d) is h =
    let same : made place d ≡ pick = got (made place d) pick h in
    place_pick d (found_first key_eq key_eq-Decides key d place.pairs is) (sym (ap (λ (p : Pick). p.layer) same)) (sym (ap (λ (p : Pick). p.func) same)) (sym (ap (λ (p : Pick). p.source) same))

pub has_pick : (key : Key) (place : Place) (pick : Pick) → pick_at key place ≡ Some pick → PlacePick key place pick
unfolding pick_at
has_pick key place pick h = pick_by key place pick (lookup (key_eq key) place.pairs) refl h

pub pick_of : (key : Key) (place : Place) (pick : Pick) (d : Declaration) → IsFirstWith key d place.pairs → pick.layer ≡ place.layer → pick.func ≡ d.func → pick.source ≡ place.source → pick_at key place ≡ Some pick
unfolding pick_at
pick_of key place pick d r layer func source =
    let same : made place d ≡ pick = (λ i. record { layer = sym layer i; func = sym func i; source = sym source i }) in
    ap (option_map (made place)) (first_found key_eq key_eq-Decides key d place.pairs r) ∙ ap Some same

has_none : (key : Key) (place : Place) → pick_at key place ≡ None → (d : Declaration) → IsFirstWith key d place.pairs → ⊥
has_none key place none d r = let q : None ≡ Some (made place d) = sym none ∙ pick_of key place (made place d) d r refl refl refl in absurd cc

none_at : (key : Key) (place : Place) → ((d : Declaration) → IsFirstWith key d place.pairs → ⊥) → pick_at key place ≡ None
none_at key place none =
    let has : (pick : Pick) → PlacePick key place pick → ⊥ = λ pick. elim [ place_pick d r layer func source ↦ none d r ] in
    let by : (o : Option Pick) → pick_at key place ≡ o → pick_at key place ≡ None = elim [ None ↦ (λ h. h) | Some pick ↦ (λ h. absurd (has pick (has_pick key place pick h))) ]
    in by (pick_at key place) refl

-- What is found is of the first place that has a declaration under the key.

pub not_found : (e : EngineLists) (f : Frame) (key : Key) → found e f.lib f.imports key ≡ None → NoneDeclares e f key
unfolding found
not_found e f key h = λ n d r. has_none key r.place (none_each (pick_at key) (searched e f.lib f.imports) h n r.place r.stands) d r.declared

pub none_declared : (e : EngineLists) (f : Frame) (key : Key) → NoneDeclares e f key → found e f.lib f.imports key ≡ None
unfolding found
none_declared e f key none = each_none (pick_at key) (searched e f.lib f.imports) (λ n place is. none_at key place (λ d r. none n d (record { place = place; stands = is; declared = r })))

pub in_first : (e : EngineLists) (f : Frame) (key : Key) (pick : Pick) → found e f.lib f.imports key ≡ Some pick → IsInFirstPlace e f key pick
unfolding found
in_first e f key pick h =
    let r : IsNumbered (pick_at key) (searched e f.lib f.imports) pick = numbered (pick_at key) (searched e f.lib f.imports) pick h in
    let by : PlacePick key r.one pick → IsInFirstPlace e f key pick = elim [
      | place_pick d is layer func source ↦ record {
        number = r.number;
        decl = d;
        stands = record { place = r.one; stands = r.stands; declared = is };
        layer = layer;
        func = func;
        source = source;
        first = λ n other less it. has_none key it.place (r.before n it.place less it.stands) other it.declared;
      }
    ]
    in by (has_pick key r.one pick r.gives)

pub in_first_is : (e : EngineLists) (f : Frame) (key : Key) (pick : Pick) → IsInFirstPlace e f key pick → found e f.lib f.imports key ≡ Some pick
unfolding found
in_first_is e f key pick a =
    from_number (pick_at key) (searched e f.lib f.imports) pick a.number a.stands.place a.stands.stands (pick_of key a.stands.place pick a.decl a.stands.declared a.layer a.func a.source)
    (λ n place less is. none_at key place (λ d r. a.first n d less (record { place = place; stands = is; declared = r })))
