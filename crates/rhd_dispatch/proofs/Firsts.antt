-- What the first of some questions gives.
use Rattle.std.proofs.Common.{◌≡◌, List, [], ◌∷◌, ◌++◌, map, refl, ap, ◌∙◌, ◌⊎◌, inl, inr}
use Rattle.std.specs.Prelude.{Option, Some, None, reverse}
use Rattle.std.specs.Option.{option_or}
use Rattle.std.proofs.lemmas.List.{reverse-append}
use Rattle.rhd_value.specs.Firsts.{first_of}

pub or_none : {A : Type 0} (o : Option A) → option_or o None ≡ o
or_none None = refl
or_none (Some a) = refl

or_parts : {A : Type 0} (a b : Option A) → option_or a b ≡ None → (a ≡ None) × (b ≡ None)
or_parts None b h = (refl, h)
or_parts (Some x) b h = absurd cc

pub or_nones : {A : Type 0} (a b : Option A) → a ≡ None → b ≡ None → option_or a b ≡ None
or_nones a b p q = (λ i. option_or (p i) (q i))

pub or_found : {A : Type 0} (a b : Option A) (x : A) → a ≡ Some x → option_or a b ≡ Some x
or_found a b x p = ap (λ (o : Option _). option_or o b) p

pub or_some : {A : Type 0} (a b : Option A) (x : A) → option_or a b ≡ Some x → (a ≡ Some x) ⊎ (b ≡ Some x)
or_some None b x h = inr h
or_some (Some y) b x h = inl h

-- of two lists, the first that has it
pub of_append : {A B : Type 0} (f : A → Option B) (xs ys : List A) → first_of f (xs ++ ys) ≡ option_or (first_of f xs) (first_of f ys)
of_append f [] ys = refl
of_append {B = B} f (x ∷ xs) ys =
    let by : (o : Option B) → option_or o (first_of f (xs ++ ys)) ≡ option_or (option_or o (first_of f xs)) (first_of f ys) = elim [ None ↦ of_append f xs ys | Some y ↦ refl ]
    in by (f x)

pub of_map : {A B C : Type 0} (f : B → Option C) (g : A → B) (xs : List A) → first_of f (map g xs) ≡ first_of (λ x. f (g x)) xs
of_map f g [] = refl
of_map f g (x ∷ xs) = ap (option_or (f (g x))) (of_map f g xs)

-- where none has it, none of the reversed list has it
pub none_reverse : {A B : Type 0} (f : A → Option B) (xs : List A) → first_of f xs ≡ None → first_of f (reverse xs) ≡ None
none_reverse f [] h = refl
none_reverse f (x ∷ xs) h =
    let p = or_parts (f x) (first_of f xs) h in
    ap (first_of f) (reverse-append (x ∷ []) xs) ∙ of_append f (reverse xs) (x ∷ []) ∙ or_nones (first_of f (reverse xs)) (option_or (f x) None) (none_reverse f xs p.1) (or_nones (f x) None p.0 refl)
