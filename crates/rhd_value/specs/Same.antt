-- When two types, and two lists of texts or of types, are the same: the test that the code makes, and that it decides equality.
use Rattle.std.specs.Prelude.{◌≡◌, ℕ, Bool, ◌==◌, ◌&&◌, cond, List, refl, nat_eq}
use Rattle.std.specs.Bool.{Decides}
use Rattle.std.specs.Cmp.{IsEquivalence, decided}
use Rattle.std.specs.Cmp.Lexicographic.{pointwise}
use Rattle.std.proofs.Common.{sym, ap, ◌∙◌}
use Rattle.std.proofs.lemmas.Slice.Eq.{slice_eq-Decides, bytes_eq-Decides}
use Rattle.std.proofs.lemmas.Bool.Decides.{Decides-eqb, Decides-and, Decides-like}
use Rattle.rhd_value.specs.declared.tag.TypeTag.{TypeTag}
use Rattle.rhd_value.specs.declared.tag.TypeTag.TheVariants as tag

-- the number of a type and the number that it carries, or 0
abbrev pub tag_number : TypeTag → ℕ
tag_number tag.Unit = 0
tag_number tag.Bool = 1
tag_number tag.Int = 2
tag_number tag.Char = 3
tag_number tag.Text = 4
tag_number tag.Array = 5
tag_number tag.Map = 6
tag_number tag.FnPtr = 7
tag_number (tag.Custom n) = 8
tag_number tag.Dynamic = 9
tag_number tag.Str = 10
tag_number tag.StdString = 11

abbrev pub tag_argument : TypeTag → ℕ
tag_argument tag.Unit = 0
tag_argument tag.Bool = 0
tag_argument tag.Int = 0
tag_argument tag.Char = 0
tag_argument tag.Text = 0
tag_argument tag.Array = 0
tag_argument tag.Map = 0
tag_argument tag.FnPtr = 0
tag_argument (tag.Custom n) = n
tag_argument tag.Dynamic = 0
tag_argument tag.Str = 0
tag_argument tag.StdString = 0

abbrev pub tag_eq : TypeTag → TypeTag → Bool
tag_eq a b = (tag_number a == tag_number b) && (tag_argument a == tag_argument b)

-- the type with this number
abbrev tag_from : ℕ → ℕ → TypeTag
tag_from n a = cond (n == 0) tag.Unit (cond (n == 1) tag.Bool (cond (n == 2) tag.Int (cond (n == 3) tag.Char
    (cond (n == 4) tag.Text (cond (n == 5) tag.Array (cond (n == 6) tag.Map (cond (n == 7) tag.FnPtr
    (cond (n == 8) (tag.Custom a) (cond (n == 9) tag.Dynamic (cond (n == 10) tag.Str tag.StdString))))))))))

tag_back : (t : TypeTag) → tag_from (tag_number t) (tag_argument t) ≡ t
tag_back tag.Unit = refl
tag_back tag.Bool = refl
tag_back tag.Int = refl
tag_back tag.Char = refl
tag_back tag.Text = refl
tag_back tag.Array = refl
tag_back tag.Map = refl
tag_back tag.FnPtr = refl
tag_back (tag.Custom n) = refl
tag_back tag.Dynamic = refl
tag_back tag.Str = refl
tag_back tag.StdString = refl

pub tag_eq-Decides : (a b : TypeTag) → Decides (tag_eq a b) (a ≡ b)
tag_eq-Decides a b =
    Decides-like (tag_eq a b)
    (λ p. sym (tag_back a) ∙ (λ i. tag_from (p.0 i) (p.1 i)) ∙ tag_back b)
    (λ e. (ap tag_number e, ap tag_argument e))
    (Decides-and (tag_number a == tag_number b) (tag_argument a == tag_argument b) (Decides-eqb (tag_number a) (tag_number b)) (Decides-eqb (tag_argument a) (tag_argument b)))

pub tag_eq_equiv : IsEquivalence tag_eq
tag_eq_equiv = decided tag_eq tag_eq-Decides

abbrev pub text_eq : List ℕ → List ℕ → Bool
text_eq = pointwise nat_eq

abbrev pub texts_eq : List (List ℕ) → List (List ℕ) → Bool
texts_eq = pointwise text_eq

abbrev pub types_eq : List TypeTag → List TypeTag → Bool
types_eq = pointwise tag_eq

pub texts_eq-Decides : (xs ys : List (List ℕ)) → Decides (texts_eq xs ys) (xs ≡ ys)
texts_eq-Decides xs ys = slice_eq-Decides bytes_eq-Decides xs ys (texts_eq xs ys) refl

pub types_eq-Decides : (xs ys : List TypeTag) → Decides (types_eq xs ys) (xs ≡ ys)
types_eq-Decides xs ys = slice_eq-Decides tag_eq-Decides xs ys (types_eq xs ys) refl

pub types_eq_equiv : IsEquivalence types_eq
types_eq_equiv = decided types_eq types_eq-Decides
