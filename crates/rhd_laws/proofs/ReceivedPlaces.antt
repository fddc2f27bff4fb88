-- What a function receives at each place.
use Rattle.std.proofs.Common.{◌≡◌, ℕ, Bool, true, false, List, [], ◌∷◌, refl, sym, ap, ◌∙◌}
use Rattle.std.specs.Prelude.{◌↔◌, zero, suc, Option, None, Some, slice_get}
use Rattle.rhd_value.specs.Tree.{Tree, Kind, unit, boolean, integer, character, text, array, object, pointer, custom, Items, no_items, item, Members, no_members, member, copied, copied_kind, copied_items, copied_members}
use Rattle.rhd_func.specs.declared.func.RhaiFunc.{RhaiFunc}
use Rattle.rhd_func.specs.declared.request.CallShape.{CallShape}
use Rattle.rhd_func.specs.declared.request.CallShape.TheVariants.{Plain, ByRef, Method}
use Rattle.rhd_func.specs.Natives.{NativeInfo}
use Rattle.rhd_func.specs.Shapes.{all_args}
use Rattle.rhd_func.specs.Funcs.{is_method, is_script}
use Rattle.rhd_machine.specs.Received.{Convention, script, native_method, other_native, received, convention_of}
use Rattle.rhd_laws.proofs.Conventions.{told, native_convention, script_convention}
use Rattle.rhd_laws.specs.Arguments.{HasFirstGiven, by_reference, of_method, GetsCopy, native_by_value, script_by_reference, HasItself, native_has_first, script_has_object, IsKindWritable, AreItemsWritable, AreMembersWritable, IsWritable}
use Rattle.rhd_laws.specs.Matches.{all_received}

got : {A : Type 0} (x y : A) → ◌≡◌ {A = Option A} (Some x) (Some y) → x ≡ y
got x y e = cc

head_same : (a b : Tree) (xs ys : List Tree) → a ∷ xs ≡ b ∷ ys → a ≡ b
head_same a b xs ys h = cc

-- all but a copied argument is as given
place_told : (natives : List NativeInfo) (func : RhaiFunc) (s m : Bool) → is_script func ≡ s → is_method natives func ≡ m → (shape : CallShape) (n : ℕ) → ((n ≡ 0) × GetsCopy natives func shape → ⊥)
    → slice_get (all_received (received (told s m) shape)) n ≡ slice_get (all_args shape) n
place_told natives func true m s is (Plain args) n none = refl
place_told natives func true m s is (ByRef a args) zero none = absurd (none (refl, script_by_reference a args s refl))
place_told natives func true m s is (ByRef a args) (suc n) none = refl
place_told natives func true m s is (Method target args) n none = refl
place_told natives func false true s is (Plain []) n none = refl
place_told natives func false true s is (Plain (a ∷ args)) n none = refl
place_told natives func false true s is (ByRef a args) n none = refl
place_told natives func false true s is (Method target args) n none = refl
place_told natives func false false s is (Plain args) n none = refl
place_told natives func false false s is (ByRef a args) zero none = absurd (none (refl, native_by_value s is (by_reference a args refl)))
place_told natives func false false s is (ByRef a args) (suc n) none = refl
place_told natives func false false s is (Method target args) zero none = absurd (none (refl, native_by_value s is (of_method target args refl)))
place_told natives func false false s is (Method target args) (suc n) none = refl

pub place_given : (natives : List NativeInfo) (func : RhaiFunc) (shape : CallShape) (n : ℕ) → ((n ≡ 0) × GetsCopy natives func shape → ⊥)
    → slice_get (all_received (received (convention_of natives func) shape)) n ≡ slice_get (all_args shape) n
place_given natives func shape n none = place_told natives func (is_script func) (is_method natives func) refl refl shape n none

-- a copied one stands at its place
copy_head : (a value : Tree) (args : List Tree) → slice_get (a ∷ args) 0 ≡ Some value → slice_get (copied a ∷ args) 0 ≡ Some (copied value)
copy_head a value args h = ap (λ (t : Tree). Some (copied t)) (got a value h)

value_head : (natives : List NativeInfo) (func : RhaiFunc) (shape : CallShape) (value : Tree) → convention_of natives func ≡ other_native
    → HasFirstGiven shape → slice_get (all_args shape) 0 ≡ Some value
    → slice_get (all_received (received (convention_of natives func) shape)) 0 ≡ Some (copied value)
value_head natives func (Plain args) value is (by_reference first others same) h = absurd cc
value_head natives func (Plain args) value is (of_method target others same) h = absurd cc
value_head natives func (ByRef a args) value is has h = ap (λ c. slice_get (all_received (received c (ByRef a args))) 0) is ∙ copy_head a value args h
value_head natives func (Method target args) value is has h = ap (λ c. slice_get (all_received (received c (Method target args))) 0) is ∙ copy_head target value args h

script_head : (natives : List NativeInfo) (func : RhaiFunc) (shape : CallShape) (value first : Tree) (args : List Tree) → shape ≡ ByRef first args → slice_get (all_args shape) 0 ≡ Some value → (c : _)
    → received c (ByRef first args) ≡ record { first = None; args = copied first ∷ args }
    → slice_get (all_received (received c shape)) 0 ≡ Some (copied value)
script_head natives func shape value first args is h c r =
    ap (λ (s : CallShape). slice_get (all_received (received c s)) 0) is ∙ ap (λ x. slice_get (all_received x) 0) r ∙ copy_head first value args (sym (ap (λ (s : CallShape). slice_get (all_args s) 0) is) ∙ h)

pub place_copied : (natives : List NativeInfo) (func : RhaiFunc) (shape : CallShape) (value : Tree) → GetsCopy natives func shape → slice_get (all_args shape) 0 ≡ Some value
    → slice_get (all_received (received (convention_of natives func) shape)) 0 ≡ Some (copied value)
place_copied natives func shape value (native_by_value s m has) h = value_head natives func shape value (native_convention natives func false s m) has h
place_copied natives func shape value (script_by_reference first args s is) h =
    script_head natives func shape value first args is h (convention_of natives func) (ap (λ (c : Convention). received c (ByRef first args)) (script_convention natives func s))

-- what it has itself
told_first : (natives : List NativeInfo) (func : RhaiFunc) (s m : Bool) → is_script func ≡ s → is_method natives func ≡ m → (shape : CallShape) (value : Tree) → (received (told s m) shape).first ≡ Some value
    → HasItself natives func shape value
told_first natives func true m s is (Plain args) value h = absurd cc
told_first natives func true m s is (ByRef a args) value h = absurd cc
told_first natives func true m s is (Method target args) value h = script_has_object args s (ap (λ (t : Tree). Method t args) (got target value h))
told_first natives func false true s is (Plain []) value h = absurd cc
told_first natives func false true s is (Plain (a ∷ args)) value h = native_has_first args s is (ap (λ (t : Tree). t ∷ args) (got a value h))
told_first natives func false true s is (ByRef a args) value h = native_has_first args s is (ap (λ (t : Tree). t ∷ args) (got a value h))
told_first natives func false true s is (Method target args) value h = native_has_first args s is (ap (λ (t : Tree). t ∷ args) (got target value h))
told_first natives func false false s is (Plain args) value h = absurd cc
told_first natives func false false s is (ByRef a args) value h = absurd cc
told_first natives func false false s is (Method target args) value h = absurd cc

has_first : (natives : List NativeInfo) (func : RhaiFunc) (shape : CallShape) (value : Tree) → (received (convention_of natives func) shape).first ≡ Some value → HasItself natives func shape value
has_first natives func shape value h = told_first natives func (is_script func) (is_method natives func) refl refl shape value h

method_first : (shape : CallShape) (value : Tree) (others : List Tree) → all_args shape ≡ value ∷ others → (received native_method shape).first ≡ Some value
method_first (Plain []) value others is = absurd cc
method_first (Plain (a ∷ args)) value others is = ap Some (head_same a value args others is)
method_first (ByRef a args) value others is = ap Some (head_same a value args others is)
method_first (Method target args) value others is = ap Some (head_same target value args others is)

first_has : (natives : List NativeInfo) (func : RhaiFunc) (shape : CallShape) (value : Tree) → HasItself natives func shape value → (received (convention_of natives func) shape).first ≡ Some value
first_has natives func shape value (native_has_first others s m is) =
    ap (λ (c : Convention). (received c shape).first) (native_convention natives func true s m) ∙ method_first shape value others is
first_has natives func shape value (script_has_object others s is) =
    ap (λ (c : Convention). (received c shape).first) (script_convention natives func s) ∙ ap (λ (sh : CallShape). (received script sh).first) is

pub first_exactly : (natives : List NativeInfo) (func : RhaiFunc) (shape : CallShape) (value : Tree) → ((received (convention_of natives func) shape).first ≡ Some value) ↔ HasItself natives func shape value
first_exactly natives func shape value = (has_first natives func shape value, first_has natives func shape value)

-- no value within a copy is read-only
mutual
  kind_writable : (k : Kind) → IsKindWritable (copied_kind k)
  kind_writable unit = tt
  kind_writable (boolean b) = tt
  kind_writable (integer z) = tt
  kind_writable (character c) = tt
  kind_writable (text s) = tt
  kind_writable (array ts) = items_writable ts
  kind_writable (object es) = members_writable es
  kind_writable (pointer n ts p) = items_writable ts
  kind_writable (custom n z) = tt

  items_writable : (ts : Items) → AreItemsWritable (copied_items ts)
  items_writable no_items = tt
  items_writable (item k m ts) = (kind_writable k, refl, items_writable ts)

  members_writable : (es : Members) → AreMembersWritable (copied_members es)
  members_writable no_members = tt
  members_writable (member n k m es) = (kind_writable k, refl, members_writable es)

pub copy_writable : (t : Tree) → IsWritable (copied t)
copy_writable t = (refl, kind_writable t.kind)
