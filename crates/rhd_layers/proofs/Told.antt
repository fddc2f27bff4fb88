-- What holds of each of some modules holds after a list changes, where it holds of what is new.
use Rattle.std.proofs.Common.{◌≡◌, ◌<◌, ℕ, Bool, true, false, ◌&&◌, List, [], ◌∷◌, ◌++◌, refl, sym, ap, ◌∙◌, take, drop, set, get_or, length, arith}
use Rattle.std.specs.Prelude.{zero, suc, Option, None, Some}
use Rattle.std.specs.List.{list_all, insert}
use Rattle.std.proofs.lemmas.List.Folds.{list_all-append}
use Rattle.rhd_value.specs.Tree.{Bytes}
use Rattle.rhd_hash.specs.declared.key.Key.{Key}
use Rattle.rhd_module.specs.Tree.{ModuleTree}
use Rattle.rhd_layers.specs.declared.marks.Marks.{Marks}
use Rattle.rhd_layers.specs.Lists.{Imports, Popped, put_module, with_last}
use Rattle.rhd_layers.specs.Marks.{Grows, Tells, may_have, may_have_dynamic, lacks_dynamic, named_one}
use Rattle.rhd_layers.proofs.Bools.{both, parts}
use Rattle.rhd_layers.proofs.Indexed.{all_put, all_last}

-- a change of a list after which a test holds of each module, where it did and holds of one more
abbrev pub Adds : {A : Type 0} → (A → ModuleTree) → ModuleTree → List A → List A → Type 0
Adds of m old new = (test : ModuleTree → Bool) → test m ≡ true → list_all (λ x. test (of x)) old ≡ true → list_all (λ x. test (of x)) new ≡ true

-- and one that leaves some
abbrev pub Leaves : {A : Type 0} → (A → ModuleTree) → List A → List A → Type 0
Leaves of old new = (test : ModuleTree → Bool) → list_all (λ x. test (of x)) old ≡ true → list_all (λ x. test (of x)) new ≡ true

pub added_told : {A : Type 0} (of : A → ModuleTree) (lack : Key → ModuleTree → Bool) (size : ℕ) (old : Marks) (old_keys : List ℕ) (new : Marks) (new_keys : List ℕ) (items after : List A) (m : ModuleTree) → Adds of m items after
    → Tells of lack size old old_keys items → Grows size old old_keys new new_keys → ((key : Key) → may_have size new new_keys key ≡ false → lack key m ≡ true)
    → ((name : Bytes) (params : ℕ) → may_have_dynamic new name params ≡ false → lacks_dynamic name params m ≡ true) → Tells of lack size new new_keys after
added_told of lack size old old_keys new new_keys items after m adds tells grows keys dynamic = record {
  under_keys = λ key e. adds (lack key) (keys key e) (tells.under_keys key (grows.keys key e));
  under_names = λ name params e. adds (lacks_dynamic name params) (dynamic name params e) (tells.under_names name params (grows.dynamic name params e));
}

pub grown_told : {A : Type 0} (of : A → ModuleTree) (lack : Key → ModuleTree → Bool) (size : ℕ) (old : Marks) (old_keys : List ℕ) (new : Marks) (new_keys : List ℕ) (items : List A) → Tells of lack size old old_keys items → Grows size old old_keys new new_keys → Tells of lack size new new_keys items
grown_told of lack size old old_keys new new_keys items tells grows = record {
  under_keys = λ key e. tells.under_keys key (grows.keys key e);
  under_names = λ name params e. tells.under_names name params (grows.dynamic name params e);
}

pub left_told : {A : Type 0} (of : A → ModuleTree) (lack : Key → ModuleTree → Bool) (size : ℕ) (marks : Marks) (keys : List ℕ) (items after : List A) → Leaves of items after → Tells of lack size marks keys items → Tells of lack size marks keys after
left_told of lack size marks keys items after leaves tells = record {
  under_keys = λ key e. leaves (lack key) (tells.under_keys key e);
  under_names = λ name params e. leaves (lacks_dynamic name params) (tells.under_names name params e);
}

-- The changes.
pub pushed_adds : {A : Type 0} (of : A → ModuleTree) (xs : List A) (a : A) → Adds of (of a) xs (xs ++ a ∷ [])
pushed_adds of xs a test h all = list_all-append (λ x. test (of x)) xs (a ∷ []) ∙ both (list_all (λ x. test (of x)) xs) (test (of a) && true) all (both (test (of a)) true h refl)

pub set_adds : {A : Type 0} (of : A → ModuleTree) (xs : List A) (n : ℕ) (a : A) → Adds of (of a) xs (set xs n a)
set_adds of [] n a test h all = refl
set_adds of (x ∷ xs) zero a test h all = both (test (of a)) (list_all (λ x. test (of x)) xs) h (parts (test (of x)) (list_all (λ x. test (of x)) xs) all).1
set_adds of (x ∷ xs) (suc n) a test h all =
    let p = parts (test (of x)) (list_all (λ x. test (of x)) xs) all in
    both (test (of x)) (list_all (λ x. test (of x)) (set xs n a)) p.0 (set_adds of xs n a test h p.1)

pub take_leaves : {A : Type 0} (of : A → ModuleTree) (xs : List A) (n : ℕ) → Leaves of xs (take n xs)
take_leaves of xs zero test all = refl
take_leaves of [] (suc n) test all = refl
take_leaves of (x ∷ xs) (suc n) test all =
    let p = parts (test (of x)) (list_all (λ x. test (of x)) xs) all in
    both (test (of x)) (list_all (λ x. test (of x)) (take n xs)) p.0 (take_leaves of xs n test p.1)

drop_leaves : {A : Type 0} (of : A → ModuleTree) (xs : List A) (n : ℕ) → Leaves of xs (drop n xs)
drop_leaves of xs zero test all = all
drop_leaves of [] (suc n) test all = refl
drop_leaves of (x ∷ xs) (suc n) test all = drop_leaves of xs n test (parts (test (of x)) (list_all (λ x. test (of x)) xs) all).1

pub insert_adds : {A : Type 0} (of : A → ModuleTree) (xs : List A) (n : ℕ) (a : A) → Adds of (of a) xs (insert xs n a)
insert_adds of xs n a test h all =
    list_all-append (λ x. test (of x)) (take n xs) (a ∷ drop n xs)
    ∙ both (list_all (λ x. test (of x)) (take n xs)) (test (of a) && list_all (λ x. test (of x)) (drop n xs)) (take_leaves of xs n test all) (both (test (of a)) (list_all (λ x. test (of x)) (drop n xs)) h (drop_leaves of xs n test all))

pub put_adds : (es : Imports) (name : Bytes) (m : ModuleTree) → Adds named_one m es (put_module name m es)
put_adds es name m test h all = all_put test es name m h all

pub last_adds : (es : Imports) (m : ModuleTree) → Adds named_one m es (with_last m es)
last_adds es m test h all = all_last test es m h all

pub popped_leaves : {A : Type 0} (of : A → ModuleTree) (old new : List A) (r : Option A) → Popped old r new → Leaves of old new
popped_leaves of old new None p test all = ap (list_all (λ x. test (of x))) p.1
popped_leaves of old new (Some last) p test all = (parts (list_all (λ x. test (of x)) new) _ (sym (ap (list_all (λ x. test (of x))) p ∙ list_all-append (λ x. test (of x)) new (last ∷ [])) ∙ all)).0

-- a list after a change by a module that is lent
pub became_told : {A : Type 0} (of : A → ModuleTree) (lack : Key → ModuleTree → Bool) (size : ℕ) (old : Marks) (old_keys : List ℕ) (new : Marks) (new_keys : List ℕ) (items after whole : List A) (lent m : ModuleTree) → lent ≡ m → after ≡ whole → Adds of m items whole
    → Tells of lack size old old_keys items → Grows size old old_keys new new_keys → ((key : Key) → may_have size new new_keys key ≡ false → lack key lent ≡ true)
    → ((name : Bytes) (params : ℕ) → may_have_dynamic new name params ≡ false → lacks_dynamic name params lent ≡ true) → Tells of lack size new new_keys after
became_told of lack size old old_keys new new_keys items after whole lent m same is adds tells grows keys dynamic =
    added_told of lack size old old_keys new new_keys items after lent (λ test h all. ap (list_all (λ x. test (of x))) is ∙ adds test (ap test (sym same) ∙ h) all) tells grows keys dynamic

-- and one that stays where no memory was left
pub still_told : {A : Type 0} (of : A → ModuleTree) (lack : Key → ModuleTree → Bool) (size : ℕ) (old : Marks) (old_keys : List ℕ) (new : Marks) (new_keys : List ℕ) (items after : List A) → after ≡ items → Tells of lack size old old_keys items → Grows size old old_keys new new_keys → Tells of lack size new new_keys after
still_told of lack size old old_keys new new_keys items after is tells grows =
    grown_told of lack size old old_keys new new_keys after (left_told of lack size old old_keys items after (λ test all. ap (list_all (λ x. test (of x))) is ∙ all) tells) grows

-- the first module, read after it was set
pub set_first : (items same : List ModuleTree) (m other : ModuleTree) → items ≡ same → 0 < length same → get_or (set items 0 m) 0 other ≡ m
set_first [] same m other is some = absurd (omega (arith, ap length is, some))
set_first (x ∷ xs) same m other is some = refl
