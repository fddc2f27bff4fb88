-- Lists of modules that are indexed, and a search in them.
use Rattle.std.proofs.Common.{◌≡◌, Bool, true, false, cond, ◌&&◌, List, [], ◌∷◌, ◌++◌, Some, refl, sym, ap, subst, ◌∙◌, append_assoc, arith, ℕ, take}
use Rattle.std.specs.Prelude.{zero, suc, ◌+◌, reverse, length, get_or, slice_set, ◌==◌}
use Rattle.std.specs.List.{list_all, AllByRecursion, insert}
use Rattle.std.specs.List.Sorted.{IsStrictlySortedBy}
use Rattle.std.specs.Map.{lookup, keys_of}
use Rattle.std.specs.Ordering.{match_ordering, nat_cmp, ordering_reverse}
use Rattle.std.specs.declared.cmp.Ordering.{Ordering}
use Rattle.std.specs.declared.cmp.Ordering.TheVariants.{Less, Equal, Greater}
use Rattle.std.specs.Cmp.Lexicographic.{slice_cmp, nat_list_cmp_total}
use Rattle.std.specs.BTreeMap.{is_at}
use Rattle.std.proofs.lemmas.List.{reverse-append}
use Rattle.std.proofs.lemmas.List.Folds.{list_all-append}
use Rattle.std.proofs.lemmas.Map.Text.{is_eq-slice_cmp}
use Rattle.rhd_value.specs.Tree.{Bytes}
use Rattle.rhd_value.specs.Same.{text_eq}
use Rattle.rhd_module.specs.Tree.{ModuleTree}
use Rattle.rhd_layers.specs.Lists.{Imports, all_indexed, latest_of, module_of, put_module, second, with_last}
use Rattle.rhd_layers.proofs.Bools.{both, parts}

-- What holds of the modules of a list holds of those of a longer or shorter one.
abbrev pub all_of : (ModuleTree → Bool) → Imports → Bool
all_of test es = list_all (λ e. test e.1) es

pub all_pushed : (test : ModuleTree → Bool) (es : Imports) (name : Bytes) (m : ModuleTree) → test m ≡ true → all_of test es ≡ true → all_of test (es ++ (name, m) ∷ []) ≡ true
all_pushed test es name m h all = list_all-append (λ e. test e.1) es ((name, m) ∷ []) ∙ both (all_of test es) (test m && true) all (both (test m) true h refl)

pub all_put : (test : ModuleTree → Bool) (es : Imports) (name : Bytes) (m : ModuleTree) → test m ≡ true → all_of test es ≡ true → all_of test (put_module name m es) ≡ true
all_put test [] name m h all = both (test m) true h refl
all_put test (e ∷ es) name m h all = by (parts (test e.1) (all_of test es) all) (all_put test es name m h (parts (test e.1) (all_of test es) all).1) (slice_cmp nat_cmp name e.0)
  where
    by : (test e.1 ≡ true) × (all_of test es ≡ true) → all_of test (put_module name m es) ≡ true → (o : Ordering) → all_of test (match_ordering o ((name, m) ∷ e ∷ es) ((e.0, m) ∷ es) (e ∷ put_module name m es)) ≡ true
    by p later Less = both (test m) (all_of test (e ∷ es)) h all
    by p later Equal = both (test m) (all_of test es) h p.1
    by p later Greater = both (test e.1) (all_of test (put_module name m es)) p.0 later

all_step : (test : ModuleTree → Bool) (e : Bytes × ModuleTree) (es : Imports) (name : Bytes) (m : ModuleTree) (same : Bool) → all_of test (e ∷ es) ≡ true → (module_of name es ≡ Some m → test m ≡ true) → cond same (Some e.1) (module_of name es) ≡ Some m → test m ≡ true
all_step test e es name m true all ih is = let q : e.1 ≡ m = cc in ap test (sym q) ∙ (parts (test e.1) (all_of test es) all).0
all_step test e es name m false all ih is = ih is

-- what is found has what all have
pub all_found : (test : ModuleTree → Bool) (es : Imports) (name : Bytes) (m : ModuleTree) → all_of test es ≡ true → module_of name es ≡ Some m → test m ≡ true
all_found test [] name m all is = absurd cc
all_found test (e ∷ es) name m all is = all_step test e es name m (text_eq name e.0) all (all_found test es name m (parts (test e.1) (all_of test es) all).1) is

pub all_reversed : (test : ModuleTree → Bool) (es : Imports) → all_of test es ≡ true → all_of test (reverse es) ≡ true
all_reversed test [] all = refl
all_reversed test (e ∷ es) all =
    let p = parts (test e.1) (all_of test es) all in
    ap (all_of test) (reverse-append (e ∷ []) es) ∙ all_pushed test (reverse es) e.0 e.1 p.0 (all_reversed test es p.1)

all_taken : (test : ModuleTree → Bool) (es : Imports) (n : ℕ) → all_of test es ≡ true → all_of test (take n es) ≡ true
all_taken test es zero all = refl
all_taken test [] (suc n) all = refl
all_taken test (e ∷ es) (suc n) all =
    let p = parts (test e.1) (all_of test es) all in
    both (test e.1) (all_of test (take n es)) p.0 (all_taken test es n p.1)

pub all_last : (test : ModuleTree → Bool) (es : Imports) (m : ModuleTree) → test m ≡ true → all_of test es ≡ true → all_of test (with_last m es) ≡ true
all_last test [] m h all = refl
all_last test (e ∷ []) m h all = both (test m) true h refl
all_last test (e ∷ next ∷ es) m h all =
    let p = parts (test e.1) (all_of test (next ∷ es)) all in
    both (test e.1) (all_of test (with_last m (next ∷ es))) p.0 (all_last test (next ∷ es) m h p.1)

-- The same of indexed modules.
pub pushed : (es : Imports) (name : Bytes) (m : ModuleTree) → m.own.indexed ≡ true → all_indexed es ≡ true → all_indexed (es ++ (name, m) ∷ []) ≡ true
pushed es name m h all = all_pushed (λ m. m.own.indexed) es name m h all

pub put_indexed : (es : Imports) (name : Bytes) (m : ModuleTree) → m.own.indexed ≡ true → all_indexed es ≡ true → all_indexed (put_module name m es) ≡ true
put_indexed es name m h all = all_put (λ m. m.own.indexed) es name m h all

pub last_indexed : (es : Imports) (m : ModuleTree) → m.own.indexed ≡ true → all_indexed es ≡ true → all_indexed (with_last m es) ≡ true
last_indexed es m h all = all_last (λ m. m.own.indexed) es m h all

-- a module in the last place
pub last_set : (es : Imports) (n : ℕ) (e : Bytes × ModuleTree) (m : ModuleTree) → n + 1 ≡ length es → e ≡ get_or es n e → slice_set es n (e.0, m) ≡ with_last m es
last_set [] n e m is at = absurd (omega (arith, is))
last_set (d ∷ []) zero e m is at = ap (λ (x : Bytes × ModuleTree). (x.0, m) ∷ []) at
last_set (d ∷ []) (suc n) e m is at = absurd (omega (arith, is))
last_set (d ∷ next ∷ es) zero e m is at = absurd (omega (arith, is))
last_set (d ∷ next ∷ es) (suc n) e m is at = ap (λ rest. d ∷ rest) (last_set (next ∷ es) n e m (omega (arith, is)) at)

pub taken : (es : Imports) (n : ℕ) → all_indexed es ≡ true → all_indexed (take n es) ≡ true
taken es n all = all_taken (λ m. m.own.indexed) es n all

-- the latest of a name, from the last on
pub latest_step : (name : Bytes) (es : Imports) (e : Bytes × ModuleTree) → latest_of name (es ++ e ∷ []) ≡ cond (text_eq name e.0) (Some e.1) (latest_of name es)
latest_step name es e = ap (lookup (text_eq name)) (reverse-append es (e ∷ []))

latest_by : (name : Bytes) (all left es : Imports) (e : Bytes × ModuleTree) (same : Bool) → latest_of name left ≡ latest_of name all → left ≡ es ++ e ∷ [] → same ≡ text_eq name e.0 → cond same (Some e.1) (latest_of name es) ≡ latest_of name all
latest_by name all left es e same h is test = ap (λ b. cond b (Some e.1) (latest_of name es)) test ∙ sym (latest_step name es e) ∙ ap (latest_of name) (sym is) ∙ h

-- the last of those that are left has the name, or hasn't
pub latest_here : (name : Bytes) (all left es : Imports) (e : Bytes × ModuleTree) → latest_of name left ≡ latest_of name all → left ≡ es ++ e ∷ [] → true ≡ text_eq name e.0 → Some e.1 ≡ latest_of name all
latest_here name all left es e h is test = latest_by name all left es e true h is test

pub latest_before : (name : Bytes) (all left es : Imports) (e : Bytes × ModuleTree) → latest_of name left ≡ latest_of name all → left ≡ es ++ e ∷ [] → false ≡ text_eq name e.0 → latest_of name es ≡ latest_of name all
latest_before name all left es e h is test = latest_by name all left es e false h is test

-- a module that is put behind the first
pub second_is : (added : ModuleTree) (ms : List ModuleTree) (empty : Bool) → false ≡ empty → empty ≡ (length ms == 0) → insert ms 1 added ≡ second added ms
second_is added [] empty some is = absurd (let e : false ≡ true = some ∙ is in cc)
second_is added (m ∷ ms) empty some is = refl

-- a search by order finds what one by equality finds
pub found_by_text : (name : Bytes) (es : Imports) → lookup (is_at (slice_cmp nat_cmp name)) es ≡ module_of name es
found_by_text name [] = refl
found_by_text name (e ∷ es) = λ i. cond (is_eq-slice_cmp name e.0 i) (Some e.1) (found_by_text name es i)

-- A module of a name after all others goes last.
of_next : (P : Bytes → Type 0) (done rest : Imports) (e : Bytes × ModuleTree) → AllByRecursion P (keys_of (done ++ e ∷ rest)) → P e.0
of_next P [] rest e all = all.0
of_next P (d ∷ done) rest e all = of_next P done rest e all.1

pub put_last : (done rest : Imports) (e : Bytes × ModuleTree) → IsStrictlySortedBy (slice_cmp nat_cmp) (keys_of (done ++ e ∷ rest)) → put_module e.0 e.1 done ≡ done ++ e ∷ []
unfolding IsStrictlySortedBy
put_last [] rest e sorted = refl
put_last (d ∷ done) rest e sorted =
    let below : slice_cmp nat_cmp d.0 e.0 ≡ Less = of_next (λ n. slice_cmp nat_cmp d.0 n ≡ Less) done rest e sorted.0 in
    let above : slice_cmp nat_cmp e.0 d.0 ≡ Greater = nat_list_cmp_total.antisymm e.0 d.0 ∙ ap ordering_reverse below in
    ap (λ o. match_ordering o (e ∷ d ∷ done) ((d.0, e.1) ∷ done) (d ∷ put_module e.0 e.1 done)) above ∙ ap (λ es. d ∷ es) (put_last done rest e sorted.1)

-- the next of some modules in order goes behind those that were put before
pub copied_next : (done rest all : Imports) (e : Bytes × ModuleTree) → IsStrictlySortedBy (slice_cmp nat_cmp) (keys_of all) → done ++ e ∷ rest ≡ all → put_module e.0 e.1 done ++ rest ≡ all
copied_next done rest all e sorted is =
    let here : IsStrictlySortedBy (slice_cmp nat_cmp) (keys_of (done ++ e ∷ rest)) = subst (λ (es : Imports). IsStrictlySortedBy (slice_cmp nat_cmp) (keys_of es)) (sym is) sorted in
    ap (λ es. es ++ rest) (put_last done rest e here) ∙ append_assoc done (e ∷ []) rest ∙ is

pub copied_step : (done rest left all entries after : Imports) (e : Bytes × ModuleTree) (name : Bytes) (m : ModuleTree) → IsStrictlySortedBy (slice_cmp nat_cmp) (keys_of entries) → entries ≡ all → done ++ left ≡ all → left ≡ e ∷ rest → name ≡ e.0 → m ≡ e.1
    → after ≡ put_module name m done → after ++ rest ≡ all
copied_step done rest left all entries after e name m sorted view whole is named same puts =
    let ascends = subst (λ (es : Imports). IsStrictlySortedBy (slice_cmp nat_cmp) (keys_of es)) view sorted in
    let here : done ++ e ∷ rest ≡ all = ap (λ es. done ++ es) (sym is) ∙ whole in
    let put : after ≡ put_module e.0 e.1 done = puts ∙ (λ i. put_module (named i) (same i) done) in
    ap (λ es. es ++ rest) put ∙ copied_next done rest all e ascends here
