-- Where a path begins.
use Rattle.std.proofs.Common.{◌≡◌, ℕ, ◌+◌, ◌-◌, ◌<◌, Bool, true, false, cond, List, [], ◌∷◌, length, map, refl, sym, ap, ◌∙◌, ◌⊎◌, inl, inr, arith}
use Rattle.std.specs.Prelude.{◌↔◌, suc, slice_get, reverse, Option, None, Some, if◌then◌else◌}
use Rattle.std.specs.List.{enumerate_from}
use Rattle.std.specs.Map.{lookup}
use Rattle.std.specs.Option.{option_or}
use Rattle.std.proofs.lemmas.Option.{slice_get_within}
use Rattle.std.proofs.lemmas.Slice.Eq.{bytes_eq-Decides}
use Rattle.rhd_value.specs.Tree.{Bytes}
use Rattle.rhd_value.specs.Same.{text_eq}
use Rattle.rhd_value.specs.Firsts.{first_of}
use Rattle.rhd_module.specs.Tree.{ModuleTree}
use Rattle.rhd_call.specs.declared.pick.Layer.TheVariants.{Import, Static}
use Rattle.rhd_engine.specs.Engine.{EngineLists, Frame, Imports}
use Rattle.rhd_dispatch.specs.Picks.{named_places, root_of}
use Rattle.rhd_dispatch.specs.Searched.{Place, tree_place}
use Rattle.rhd_laws.specs.Roots.{NoneNamed, HasNoRoot, is_empty, is_unknown, IsRoot, is_import, is_static}
use Rattle.rhd_laws.proofs.Numbers.{in_front, in_back, both_lengths, one_backwards, one_onwards, either_side, from_one_backwards, from_one_onwards}
use Rattle.rhd_laws.proofs.PickPlaces.{got, IsNumbered, none_each, each_none, numbered, from_number}

-- What a named module gives for a name.

abbrev given : Bytes → Bytes × Place → Option Place
given name p = if text_eq name p.0 then Some p.1 else None

by_test : {A : Type 0} (b : Bool) (x : A) (rest : Option A) → cond b (Some x) rest ≡ option_or (if b then Some x else None) rest
by_test true x rest = refl
by_test false x rest = refl

looked_up : (name : Bytes) (ps : List (Bytes × Place)) → lookup (text_eq name) ps ≡ first_of (given name) ps
looked_up name [] = refl
looked_up name (p ∷ ps) = by_test (text_eq name p.0) p.1 (lookup (text_eq name) ps) ∙ ap (option_or (given name p)) (looked_up name ps)

same_given : (name : Bytes) (place : Place) → given name (name, place) ≡ Some place
same_given name place = ap (λ (b : Bool). if b then Some place else None) ((bytes_eq-Decides name name).1 refl)

none_some : {A : Type 0} (x : A) (o : Option A) → o ≡ None → o ≡ Some x → ⊥
none_some x o none some = let q : None ≡ Some x = sym none ∙ some in absurd cc

given_by : (name own : Bytes) (place other : Place) (b : Bool) → text_eq name own ≡ b → (if b then Some place else None) ≡ Some other → (own ≡ name) × (place ≡ other)
given_by name own place other true is h = (sym ((bytes_eq-Decides name own).0 is), got place other h)
given_by name own place other false is h = absurd cc

given_same : (name own : Bytes) (place other : Place) → given name (own, place) ≡ Some other → (own ≡ name) × (place ≡ other)
given_same name own place other h = given_by name own place other (text_eq name own) refl h

none_by : (name own : Bytes) (place : Place) (o : Option Place) → given name (own, place) ≡ o → (own ≡ name → ⊥) → o ≡ None
none_by name own place None is apart = refl
none_by name own place (Some other) is apart = absurd (apart (given_same name own place other is).0)

none_given : (name own : Bytes) (place : Place) → (own ≡ name → ⊥) → given name (own, place) ≡ None
none_given name own place apart = none_by name own place (given name (own, place)) refl apart

-- The named modules by their numbers.

abbrev import_named : EngineLists → ℕ × (Bytes × ModuleTree) → Bytes × Place
import_named e p = (p.1.0, tree_place e Import p)

abbrev static_named : EngineLists → ℕ × (Bytes × ModuleTree) → Bytes × Place
static_named e p = (p.1.0, tree_place e Static p)

abbrev imports_named : EngineLists → Imports → List (Bytes × Place)
imports_named e imports = map (import_named e) (reverse (enumerate_from 0 imports))

abbrev statics_named : EngineLists → List (Bytes × Place)
statics_named e = map (static_named e) (enumerate_from 0 e.statics)

import_at : (e : EngineLists) (imports : Imports) (n : ℕ) (name : Bytes) (m : ModuleTree) → slice_get imports n ≡ Some (name, m)
    → slice_get (named_places e imports) (length imports - 1 - n) ≡ Some (name, tree_place e Import (n, (name, m)))
import_at e imports n name m is = in_front (imports_named e imports) (statics_named e) (length imports - 1 - n) (name, tree_place e Import (n, (name, m))) (one_backwards (import_named e) imports n (name, m) is)

static_at : (e : EngineLists) (imports : Imports) (n : ℕ) (name : Bytes) (m : ModuleTree) → slice_get e.statics n ≡ Some (name, m)
    → slice_get (named_places e imports) (length imports + n) ≡ Some (name, tree_place e Static (n, (name, m)))
static_at e imports n name m is =
    ap (λ (l : ℕ). slice_get (named_places e imports) (l + n)) (sym (both_lengths (import_named e) imports)) ∙ in_back (imports_named e imports) (statics_named e) n
    ∙ one_onwards (static_named e) e.statics n (name, m) is

data NamedAt (e : EngineLists) (imports : Imports) (k : ℕ) (one : Bytes × Place) : Type 0 where
  an_import : (n : ℕ) (named : Bytes × ModuleTree) → slice_get imports n ≡ Some named → k + suc n ≡ length imports → import_named e (n, named) ≡ one → NamedAt e imports k one
  a_static : (n : ℕ) (named : Bytes × ModuleTree) → slice_get e.statics n ≡ Some named → k ≡ length imports + n → static_named e (n, named) ≡ one → NamedAt e imports k one

named_at : (e : EngineLists) (imports : Imports) (k : ℕ) (one : Bytes × Place) → slice_get (named_places e imports) k ≡ Some one → NamedAt e imports k one
named_at e imports k one is =
    let by : (slice_get (imports_named e imports) k ≡ Some one) ⊎ ((n : ℕ) × (k ≡ length (imports_named e imports) + n) × (slice_get (statics_named e) n ≡ Some one)) → NamedAt e imports k one =
    elim [
      | inl q ↦ (let r = from_one_backwards (import_named e) imports k one q in an_import r.0 r.1 r.2 r.3 r.4)
      | inr q ↦ (let r = from_one_onwards (static_named e) e.statics q.0 one q.2 in a_static q.0 r.0 r.1 (q.1 ∙ ap (λ (l : ℕ). l + q.0) (both_lengths (import_named e) imports)) r.2)
    ]
    in by (either_side (imports_named e imports) (statics_named e) k one is)

-- A path that begins at no module.

none_imported : (e : EngineLists) (f : Frame) (name : Bytes) → first_of (given name) (named_places e f.imports) ≡ None → NoneNamed name f.imports
none_imported e f name h = λ n m is.
    none_some (tree_place e Import (n, (name, m))) (given name (name, tree_place e Import (n, (name, m))))
    (none_each (given name) (named_places e f.imports) h (length f.imports - 1 - n) (name, tree_place e Import (n, (name, m))) (import_at e f.imports n name m is)) (same_given name (tree_place e Import (n, (name, m))))

none_static : (e : EngineLists) (f : Frame) (name : Bytes) → first_of (given name) (named_places e f.imports) ≡ None → NoneNamed name e.statics
none_static e f name h = λ n m is.
    none_some (tree_place e Static (n, (name, m))) (given name (name, tree_place e Static (n, (name, m))))
    (none_each (given name) (named_places e f.imports) h (length f.imports + n) (name, tree_place e Static (n, (name, m))) (static_at e f.imports n name m is)) (same_given name (tree_place e Static (n, (name, m))))

pub no_root : (e : EngineLists) (f : Frame) (path : List Bytes) → root_of e f.imports path ≡ None → HasNoRoot e f path
unfolding root_of
no_root e f [] h = is_empty refl
no_root e f (name ∷ names) h =
    let none = sym (looked_up name (named_places e f.imports)) ∙ h in
    is_unknown name names refl (none_imported e f name none) (none_static e f name none)

none_of : (e : EngineLists) (f : Frame) (name : Bytes) (k : ℕ) (one : Bytes × Place) → NoneNamed name f.imports → NoneNamed name e.statics → NamedAt e f.imports k one → given name one ≡ None
none_of e f name k one imports statics (an_import n named is number same) =
    ap (given name) (sym same) ∙ none_given name named.0 (tree_place e Import (n, named)) (λ own. imports n named.1 (is ∙ ap (λ (x : Bytes). Some (x, named.1)) own))
none_of e f name k one imports statics (a_static n named is number same) =
    ap (given name) (sym same) ∙ none_given name named.0 (tree_place e Static (n, named)) (λ own. statics n named.1 (is ∙ ap (λ (x : Bytes). Some (x, named.1)) own))

rootless : (e : EngineLists) (f : Frame) (name : Bytes) (names : List Bytes) → NoneNamed name f.imports → NoneNamed name e.statics → root_of e f.imports (name ∷ names) ≡ None
unfolding root_of
rootless e f name names imports statics =
    looked_up name (named_places e f.imports) ∙ each_none (given name) (named_places e f.imports) (λ k one is. none_of e f name k one imports statics (named_at e f.imports k one is))

empty_rootless : (e : EngineLists) (f : Frame) → root_of e f.imports [] ≡ None
unfolding root_of
empty_rootless e f = refl

pub root_none : (e : EngineLists) (f : Frame) (path : List Bytes) → HasNoRoot e f path → root_of e f.imports path ≡ None
root_none e f path (is_empty is) = ap (root_of e f.imports) is ∙ empty_rootless e f
root_none e f path (is_unknown name names is imports statics) = ap (root_of e f.imports) is ∙ rootless e f name names imports statics

-- A path that begins at a module.

abbrev IsFound : EngineLists → Frame → Bytes → Place → Type 0
IsFound e f name place = IsNumbered (given name) (named_places e f.imports) place

later_import : (e : EngineLists) (f : Frame) (name : Bytes) (place : Place) (r : IsFound e f name place) (n : ℕ) → r.number + suc n ≡ length f.imports
    → (k : ℕ) (other : ModuleTree) → n < k → slice_get f.imports k ≡ Some (name, other) → ⊥
later_import e f name place r n number k other less is =
    let within = slice_get_within f.imports k (name, other) is in
    let p : Place = tree_place e Import (k, (name, other)) in
    none_some p (given name (name, p)) (r.before (length f.imports - 1 - k) (name, p) (omega (arith, number, less, within)) (import_at e f.imports k name other is)) (same_given name p)

before_static : (e : EngineLists) (f : Frame) (name : Bytes) (place : Place) (r : IsFound e f name place) (n : ℕ) → r.number ≡ length f.imports + n → NoneNamed name f.imports
before_static e f name place r n number k other is =
    let within = slice_get_within f.imports k (name, other) is in
    let p : Place = tree_place e Import (k, (name, other)) in
    none_some p (given name (name, p)) (r.before (length f.imports - 1 - k) (name, p) (omega (arith, number, within)) (import_at e f.imports k name other is)) (same_given name p)

earlier_static : (e : EngineLists) (f : Frame) (name : Bytes) (place : Place) (r : IsFound e f name place) (n : ℕ) → r.number ≡ length f.imports + n
    → (k : ℕ) (other : ModuleTree) → k < n → slice_get e.statics k ≡ Some (name, other) → ⊥
earlier_static e f name place r n number k other less is =
    let p : Place = tree_place e Static (k, (name, other)) in
    none_some p (given name (name, p)) (r.before (length f.imports + k) (name, p) (omega (arith, number, less)) (static_at e f.imports k name other is)) (same_given name p)

root_by : (e : EngineLists) (f : Frame) (name : Bytes) (names : List Bytes) (place : Place) (r : IsFound e f name place) → NamedAt e f.imports r.number r.one → IsRoot e f (name ∷ names) place
root_by e f name names place r (an_import n named is number same) =
    let g = given_same name named.0 (tree_place e Import (n, named)) place (ap (given name) same ∙ r.gives) in
    is_import n name names named.1 refl (is ∙ ap (λ (x : Bytes). Some (x, named.1)) g.0) (later_import e f name place r n number) (sym g.1)
root_by e f name names place r (a_static n named is number same) =
    let g = given_same name named.0 (tree_place e Static (n, named)) place (ap (given name) same ∙ r.gives) in
    is_static n name names named.1 refl (before_static e f name place r n number) (is ∙ ap (λ (x : Bytes). Some (x, named.1)) g.0) (earlier_static e f name place r n number) (sym g.1)

pub root_begins : (e : EngineLists) (f : Frame) (path : List Bytes) (place : Place) → root_of e f.imports path ≡ Some place → IsRoot e f path place
unfolding root_of
root_begins e f [] place h = absurd cc
root_begins e f (name ∷ names) place h =
    let r = numbered (given name) (named_places e f.imports) place (sym (looked_up name (named_places e f.imports)) ∙ h) in
    root_by e f name names place r (named_at e f.imports r.number r.one r.stands)

-- nothing of the name stands before the latest import of it
before_import : (e : EngineLists) (f : Frame) (name : Bytes) (n : ℕ) → n < length f.imports → ((k : ℕ) (other : ModuleTree) → n < k → slice_get f.imports k ≡ Some (name, other) → ⊥)
    → (k : ℕ) (one : Bytes × Place) → k < length f.imports - 1 - n → NamedAt e f.imports k one → given name one ≡ None
before_import e f name n within none k one less (an_import i named is number same) =
    ap (given name) (sym same) ∙ none_given name named.0 (tree_place e Import (i, named)) (λ own. none i named.1 (omega (arith, number, less)) (is ∙ ap (λ (x : Bytes). Some (x, named.1)) own))
before_import e f name n within none k one less (a_static i named is number same) = absurd (omega (arith, number, less))

-- nor before the first static module of it, where no import has it
before_first : (e : EngineLists) (f : Frame) (name : Bytes) (n : ℕ) → NoneNamed name f.imports → ((k : ℕ) (other : ModuleTree) → k < n → slice_get e.statics k ≡ Some (name, other) → ⊥)
    → (k : ℕ) (one : Bytes × Place) → k < length f.imports + n → NamedAt e f.imports k one → given name one ≡ None
before_first e f name n imports none k one less (an_import i named is number same) =
    ap (given name) (sym same) ∙ none_given name named.0 (tree_place e Import (i, named)) (λ own. imports i named.1 (is ∙ ap (λ (x : Bytes). Some (x, named.1)) own))
before_first e f name n imports none k one less (a_static i named is number same) =
    ap (given name) (sym same) ∙ none_given name named.0 (tree_place e Static (i, named)) (λ own. none i named.1 (omega (arith, number, less)) (is ∙ ap (λ (x : Bytes). Some (x, named.1)) own))

import_found : (e : EngineLists) (f : Frame) (n : ℕ) (name : Bytes) (names : List Bytes) (m : ModuleTree) → slice_get f.imports n ≡ Some (name, m) → ((k : ℕ) (other : ModuleTree) → n < k → slice_get f.imports k ≡ Some (name, other) → ⊥)
    → root_of e f.imports (name ∷ names) ≡ Some (tree_place e Import (n, (name, m)))
unfolding root_of
import_found e f n name names m is none =
    let p : Place = tree_place e Import (n, (name, m)) in
    looked_up name (named_places e f.imports)
    ∙ from_number (given name) (named_places e f.imports) p (length f.imports - 1 - n) (name, p) (import_at e f.imports n name m is) (same_given name p)
    (λ k one less at. before_import e f name n (slice_get_within f.imports n (name, m) is) none k one less (named_at e f.imports k one at))

static_found : (e : EngineLists) (f : Frame) (n : ℕ) (name : Bytes) (names : List Bytes) (m : ModuleTree) → NoneNamed name f.imports → slice_get e.statics n ≡ Some (name, m)
    → ((k : ℕ) (other : ModuleTree) → k < n → slice_get e.statics k ≡ Some (name, other) → ⊥)
    → root_of e f.imports (name ∷ names) ≡ Some (tree_place e Static (n, (name, m)))
unfolding root_of
static_found e f n name names m imports is none =
    let p : Place = tree_place e Static (n, (name, m)) in
    looked_up name (named_places e f.imports)
    ∙ from_number (given name) (named_places e f.imports) p (length f.imports + n) (name, p) (static_at e f.imports n name m is) (same_given name p)
    (λ k one less at. before_first e f name n imports none k one less (named_at e f.imports k one at))

begins_root : (e : EngineLists) (f : Frame) (path : List Bytes) (place : Place) → IsRoot e f path place → root_of e f.imports path ≡ Some place
begins_root e f path place (is_import n name names m is stands none same) = ap (root_of e f.imports) is ∙ import_found e f n name names m stands none ∙ ap Some (sym same)
begins_root e f path place (is_static n name names m is imports stands none same) = ap (root_of e f.imports) is ∙ static_found e f n name names m imports stands none ∙ ap Some (sym same)

pub root_exactly : (e : EngineLists) (f : Frame) (path : List Bytes) (place : Place) → (root_of e f.imports path ≡ Some place) ↔ IsRoot e f path place
root_exactly e f path place = (root_begins e f path place, begins_root e f path place)

pub rootless_exactly : (e : EngineLists) (f : Frame) (path : List Bytes) → (root_of e f.imports path ≡ None) ↔ HasNoRoot e f path
rootless_exactly e f path = (no_root e f path, root_none e f path)
