-- The native of a function that is picked is held.
use Rattle.std.proofs.Common.{◌≡◌, ℕ, ◌+◌, Bool, true, false, cond, ◌&&◌, List, [], ◌∷◌, ◌++◌, length, map, refl, sym, ap, ◌∙◌, inl, inr}
use Rattle.std.specs.Prelude.{Option, Some, None, IfSome, reverse, option_map}
use Rattle.std.specs.List.{list_all, enumerate_from}
use Rattle.std.specs.Map.{lookup}
use Rattle.std.specs.Option.{option_and_then}
use Rattle.std.proofs.lemmas.List.{reverse-append, append-nil}
use Rattle.std.proofs.lemmas.List.Folds.{list_all-append}
use Rattle.rhd_value.specs.Tree.{Bytes}
use Rattle.rhd_value.specs.Firsts.{first_of}
use Rattle.rhd_value.specs.Kinds.{tag_of}
use Rattle.rhd_value.specs.declared.tag.FnId.{FnId}
use Rattle.rhd_value.specs.declared.tag.TypeTag.{TypeTag}
use Rattle.rhd_names.specs.declared.token.OpToken.{OpToken}
use Rattle.rhd_func.specs.declared.request.CallShape.{CallShape}
use Rattle.rhd_func.specs.Shapes.{all_args}
use Rattle.rhd_hash.specs.declared.key.Key.{Key}
use Rattle.rhd_hash.specs.declared.key.Key.TheVariants as keys
use Rattle.rhd_decl.specs.declared.declaration.Declaration.{Declaration}
use Rattle.rhd_hash.specs.Keys.{key_eq}
use Rattle.rhd_module.specs.Shown.{shown}
use Rattle.rhd_module.specs.Tree.{ModuleTree}
use Rattle.rhd_call.specs.declared.pick.Layer.{Layer}
use Rattle.rhd_call.specs.declared.pick.Layer.TheVariants.{Library, Global, Import, Static}
use Rattle.rhd_call.specs.declared.pick.Pick.{Pick}
use Rattle.rhd_engine.specs.Engine.{EngineLists, Imports}
use Rattle.rhd_engine.specs.declared.builtins.Operator.{Operator}
use Rattle.rhd_engine.specs.Held.{func_held, own_held, below_held, names_held, all_held, named_held, builtins_held}
use Rattle.rhd_engine.specs.Operators.{operator_eq}
use Rattle.rhd_layers.proofs.Bools.{parts}
use Rattle.rhd_engine.proofs.HeldLaws.{found_held, shown_held}
use Rattle.rhd_engine.proofs.HeldTrees.{looked_up_held}
use Rattle.rhd_engine.proofs.Tables.{table_held}
use Rattle.rhd_module.specs.Walk.{tree}
use Rattle.rhd_dispatch.specs.Searched.{Place, pick_at, found, own_place, tree_place, global_modules, import_places, static_modules}
use Rattle.rhd_dispatch.specs.Picks.{root_of, after_root, pick_in, pick_qualified}
use Rattle.rhd_dispatch.proofs.Roots.{by_asks}
use Rattle.rhd_value.specs.Same.{text_eq}
use Rattle.rhd_dispatch.specs.Patterns.{patterns}
use Rattle.rhd_dispatch.specs.Asks.{Asked, typed, script, native, looked, asks, native_found, builtin, builtin_pick, pick_unqualified}
use Rattle.rhd_dispatch.proofs.Firsts.{or_some}

-- numbered things, each of which names held natives
abbrev numbered_held : {A : Type 0} → (A → Bool) → List (ℕ × A) → Bool
numbered_held held ys = list_all (λ y. held y.1) ys

enumerated : {A : Type 0} (held : A → Bool) (k : ℕ) (ms : List A) → numbered_held held (enumerate_from k ms) ≡ list_all held ms
enumerated held k [] = refl
enumerated held k (m ∷ ms) = ap (λ (b : Bool). held m && b) (enumerated held (k + 1) ms)

commutes : (a b : Bool) → (b && (a && true)) ≡ (a && b)
commutes true true = refl
commutes true false = refl
commutes false true = refl
commutes false false = refl

reversed : {A : Type 0} (held : A → Bool) (ys : List (ℕ × A)) → numbered_held held (reverse ys) ≡ numbered_held held ys
reversed held [] = refl
reversed {A} held (y ∷ ys) =
    ap (numbered_held held) (reverse-append (y ∷ []) ys) ∙ list_all-append (λ (z : ℕ × A). held z.1) (reverse ys) (y ∷ [])
    ∙ ap (λ (b : Bool). b && (held y.1 && true)) (reversed held ys) ∙ commutes (held y.1) (numbered_held held ys)

pick_held : (n : ℕ) (layer : Layer) (source : Option Bytes) (o : Option Declaration) (pick : Pick) → ((d : Declaration) → o ≡ Some d → func_held n d.func ≡ true)
    → option_map (λ d. record { layer = layer; func = d.func; source = source }) o ≡ Some pick → func_held n pick.func ≡ true
pick_held n layer source None pick h e = absurd cc
pick_held n layer source (Some d) pick h e = let same : record { layer = layer; func = d.func; source = source } ≡ pick = cc in ap (λ (p : Pick). func_held n p.func) (sym same) ∙ h d refl

-- all that a place has is held
abbrev PlaceHeld : ℕ → Place → Type 0
PlaceHeld n place = (key : Key) (pick : Pick) → pick_at key place ≡ Some pick → func_held n pick.func ≡ true

own_place_held : (n : ℕ) (e : EngineLists) (layer : ℕ → Layer) (i : ℕ) (m : ModuleTree) → names_held n m ≡ true → PlaceHeld n (own_place e layer (i, m))
unfolding pick_at
own_place_held n e layer i m all key pick is =
    pick_held n (layer i) m.own.id (lookup (key_eq key) (shown m.own)) pick (λ d h. found_held n key (shown m.own) d (shown_held n m.own (parts (own_held n m.own) (below_held n m.subs) all).0) h) is

tree_place_held : (n : ℕ) (e : EngineLists) (layer : ℕ → Layer) (i : ℕ) (named : Bytes × ModuleTree) → names_held n named.1 ≡ true → PlaceHeld n (tree_place e layer (i, named))
unfolding pick_at
tree_place_held n e layer i named all key pick is = pick_held n (layer i) named.1.own.id (lookup (key_eq key) (tree named.1)) pick (λ d h. looked_up_held n named.1 key d all h) is

first_held : {A : Type 0} (n : ℕ) (place : ℕ × A → Place) (held : A → Bool) (key : Key) (pick : Pick) (ys : List (ℕ × A)) (more : List Place) → ((i : ℕ) (a : A) → held a ≡ true → PlaceHeld n (place (i, a))) → numbered_held held ys ≡ true
    → (first_of (pick_at key) more ≡ Some pick → func_held n pick.func ≡ true)
    → first_of (pick_at key) (map place ys ++ more) ≡ Some pick → func_held n pick.func ≡ true
first_held n place held key pick [] more each all rest e = rest e
first_held n place held key pick ((i, a) ∷ ys) more each all rest e =
    let own = parts (held a) (numbered_held held ys) all in
    elim (or_some (pick_at key (place (i, a))) (first_of (pick_at key) (map place ys ++ more)) pick e) [
      | inl here ↦ each i a own.0 key pick here
      | inr there ↦ first_held n place held key pick ys more each own.1 rest there
    ]

none_held : (n : ℕ) (key : Key) (pick : Pick) → first_of (pick_at key) [] ≡ Some pick → func_held n pick.func ≡ true
none_held n key pick e = absurd cc

-- what a key finds is held
pub found_is_held : (n : ℕ) (e : EngineLists) (libs : List ModuleTree) (imports : Imports) (key : Key) (pick : Pick) → all_held n e.globals ≡ true → named_held n e.statics ≡ true → all_held n libs ≡ true → named_held n imports ≡ true
    → found e libs imports key ≡ Some pick → func_held n pick.func ≡ true
unfolding found
found_is_held n e libs imports key pick globals statics held named is =
    let held_named : Bytes × ModuleTree → Bool = λ p. names_held n p.1 in
    first_held n (own_place e Library) (names_held n) key pick (reverse (enumerate_from 0 libs)) (global_modules e ++ (import_places e imports ++ static_modules e)) (own_place_held n e Library) (reversed (names_held n) (enumerate_from 0 libs) ∙ enumerated (names_held n) 0 libs ∙ held)
    (λ r. first_held n (own_place e Global) (names_held n) key pick (enumerate_from 0 e.globals) (import_places e imports ++ static_modules e) (own_place_held n e Global) (enumerated (names_held n) 0 e.globals ∙ globals)
    (λ s. first_held n (tree_place e Import) held_named key pick (reverse (enumerate_from 0 imports)) (static_modules e) (tree_place_held n e Import) (reversed held_named (enumerate_from 0 imports) ∙ enumerated held_named 0 imports ∙ named)
    (λ t. first_held n (tree_place e Static) held_named key pick (enumerate_from 0 e.statics) [] (tree_place_held n e Static) (enumerated held_named 0 e.statics ∙ statics) (none_held n key pick)
    (ap (first_of (pick_at key)) (append-nil (static_modules e)) ∙ t)) s) r) is

builtin_by : (n : ℕ) (e : EngineLists) (o : Operator) (pick : Pick) (id : Option FnId) → builtins_held n e.builtins ≡ true → lookup (operator_eq o) e.builtins ≡ id → option_map (builtin_pick e o.token) id ≡ Some pick → func_held n pick.func ≡ true
builtin_by n e o pick None all is h = absurd cc
builtin_by n e o pick (Some id) all is h = let same : builtin_pick e o.token id ≡ pick = cc in ap (λ (p : Pick). func_held n p.func) (sym same) ∙ table_held n o e.builtins id all is

builtin_is_held : (n : ℕ) (e : EngineLists) (token : Option OpToken) (kinds : List TypeTag) (pick : Pick) → builtins_held n e.builtins ≡ true → builtin e token kinds ≡ Some pick → func_held n pick.func ≡ true
builtin_is_held n e None kinds pick all h = absurd cc
builtin_is_held n e (Some token) [] pick all h = absurd cc
builtin_is_held n e (Some token) (a ∷ []) pick all h = absurd cc
builtin_is_held n e (Some token) (a ∷ b ∷ []) pick all h = builtin_by n e (record { token = token; left = a; right = b }) pick (lookup (operator_eq (record { token = token; left = a; right = b })) e.builtins) all refl h
builtin_is_held n e (Some token) (a ∷ b ∷ c ∷ more) pick all h = absurd cc

pattern_is_held : (n : ℕ) (e : EngineLists) (libs : List ModuleTree) (imports : Imports) (name : Bytes) (pick : Pick) (ps : List (List TypeTag)) → all_held n e.globals ≡ true → named_held n e.statics ≡ true → all_held n libs ≡ true → named_held n imports ≡ true → first_of (native_found e libs imports name) ps ≡ Some pick → func_held n pick.func ≡ true
pattern_is_held n e libs imports name pick [] globals statics held named is = absurd cc
pattern_is_held n e libs imports name pick (p ∷ ps) globals statics held named is = elim (or_some (native_found e libs imports name p) (first_of (native_found e libs imports name) ps) pick is) [
  | inl here ↦ found_is_held n e libs imports (keys.Native None name p) pick globals statics held named here
  | inr there ↦ pattern_is_held n e libs imports name pick ps globals statics held named there
]

-- an ask that is found is held
ask_is_held : (n : ℕ) (e : EngineLists) (libs : List ModuleTree) (imports : Imports) (pick : Pick) (ask : Asked) → all_held n e.globals ≡ true → named_held n e.statics ≡ true → all_held n libs ≡ true → named_held n imports ≡ true → builtins_held n e.builtins ≡ true → looked e libs imports ask ≡ Some pick → func_held n pick.func ≡ true
ask_is_held n e libs imports pick (typed name params this_type) globals statics held named bs is = found_is_held n e libs imports (keys.Typed None name params this_type) pick globals statics held named is
ask_is_held n e libs imports pick (script name params) globals statics held named bs is = found_is_held n e libs imports (keys.Script None name params) pick globals statics held named is
ask_is_held n e libs imports pick (native name kinds token) globals statics held named bs is = elim (or_some (first_of (native_found e libs imports name) (patterns kinds)) (builtin e token kinds) pick is) [
  | inl declared ↦ pattern_is_held n e libs imports name pick (patterns kinds) globals statics held named declared
  | inr built ↦ builtin_is_held n e token kinds pick bs built
]

first_is_held : (n : ℕ) (e : EngineLists) (libs : List ModuleTree) (imports : Imports) (pick : Pick) (asks : List Asked) → all_held n e.globals ≡ true → named_held n e.statics ≡ true → all_held n libs ≡ true → named_held n imports ≡ true → builtins_held n e.builtins ≡ true → first_of (looked e libs imports) asks ≡ Some pick → func_held n pick.func ≡ true
first_is_held n e libs imports pick [] globals statics held named bs is = absurd cc
first_is_held n e libs imports pick (ask ∷ asks) globals statics held named bs is = elim (or_some (looked e libs imports ask) (first_of (looked e libs imports) asks) pick is) [
  | inl here ↦ ask_is_held n e libs imports pick ask globals statics held named bs here
  | inr there ↦ first_is_held n e libs imports pick asks globals statics held named bs there
]

-- what answers a question is held
pub answer_is_held : (n : ℕ) (e : EngineLists) (libs : List ModuleTree) (imports : Imports) (ask : Asked) (o : Option Pick) → all_held n e.globals ≡ true → named_held n e.statics ≡ true → all_held n libs ≡ true → named_held n imports ≡ true → builtins_held n e.builtins ≡ true
    → o ≡ looked e libs imports ask → IfSome o (λ p. func_held n p.func ≡ true)
answer_is_held n e libs imports ask None globals statics held named bs is = tt
answer_is_held n e libs imports ask (Some pick) globals statics held named bs is = ask_is_held n e libs imports pick ask globals statics held named bs (sym is)

-- a pick is held
pub pick_is_held : (n : ℕ) (e : EngineLists) (libs : List ModuleTree) (imports : Imports) (name : Bytes) (token : Option OpToken) (native_only : Bool) (shape : CallShape) (o : Option Pick) → all_held n e.globals ≡ true → named_held n e.statics ≡ true → all_held n libs ≡ true → named_held n imports ≡ true → builtins_held n e.builtins ≡ true
    → o ≡ pick_unqualified e libs imports name token native_only shape → IfSome o (λ p. func_held n p.func ≡ true)
pick_is_held n e libs imports name token native_only shape None globals statics held named bs is = tt
pick_is_held n e libs imports name token native_only shape (Some pick) globals statics held named bs is = first_is_held n e libs imports pick (asks e name token native_only shape) globals statics held named bs (sym is)

-- Qualified calls.

root_step : (n : ℕ) (name : Bytes) (p : Bytes × Place) (ps : List (Bytes × Place)) (place : Place) (same : Bool) → PlaceHeld n p.1 → (lookup (text_eq name) ps ≡ Some place → PlaceHeld n place)
    → cond same (Some p.1) (lookup (text_eq name) ps) ≡ Some place → PlaceHeld n place
root_step n name p ps place true here ih is key pick e = let q : p.1 ≡ place = cc in here key pick (ap (pick_at key) q ∙ e)
root_step n name p ps place false here ih is key pick e = ih is key pick e

named_root : (n : ℕ) (e : EngineLists) (layer : ℕ → Layer) (name : Bytes) (ys : List (ℕ × (Bytes × ModuleTree))) (more : List (Bytes × Place)) (place : Place) → numbered_held (λ p. names_held n p.1) ys ≡ true
    → (lookup (text_eq name) more ≡ Some place → PlaceHeld n place) → lookup (text_eq name) (map (λ p. (p.1.0, tree_place e layer p)) ys ++ more) ≡ Some place → PlaceHeld n place
named_root n e layer name [] more place all rest is = rest is
named_root n e layer name (y ∷ ys) more place all rest is =
    let own = parts (names_held n y.1.1) (numbered_held (λ p. names_held n p.1) ys) all in
    root_step n name (y.1.0, tree_place e layer y) (map (λ p. (p.1.0, tree_place e layer p)) ys ++ more) place (text_eq name y.1.0) (tree_place_held n e layer y.0 y.1 own.0) (named_root n e layer name ys more place own.1 rest) is

nowhere : (n : ℕ) (name : Bytes) (place : Place) → lookup (text_eq name) [] ≡ Some place → PlaceHeld n place
nowhere n name place is = absurd cc

root_held : (n : ℕ) (e : EngineLists) (imports : Imports) (path : List Bytes) (place : Place) → named_held n e.statics ≡ true → named_held n imports ≡ true → root_of e imports path ≡ Some place → PlaceHeld n place
unfolding root_of
root_held n e imports [] place statics named is = absurd cc
root_held n e imports (name ∷ names) place statics named is =
    let held : Bytes × ModuleTree → Bool = λ p. names_held n p.1 in
    named_root n e Import name (reverse (enumerate_from 0 imports)) (map (λ p. (p.1.0, tree_place e Static p)) (enumerate_from 0 e.statics)) place (reversed held (enumerate_from 0 imports) ∙ enumerated held 0 imports ∙ named)
    (λ r. named_root n e Static name (enumerate_from 0 e.statics) [] place (enumerated held 0 e.statics ∙ statics) (nowhere n name place) (ap (lookup (text_eq name)) (append-nil (map (λ p. (p.1.0, tree_place e Static p)) (enumerate_from 0 e.statics))) ∙ r)) is

pattern_in_held : (n : ℕ) (path : List Bytes) (name : Bytes) (root : Place) (pick : Pick) (ps : List (List TypeTag)) → PlaceHeld n root
    → first_of (λ types. pick_at (keys.Native (Some (after_root path)) name types) root) ps ≡ Some pick → func_held n pick.func ≡ true
pattern_in_held n path name root pick [] held is = absurd cc
pattern_in_held n path name root pick (p ∷ ps) held is =
    elim (or_some (pick_at (keys.Native (Some (after_root path)) name p) root) (first_of (λ types. pick_at (keys.Native (Some (after_root path)) name types) root) ps) pick is) [
      | inl here ↦ held (keys.Native (Some (after_root path)) name p) pick here
      | inr there ↦ pattern_in_held n path name root pick ps held there
    ]

pick_in_held : (n : ℕ) (path : List Bytes) (name : Bytes) (shape : CallShape) (root : Option Place) (pick : Pick) → ((place : Place) → root ≡ Some place → PlaceHeld n place) → option_and_then (pick_in path name shape) root ≡ Some pick → func_held n pick.func ≡ true
pick_in_held n path name shape None pick held is = absurd cc
pick_in_held n path name shape (Some root) pick held is =
    let script = keys.Script (Some (after_root path)) name (length (all_args shape)) in
    let ps = patterns (map tag_of (all_args shape)) in
    elim (or_some (pick_at script root) (first_of (λ types. pick_at (keys.Native (Some (after_root path)) name types) root) ps) pick is) [
      | inl here ↦ held root refl script pick here
      | inr there ↦ pattern_in_held n path name root pick ps (held root refl) there
    ]

-- a pick of a qualified call is held
pub qualified_is_held : (n : ℕ) (e : EngineLists) (imports : Imports) (path : List Bytes) (name : Bytes) (shape : CallShape) (o : Option Pick) → named_held n e.statics ≡ true → named_held n imports ≡ true
    → o ≡ pick_qualified e imports path name shape → IfSome o (λ p. func_held n p.func ≡ true)
qualified_is_held n e imports path name shape None statics named is = tt
qualified_is_held n e imports path name shape (Some pick) statics named is = pick_in_held n path name shape (root_of e imports path) pick (λ place h. root_held n e imports path place statics named h) (by_asks path name shape (root_of e imports path) ∙ sym is)
