-- The module in which a path begins, and what it has for a call.
use Rattle.std.proofs.Common.{◌≡◌, ℕ, ◌+◌, ◌||◌, Bool, true, false, cond, List, [], ◌∷◌, ◌++◌, length, map, refl, sym, ap, ◌∙◌}
use Rattle.std.specs.Prelude.{Option, None, Some, is_some, if◌then◌else◌}
use Rattle.std.specs.List.{enumerate_from}
use Rattle.std.specs.Map.{lookup}
use Rattle.std.specs.Option.{option_or, option_and_then}
use Rattle.std.proofs.lemmas.List.{length-map}
use Rattle.rhd_value.specs.Tree.{Bytes}
use Rattle.rhd_value.specs.Firsts.{first_of}
use Rattle.rhd_value.specs.Kinds.{tag_of}
use Rattle.rhd_value.specs.Same.{text_eq}
use Rattle.rhd_value.specs.declared.tag.TypeTag.{TypeTag}
use Rattle.rhd_func.specs.declared.request.CallShape.{CallShape}
use Rattle.rhd_func.specs.Shapes.{all_args}
use Rattle.rhd_hash.specs.declared.key.Key.{Key}
use Rattle.rhd_hash.specs.declared.key.Key.TheVariants.{Script, Native}
use Rattle.rhd_module.specs.Tree.{ModuleTree}
use Rattle.rhd_call.specs.declared.pick.Layer.{Layer}
use Rattle.rhd_call.specs.declared.pick.Layer.TheVariants.{Import, Static}
use Rattle.rhd_call.specs.declared.pick.Pick.{Pick}
use Rattle.rhd_engine.specs.Engine.{EngineLists, Imports}
use Rattle.rhd_dispatch.specs.Patterns.{patterns}
use Rattle.rhd_dispatch.specs.Picks.{named_places, root_of, after_root, pick_in, AskedBelow, script_below, native_below, asks_below, qualified_asks, looked_in, pick_qualified}
use Rattle.rhd_dispatch.specs.Asks.{script, native}
use Rattle.rhd_dispatch.specs.Searched.{Place, pick_at}
use Rattle.rhd_dispatch.specs.Walks.{numbered, latest, place_of_tree, named_at, first_typed, pick_below}

-- of named things, the first of a name
named_first : (layer : ℕ → Layer) (name : Bytes) (xs : List (ℕ × (Bytes × ModuleTree))) → lookup (text_eq name) (map (λ p. (p.1.0, place_of_tree layer p)) xs) ≡ first_of (named_at layer name) xs
named_first layer name [] = refl
named_first layer name (x ∷ xs) =
    let by : (b : Bool) → cond b (Some (place_of_tree layer x)) (lookup (text_eq name) (map (λ p. (p.1.0, place_of_tree layer p)) xs)) ≡ option_or (if b then Some (place_of_tree layer x) else None) (first_of (named_at layer name) xs) =
    elim [ true ↦ refl | false ↦ named_first layer name xs ]
    in by (text_eq name x.1.0)

in_both : (name : Bytes) (xs ys : List (Bytes × Place)) → lookup (text_eq name) (xs ++ ys) ≡ option_or (lookup (text_eq name) xs) (lookup (text_eq name) ys)
in_both name [] ys = refl
in_both name (x ∷ xs) ys =
    let by : (b : Bool) → cond b (Some x.1) (lookup (text_eq name) (xs ++ ys)) ≡ option_or (cond b (Some x.1) (lookup (text_eq name) xs)) (lookup (text_eq name) ys) = elim [ true ↦ refl | false ↦ in_both name xs ys ]
    in by (text_eq name x.0)

two_parts : (e : EngineLists) (imports : Imports) (name : Bytes) → lookup (text_eq name) (named_places e imports) ≡ option_or (first_of (named_at Import name) (latest imports)) (first_of (named_at Static name) (numbered e.statics))
two_parts e imports name =
    in_both name (map (λ p. (p.1.0, place_of_tree Import p)) (latest imports)) (map (λ p. (p.1.0, place_of_tree Static p)) (numbered e.statics))
    ∙ (λ i. option_or (named_first Import name (latest imports) i) (named_first Static name (numbered e.statics) i))

or_here : {A : Type 0} (a b : Option A) → is_some a ≡ true → a ≡ option_or a b
or_here None b e = absurd cc
or_here (Some x) b e = refl

pub import_is_root : (e : EngineLists) (imports same : Imports) (name : Bytes) (o : Option Place) → same ≡ imports → o ≡ first_of (named_at Import name) (latest same) → is_some o ≡ true → o ≡ lookup (text_eq name) (named_places e imports)
import_is_root e imports same name o l is some =
    or_here o (first_of (named_at Static name) (numbered e.statics)) some
    ∙ ap (λ (a : Option Place). option_or a (first_of (named_at Static name) (numbered e.statics))) (is ∙ ap (λ (es : Imports). first_of (named_at Import name) (latest es)) l) ∙ sym (two_parts e imports name)

pub static_is_root : (e : EngineLists) (imports same statics : Imports) (name : Bytes) (o last : Option Place) → same ≡ imports → statics ≡ e.statics → o ≡ first_of (named_at Import name) (latest same) → o ≡ None
    → last ≡ first_of (named_at Static name) (numbered statics) → last ≡ lookup (text_eq name) (named_places e imports)
static_is_root e imports same statics name o last l s is none h =
    h ∙ ap (λ (es : Imports). first_of (named_at Static name) (numbered es)) s
    ∙ sym (two_parts e imports name ∙ ap (λ (a : Option Place). option_or a (first_of (named_at Static name) (numbered e.statics))) (ap (λ (es : Imports). first_of (named_at Import name) (latest es)) (sym l) ∙ sym is ∙ none))

-- whether there is a module of a name
or_some : {A B : Type 0} (a b : Option A) (c : Option B) → is_some b ≡ is_some c → is_some (option_or a b) ≡ (is_some a || is_some c)
or_some None b c e = e
or_some (Some x) b c e = refl

static_there : (name : Bytes) (n : ℕ) (xs : Imports) → is_some (first_of (named_at Static name) (enumerate_from n xs)) ≡ is_some (lookup (text_eq name) xs)
static_there name n [] = refl
static_there name n (x ∷ xs) =
    let by : (b : Bool) → is_some (option_or (if b then Some (place_of_tree Static (n, x)) else None) (first_of (named_at Static name) (enumerate_from (n + 1) xs))) ≡ is_some (cond b (Some x.1) (lookup (text_eq name) xs)) =
    elim [ true ↦ refl | false ↦ static_there name (n + 1) xs ]
    in by (text_eq name x.0)

pub some_named : (e : EngineLists) (imports same statics : Imports) (name : Bytes) (o : Option Place) (static : Option ModuleTree) → same ≡ imports → statics ≡ e.statics → o ≡ first_of (named_at Import name) (latest same) → static ≡ lookup (text_eq name) statics
    → is_some (lookup (text_eq name) (named_places e imports)) ≡ (is_some o || is_some static)
some_named e imports same statics name o static l s is there =
    ap is_some (two_parts e imports name)
    ∙ or_some (first_of (named_at Import name) (latest imports)) (first_of (named_at Static name) (numbered e.statics)) static (static_there name 0 e.statics ∙ ap is_some (ap (lookup (text_eq name)) (sym s) ∙ sym there))
    ∙ ap (λ (a : Option Place). is_some a || is_some static) (ap (λ (es : Imports). first_of (named_at Import name) (latest es)) (sym l) ∙ sym is)

pub named_hit : (layer : ℕ → Layer) (name : Bytes) (y : ℕ × (Bytes × ModuleTree)) (place : Place) → text_eq name y.1.0 ≡ true → place ≡ place_of_tree layer y → ◌≡◌ {A = Option Place} (Some place) (named_at layer name y)
named_hit layer name y place e is = ap (λ (p : Place). Some p) is ∙ ap (λ (b : Bool). if b then Some (place_of_tree layer y) else None) (sym e)

pub named_miss : (layer : ℕ → Layer) (name : Bytes) (y : ℕ × (Bytes × ModuleTree)) → text_eq name y.1.0 ≡ false → named_at layer name y ≡ None
named_miss layer name y e = ap (λ (b : Bool). if b then Some (place_of_tree layer y) else None) e

-- What the module has: a script, or else a native.

pub below_script : (q : AskedBelow) (place : Place) (key : Key) (o : Option Pick) → key ≡ script_below q → o ≡ pick_at key place → is_some o ≡ true → o ≡ pick_below q place
below_script q place key o k is some = or_here o (first_of (λ types. pick_at (Native (Some q.path) q.name types) place) (patterns q.kinds)) some ∙ ap (λ (x : Option Pick). option_or x (first_of (λ types. pick_at (Native (Some q.path) q.name types) place) (patterns q.kinds))) (is ∙ ap (λ (k : Key). pick_at k place) k)

pub below_native : (q : AskedBelow) (place : Place) (key second : Key) (o last : Option Pick) → key ≡ script_below q → second ≡ native_below q → o ≡ pick_at key place → o ≡ None → last ≡ first_typed (λ k. pick_at k place) second 0 → last ≡ pick_below q place
below_native q place key second o last k n is none h =
    h ∙ ap (λ (k : Key). first_typed (λ k. pick_at k place) k 0) n
    ∙ sym (ap (λ (x : Option Pick). option_or x (first_of (λ types. pick_at (Native (Some q.path) q.name types) place) (patterns q.kinds))) (ap (λ (k : Key). pick_at k place) (sym k) ∙ sym is ∙ none))

-- what the module has is the first question that is answered
or_none : {A : Type 0} (o : Option A) → option_or o None ≡ o
or_none None = refl
or_none (Some x) = refl

pub by_asks : (path : List Bytes) (name : Bytes) (shape : CallShape) (root : Option Place) → option_and_then (pick_in path name shape) root ≡ first_of (looked_in path root) (qualified_asks name shape)
by_asks path name shape None = refl
by_asks path name shape (Some root) =
    sym (ap (option_or (pick_at (Script (Some (after_root path)) name (length (all_args shape))) root)) (or_none (first_of (λ types. pick_at (Native (Some (after_root path)) name types) root) (patterns (map tag_of (all_args shape))))))

-- those of a call
pub call_asks : (e : EngineLists) (imports : Imports) (path asked_path looked_path : List Bytes) (name : Bytes) (shape : CallShape) (q : AskedBelow) (kinds asked_kinds : List TypeTag) (o : Option Pick) → asked_path ≡ path → looked_path ≡ path → asked_kinds ≡ kinds
    → q ≡ record { path = after_root asked_path; name = name; kinds = asked_kinds } → kinds ≡ map tag_of (all_args shape) → o ≡ first_of (looked_in looked_path (root_of e imports looked_path)) (asks_below q) → o ≡ pick_qualified e imports path name shape
call_asks e imports path asked_path looked_path name shape q kinds asked_kinds o a l s is k h =
    let root = root_of e imports path in
    let own = s ∙ k in
    h ∙ ap (λ (names : List Bytes). first_of (looked_in names (root_of e imports names)) (asks_below q)) l ∙ ap (λ (q : AskedBelow). first_of (looked_in path root) (asks_below q)) is
    ∙ (λ i. first_of (looked_in path root) (script name ((ap length own ∙ length-map (all_args shape) tag_of) i) ∷ native name (own i) None ∷ []))
