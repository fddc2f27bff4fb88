-- Where no module may have a native, none is found.
use Rattle.std.proofs.Common.{◌≡◌, ℕ, ◌+◌, Bool, true, false, not, cond, is_none, ◌&&◌, ◌||◌, ◌==◌, List, [], ◌∷◌, length, refl, sym, ap, ◌∙◌, eq-eqb, true≢false}
use Rattle.std.specs.Prelude.{suc, ◌-◌, if◌then◌else◌, Option, Some, None, option_map}
use Rattle.std.specs.List.{list_any, list_all, enumerate_from}
use Rattle.std.specs.Map.{lookup}
use Rattle.std.specs.Option.{option_or}
use Rattle.std.proofs.lemmas.Slice.Eq.{bytes_eq-Decides}
use Rattle.rhd_value.specs.Tree.{Bytes}
use Rattle.rhd_value.specs.Firsts.{first_of}
use Rattle.rhd_value.specs.Same.{text_eq}
use Rattle.rhd_value.specs.declared.tag.TypeTag.{TypeTag}
use Rattle.rhd_hash.specs.declared.key.Key.{Key}
use Rattle.rhd_hash.specs.declared.key.Key.TheVariants.{Script, Typed, Native}
use Rattle.rhd_decl.specs.declared.declaration.Declaration.{Declaration}
use Rattle.rhd_hash.specs.Keys.{key_eq, key_eq-Decides, key_name, key_params, key_types, is_script_key}
use Rattle.rhd_hash.specs.declared.mixer.Seeds.{Seeds}
use Rattle.rhd_hash.specs.Filter.{slot}
use Rattle.rhd_hash.specs.Parts.{untyped}
use Rattle.rhd_hash.specs.Matching.{types_match, key_matches}
use Rattle.rhd_manifest.specs.Entry.{Entry, entry_key, entry_decl}
use Rattle.rhd_manifest.specs.Rank.{find_entry}
use Rattle.rhd_module.proofs.Absent.{absent_qualified}
use Rattle.rhd_module.proofs.Listed.{shown_past, none_dynamic}
use Rattle.rhd_table.specs.Marks.{may_be_dynamic, lists_dynamic}
use Rattle.rhd_table.specs.NativeIndex.{dynamic_matches}
use Rattle.rhd_module.specs.Below.{some_below, declares_dynamic}
use Rattle.rhd_module.specs.Matching.{may_match}
use Rattle.rhd_module.specs.Shown.{shown, own_decl}
use Rattle.rhd_module.specs.Tree.{ModuleTree}
use Rattle.rhd_table.specs.Pairs.{Pairs}
use Rattle.rhd_call.specs.declared.pick.Layer.{Layer}
use Rattle.rhd_call.specs.declared.pick.Layer.TheVariants.{Library, Global, Import, Static}
use Rattle.rhd_call.specs.declared.pick.Pick.{Pick}
use Rattle.rhd_engine.specs.Engine.{EngineLists, Imports}
use Rattle.rhd_layers.specs.Lists.{all_indexed}
use Rattle.rhd_layers.specs.Marks.{lacks, lacks_dynamic}
use Rattle.rhd_layers.proofs.Bools.{both, parts}
use Rattle.rhd_names.specs.declared.token.OpToken.{OpToken}
use Rattle.rhd_dispatch.specs.Asks.{Asked, typed, script, native, asked_of, key_of, native_found, declared, builtin, looked}
use Rattle.rhd_dispatch.specs.Looks.{keys_of}
use Rattle.rhd_dispatch.specs.Patterns.{patterns}
use Rattle.rhd_dispatch.specs.Searched.{pick_at, found}
use Rattle.rhd_dispatch.specs.Walks.{with_types, rooted, place_of_tree, found_in, first_typed, any_dynamic, may_have, any_may_have, may_list, may_show, any_may_show, in_tree, ShowsNone}
use Rattle.rhd_dispatch.proofs.Firsts.{or_nones, none_reverse}
use Rattle.rhd_dispatch.proofs.Lacking.{nothing_found, latest_lack, numbered_lack}

pub any_parts : (a b : Bool) → (a || b) ≡ false → (a ≡ false) × (b ≡ false)
any_parts true b h = absurd cc
any_parts false b h = (refl, h)

same_text : (t : Bytes) → text_eq t t ≡ true
same_text t = (bytes_eq-Decides t t).1 refl

own_matches : (n : ℕ) (name : Bytes) (kinds types : List TypeTag) → types_match n types kinds ≡ true → any_dynamic types ≡ true → dynamic_matches n name kinds (Native None name types) ≡ true
own_matches n name kinds types m dynamic =
    ap (λ (b : Bool). b && key_matches n name kinds (Native None name types)) dynamic ∙ ap (λ (b : Bool). b && types_match n types kinds) (same_text name) ∙ m

no_entry : (n : ℕ) (name : Bytes) (kinds types : List TypeTag) (ps : Pairs) → types_match n types kinds ≡ true → any_dynamic types ≡ true → list_any (λ p. dynamic_matches n name kinds p.0) ps ≡ false
    → lookup (key_eq (Native None name types)) ps ≡ None
no_entry n name kinds types [] m dynamic h = refl
no_entry n name kinds types (p ∷ ps) m dynamic h =
    let r = any_parts (dynamic_matches n name kinds p.0) (list_any (λ q. dynamic_matches n name kinds q.0) ps) h in
    let by : (b : Bool) → key_eq (Native None name types) p.0 ≡ b → cond b (Some p.1) (lookup (key_eq (Native None name types)) ps) ≡ None =
    elim [
      | true ↦ (λ e.
          let same : Native None name types ≡ p.0 = (key_eq-Decides (Native None name types) p.0).0 e in
          let q : true ≡ false = sym (own_matches n name kinds types m dynamic) ∙ ap (dynamic_matches n name kinds) same ∙ r.0 in
          absurd cc)
      | false ↦ (λ e. no_entry n name kinds types ps m dynamic r.1)
    ] in
    by (key_eq (Native None name types) p.0) refl

-- of what is listed, none with a type `Dynamic` is under a key whose hash a filter doesn't tell of
none_listed : (seeds : Seeds) (name : Bytes) (types : List TypeTag) (params : ℕ) (es : List Entry) → any_dynamic types ≡ true → length types ≡ params → lists_dynamic seeds (untyped seeds name params) es ≡ false
    → find_entry (Native None name types) es ≡ None
none_listed seeds name types params [] dynamic l none = refl
none_listed seeds name types params (e ∷ es) dynamic l none =
    let hash = untyped seeds name params in
    let r = any_parts (may_be_dynamic seeds hash (entry_key e)) (lists_dynamic seeds hash es) none in
    let told : may_be_dynamic seeds hash (Native None name types) ≡ true =
    ap (λ (b : Bool). b && (slot 8 hash == slot 8 (untyped seeds name (length types)))) dynamic ∙ eq-eqb (slot 8 hash) (slot 8 (untyped seeds name (length types))) (ap (λ (c : ℕ). slot 8 (untyped seeds name c)) (sym l)) in
    let by : (b : Bool) → key_eq (Native None name types) (entry_key e) ≡ b → cond b (Some e) (find_entry (Native None name types) es) ≡ None =
    elim [
      | true ↦ (λ s. absurd (true≢false (sym told ∙ ap (may_be_dynamic seeds hash) ((key_eq-Decides (Native None name types) (entry_key e)).0 s) ∙ r.0)))
      | false ↦ (λ s. none_listed seeds name types params es dynamic l r.1)
    ] in
    by (key_eq (Native None name types) (entry_key e)) refl

-- types that match are as many
pub as_many : (n : ℕ) (types kinds : List TypeTag) → types_match n types kinds ≡ true → length types ≡ length kinds
as_many n [] [] h = refl
as_many n [] (k ∷ kinds) h = absurd cc
as_many n (t ∷ types) [] h = absurd cc
as_many n (t ∷ types) (k ∷ kinds) h = ap suc (as_many (n - 1) types kinds (parts _ (types_match (n - 1) types kinds) h).1)

-- what a module shows has no native that it may not show
no_own : (n : ℕ) (name : Bytes) (kinds types : List TypeTag) (params : ℕ) (m : ModuleTree) → types_match n types kinds ≡ true → any_dynamic types ≡ true → length types ≡ params → may_show n name params kinds m ≡ false → lacks (Native None name types) m ≡ true
unfolding own_decl
no_own n name kinds types params m matches dynamic l h =
    let r = any_parts (may_match m n name kinds) (may_list name params m) h in
    ap is_none
    (shown_past m.own.seeds m.own.eager m.own.listed (Native None name types) (no_entry n name kinds types m.own.eager matches dynamic r.0)
    ∙ ap (option_map (entry_decl m.own.seeds)) (none_listed m.own.seeds name types params m.own.listed dynamic l (none_dynamic m.own.seeds (untyped m.own.seeds name params) m.own.eager m.own.listed r.1)))

none_show : (n : ℕ) (name : Bytes) (kinds types : List TypeTag) (params : ℕ) (ms : List ModuleTree) → types_match n types kinds ≡ true → any_dynamic types ≡ true → length types ≡ params → any_may_show n name params kinds ms ≡ false → list_all (lacks (Native None name types)) ms ≡ true
none_show n name kinds types params [] matches dynamic l h = refl
none_show n name kinds types params (m ∷ ms) matches dynamic l h =
    let r = any_parts (may_show n name params kinds m) (any_may_show n name params kinds ms) h in
    both (lacks (Native None name types) m) (list_all (lacks (Native None name types)) ms) (no_own n name kinds types params m matches dynamic l r.0) (none_show n name kinds types params ms matches dynamic l r.1)

-- nor one whose hash its filter doesn't tell of
undeclared : (seeds : Seeds) (name : Bytes) (types : List TypeTag) (params : ℕ) (ps : Pairs) → any_dynamic types ≡ true → length types ≡ params → list_any (λ p. may_be_dynamic seeds (untyped seeds name params) p.0) ps ≡ false
    → lookup (key_eq (Native None name types)) ps ≡ None
undeclared seeds name types params [] dynamic l none = refl
undeclared seeds name types params (p ∷ ps) dynamic l none =
    let hash = untyped seeds name params in
    let r = any_parts (may_be_dynamic seeds hash p.0) (list_any (λ q. may_be_dynamic seeds hash q.0) ps) none in
    let told : may_be_dynamic seeds hash (Native None name types) ≡ true =
    ap (λ (b : Bool). b && (slot 8 hash == slot 8 (untyped seeds name (length types)))) dynamic ∙ eq-eqb (slot 8 hash) (slot 8 (untyped seeds name (length types))) (ap (λ (c : ℕ). slot 8 (untyped seeds name c)) (sym l)) in
    let by : (b : Bool) → key_eq (Native None name types) p.0 ≡ b → cond b (Some p.1) (lookup (key_eq (Native None name types)) ps) ≡ None =
    elim [
      | true ↦ (λ s. absurd (true≢false (sym told ∙ ap (may_be_dynamic seeds hash) ((key_eq-Decides (Native None name types) p.0).0 s) ∙ r.0)))
      | false ↦ (λ s. undeclared seeds name types params ps dynamic l r.1)
    ] in
    by (key_eq (Native None name types) p.0) refl

-- what a tree doesn't contain, its module doesn't
own_of : (indexed inner deeper : Bool) → not (if indexed then inner || deeper else inner) ≡ true → inner ≡ false
own_of true true deeper e = absurd cc
own_of true false deeper e = refl
own_of false true deeper e = absurd cc
own_of false false deeper e = refl

no_dynamic : (name : Bytes) (types : List TypeTag) (params : ℕ) (m : ModuleTree) → any_dynamic types ≡ true → length types ≡ params → lacks_dynamic name params m ≡ true → lacks (Native None name types) m ≡ true
unfolding own_decl
no_dynamic name types params m dynamic l h =
    let hash = untyped m.own.seeds name params in
    ap is_none (undeclared m.own.seeds name types params (shown m.own) dynamic l (own_of m.own.indexed (declares_dynamic m.own.seeds hash m.own) (some_below (declares_dynamic m.own.seeds hash) m.subs) h))

none_dynamic_own : (name : Bytes) (types : List TypeTag) (params : ℕ) (ms : List ModuleTree) → any_dynamic types ≡ true → length types ≡ params → list_all (lacks_dynamic name params) ms ≡ true → list_all (lacks (Native None name types)) ms ≡ true
none_dynamic_own name types params [] dynamic l h = refl
none_dynamic_own name types params (m ∷ ms) dynamic l h =
    let r = parts (lacks_dynamic name params m) (list_all (lacks_dynamic name params) ms) h in
    both (lacks (Native None name types) m) (list_all (lacks (Native None name types)) ms) (no_dynamic name types params m dynamic l r.0) (none_dynamic_own name types params ms dynamic l r.1)

-- Modules that may not match.
pub none_by_names : (n : ℕ) (key : Key) (ms : List ModuleTree) → length (key_types key) ≡ key_params key → any_may_show n (key_name key) (key_params key) (key_types key) ms ≡ false → ShowsNone n key ms
none_by_names n key ms count h types matches dynamic = none_show n (key_name key) (key_types key) types (key_params key) ms matches dynamic (as_many n types (key_types key) matches ∙ count) h

pub none_by_filter : (n : ℕ) (key : Key) (ms : List ModuleTree) → length (key_types key) ≡ key_params key → list_all (lacks_dynamic (key_name key) (key_params key)) ms ≡ true → ShowsNone n key ms
none_by_filter n key ms count h types matches dynamic = none_dynamic_own (key_name key) types (key_params key) ms dynamic (as_many n types (key_types key) matches ∙ count) h

-- Trees, by their filters, below a path and without one.

pub no_root : (path : Option (List Bytes)) (layer : Layer) (name : Bytes) (types : List TypeTag) (params : ℕ) (m : ModuleTree) → m.own.indexed ≡ true → any_dynamic types ≡ true → length types ≡ params → may_have name params m ≡ false
    → pick_at (Native path name types) (rooted layer m) ≡ None
unfolding pick_at
no_root path layer name types params m is dynamic l h =
    let none : may_have name (length types) m ≡ false = ap (λ (n : ℕ). may_have name n m) l ∙ h in
    ap (option_map (λ (d : Declaration). record { layer = layer; func = d.func; source = m.own.id })) (absent_qualified m (Native path name types) (untyped m.own.seeds name (length types)) is none dynamic refl)

pub no_root_key : (key : Key) (layer : Layer) (types : List TypeTag) (n : ℕ) (m : ModuleTree) → m.own.indexed ≡ true → types_match n types (key_types key) ≡ true → any_dynamic types ≡ true → may_have (key_name key) (key_params key) m ≡ false
    → pick_at (with_types types key) (rooted layer m) ≡ None
no_root_key (Script path name params) layer [] n m is matches dynamic h = absurd (true≢false (sym dynamic))
no_root_key (Script path name params) layer (t ∷ types) n m is matches dynamic h = absurd (true≢false (sym matches))
no_root_key (Typed path name params this_type) layer [] n m is matches dynamic h = absurd (true≢false (sym dynamic))
no_root_key (Typed path name params this_type) layer (t ∷ types) n m is matches dynamic h = absurd (true≢false (sym matches))
no_root_key (Native path name own) layer types n m is matches dynamic h = no_root path layer name types (length own) m is dynamic (as_many n types own matches) h

no_tree : (layer : ℕ → Layer) (name : Bytes) (types : List TypeTag) (params k : ℕ) (es : Imports) → all_indexed es ≡ true → any_dynamic types ≡ true → length types ≡ params → any_may_have name params es ≡ false
    → first_of (λ y. pick_at (Native None name types) (place_of_tree layer y)) (enumerate_from k es) ≡ None
no_tree layer name types params k [] is dynamic l h = refl
no_tree layer name types params k (e ∷ es) is dynamic l h =
    let r = any_parts (may_have name params e.1) (any_may_have name params es) h in
    let i = parts e.1.own.indexed (all_indexed es) is in
    or_nones (pick_at (Native None name types) (place_of_tree layer (k, e))) (first_of (λ y. pick_at (Native None name types) (place_of_tree layer y)) (enumerate_from (k + 1) es))
    (no_root None (layer k) name types params e.1 i.0 dynamic l r.0) (no_tree layer name types params (k + 1) es i.1 dynamic l r.1)

-- where no module may have a native, none of these types is found
pub not_found : (libs globals : List ModuleTree) (imports statics : Imports) (n : ℕ) (name : Bytes) (kinds types : List TypeTag) → all_indexed imports ≡ true → all_indexed statics ≡ true → types_match n types kinds ≡ true → any_dynamic types ≡ true
    → list_all (lacks (Native None name types)) globals ≡ true → list_all (lacks (Native None name types)) libs ≡ true → any_may_have name (length kinds) imports ≡ false → any_may_have name (length kinds) statics ≡ false
    → found_in libs globals imports statics (Native None name types) ≡ None
not_found libs globals imports statics n name kinds types ii si matches dynamic g l i s =
    let key = Native None name types in
    let many = as_many n types kinds matches in
    nothing_found libs globals imports statics key (latest_lack key Library libs l) (numbered_lack key Global 0 globals g)
    (none_reverse (in_tree Import key) (enumerate_from 0 imports) (no_tree Import name types (length kinds) 0 imports ii dynamic many i))
    (no_tree Static name types (length kinds) 0 statics si dynamic many s)

-- what an engine's lists say
pub found_is : (e : EngineLists) (libs : List ModuleTree) (imports : Imports) (key : Key) → found e libs imports key ≡ found_in libs e.globals imports e.statics key
unfolding found
found_is e libs imports key = refl

natives_are : (e : EngineLists) (libs : List ModuleTree) (imports : Imports) (name : Bytes) (kinds : List TypeTag) → first_typed (found_in libs e.globals imports e.statics) (Native None name kinds) 0 ≡ first_of (native_found e libs imports name) (patterns kinds)
natives_are e libs imports name kinds = (λ i. first_of (λ types. sym (found_is e libs imports (Native None name types)) i) (patterns kinds))

-- What answers a question.

pub script_declared : (e : EngineLists) (libs : List ModuleTree) (imports : Imports) (key : Key) (token : Option OpToken) (o : Option Pick) → key ≡ key_of (asked_of key token) → is_script_key key ≡ true
    → o ≡ found_in libs e.globals imports e.statics key → o ≡ declared e libs imports (asked_of key token)
script_declared e libs imports (Script path name params) token o k s is = is ∙ sym (found_is e libs imports (Script path name params)) ∙ ap (found e libs imports) k
script_declared e libs imports (Typed path name params this_type) token o k s is = is ∙ sym (found_is e libs imports (Typed path name params this_type)) ∙ ap (found e libs imports) k
script_declared e libs imports (Native path name types) token o k s is = absurd (true≢false (sym s))

pub native_declared : (e : EngineLists) (libs : List ModuleTree) (imports : Imports) (key : Key) (token : Option OpToken) (o : Option Pick) → key ≡ key_of (asked_of key token) → is_script_key key ≡ false
    → o ≡ first_typed (found_in libs e.globals imports e.statics) key 0 → o ≡ declared e libs imports (asked_of key token)
native_declared e libs imports (Script path name params) token o k s is = absurd (true≢false s)
native_declared e libs imports (Typed path name params this_type) token o k s is = absurd (true≢false s)
native_declared e libs imports (Native path name types) token o k s is = is ∙ ap (λ (key : Key). first_typed (found_in libs e.globals imports e.statics) key 0) k ∙ natives_are e libs imports name types

pub keys_left : (key : Key) (token : Option OpToken) → is_script_key key ≡ false → keys_of (asked_of key token) ≡ length (patterns (key_types key))
keys_left (Script path name params) token s = absurd (true≢false s)
keys_left (Typed path name params this_type) token s = absurd (true≢false s)
keys_left (Native path name types) token s = refl

pub one_left : (key : Key) (token : Option OpToken) → is_script_key key ≡ true → keys_of (asked_of key token) ≡ 1
one_left (Script path name params) token s = refl
one_left (Typed path name params this_type) token s = refl
one_left (Native path name types) token s = absurd (true≢false (sym s))

pub declared_looked : (e : EngineLists) (libs : List ModuleTree) (imports : Imports) (q : Asked) (pick : Pick) → declared e libs imports q ≡ Some pick → looked e libs imports q ≡ Some pick
declared_looked e libs imports (typed name params this_type) pick h = h
declared_looked e libs imports (script name params) pick h = h
declared_looked e libs imports (native name kinds token) pick h = ap (λ (x : Option Pick). option_or x (builtin e token kinds)) h
