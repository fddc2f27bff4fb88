-- What answers a call: the first declaration that matches it, or where none matches a built-in.
use Rattle.std.proofs.Common.{◌≡◌, ℕ, ◌<◌, Bool, true, false, cond, List, [], ◌∷◌, length, refl, sym, ap, subst, ◌∙◌, ◌⊎◌, inl, inr, arith}
use Rattle.std.specs.Prelude.{Option, Some, None, option_map}
use Rattle.std.specs.Map.{lookup}
use Rattle.std.specs.Option.{option_or}
use Rattle.rhd_value.specs.Firsts.{first_of}
use Rattle.rhd_value.specs.Tree.{Bytes, Tree}
use Rattle.rhd_value.specs.declared.tag.FnId.{FnId}
use Rattle.rhd_value.specs.declared.tag.TypeTag.{TypeTag}
use Rattle.rhd_names.specs.declared.token.OpToken.{OpToken}
use Rattle.rhd_func.specs.declared.request.CallRequest.{CallRequest}
use Rattle.rhd_func.specs.declared.request.CallRequest.TheVariants.{Named, Qualified}
use Rattle.rhd_func.specs.declared.request.CallShape.TheVariants.{Plain, ByRef, Method}
use Rattle.rhd_hash.specs.declared.key.Key.{Key}
use Rattle.rhd_hash.specs.declared.key.Key.TheVariants.{Script, Typed, Native}
use Rattle.rhd_decl.specs.declared.declaration.Declaration.{Declaration}
use Rattle.rhd_call.specs.declared.pick.Pick.{Pick}
use Rattle.rhd_engine.specs.Engine.{EngineLists, Frame}
use Rattle.rhd_engine.specs.declared.builtins.Operator.{Operator}
use Rattle.rhd_engine.specs.Display.{display}
use Rattle.rhd_engine.specs.Operators.{operator_eq, operator_eq-Decides}
use Rattle.rhd_dispatch.specs.Patterns.{patterns_to}
use Rattle.rhd_dispatch.specs.Searched.{found}
use Rattle.rhd_dispatch.specs.Asks.{looked, native, native_found, builtin, builtin_pick, params_of}
use Rattle.rhd_machine.specs.Plans.{plan_of, is_unqualified, only_natives, token_in}
use Rattle.rhd_machine.specs.Decisions.{asks_of, look_of}
use Rattle.rhd_laws.specs.FirstAsks.{IsAnsweredFirst}
use Rattle.rhd_laws.specs.Matches.{TypesMatch, IsMoreExact, kinds_in, MatchesCall, by_type, by_number, by_kinds, HasDeclaration, rank, GoesBefore, lower_rank, more_exact, earlier_place, NoneMatches, IsFirstBuiltin, HasBuiltin, IsAnsweredBy, by_declaration, by_builtin, IsInFirstPlace}
use Rattle.rhd_laws.proofs.FirstAnswered.{is-first_first}
use Rattle.rhd_laws.proofs.PatternOrder.{or_cases, or_none, none_matching, first_pattern, FirstOf, first_types, match_to, types_match, before_is}
use Rattle.rhd_laws.proofs.PickPlaces.{got, in_first, not_found}

-- A declaration that is asked for.

-- no script of the object's type, and no other script
abbrev pub NoTyped : EngineLists → Frame → CallRequest → Type 0
NoTyped e f call = (object : Tree) (args : List Tree) → only_natives (plan_of call).search ≡ false → (plan_of call).shape ≡ Method object args → found e f.lib f.imports (Typed None (plan_of call).name (length args) (display e object)) ≡ None

abbrev pub NoScript : EngineLists → Frame → CallRequest → Type 0
NoScript e f call = only_natives (plan_of call).search ≡ false → found e f.lib f.imports (Script None (plan_of call).name (params_of (plan_of call).shape)) ≡ None

undeclared : (e : EngineLists) (f : Frame) (key other : Key) (n : ℕ) (d : Declaration) → other ≡ key → found e f.lib f.imports key ≡ None → HasDeclaration e f n other d → ⊥
undeclared e f key other n d same none r = not_found e f key none n d (subst (λ k. HasDeclaration e f n k d) same r)

not_earlier : (e : EngineLists) (f : Frame) (key other : Key) (pick : Pick) (n : ℕ) (d : Declaration) (r : IsInFirstPlace e f key pick) → other ≡ key → HasDeclaration e f n other d → n < r.number → ⊥
not_earlier e f key other pick n d r same it less = r.first n d less (subst (λ k. HasDeclaration e f n k d) same it)

pub typed_native : (other : Key) (name own : Bytes) (params : ℕ) (this_type : Bytes) (types : List TypeTag) → other ≡ Typed None name params this_type → other ≡ Native None own types → ⊥
typed_native other name own params this_type types a b = let q : Typed None name params this_type ≡ Native None own types = sym a ∙ b in absurd cc

pub script_native : (other : Key) (name own : Bytes) (params : ℕ) (types : List TypeTag) → other ≡ Script None name params → other ≡ Native None own types → ⊥
script_native other name own params types a b = let q : Script None name params ≡ Native None own types = sym a ∙ b in absurd cc

pub same_natives : (other : Key) (name own : Bytes) (types others : List TypeTag) → other ≡ Native None name types → other ≡ Native None own others → types ≡ others
same_natives other name own types others a b = let q : Native None name types ≡ Native None own others = sym a ∙ b in cc

typed_before : (e : EngineLists) (f : Frame) (call : CallRequest) (object : Tree) (args : List Tree) (pick : Pick) (r : IsInFirstPlace e f (Typed None (plan_of call).name (length args) (display e object)) pick)
    → (other : Key) (n : ℕ) (d : Declaration) → MatchesCall e call other → HasDeclaration e f n other d → GoesBefore (kinds_in call) other n (Typed None (plan_of call).name (length args) (display e object)) r.number → ⊥
typed_before e f call object args pick r other n d m it (lower_rank less) = omega (arith, less)
typed_before e f call object args pick r other n d m it (more_exact name types others k o x) = typed_native (Typed None (plan_of call).name (length args) (display e object)) (plan_of call).name name (length args) (display e object) others refl o
typed_before e f call object args pick r other n d m it (earlier_place same before) = not_earlier e f (Typed None (plan_of call).name (length args) (display e object)) other pick n d r same it before

typed_first : (e : EngineLists) (f : Frame) (call : CallRequest) (object : Tree) (args : List Tree) (pick : Pick) → only_natives (plan_of call).search ≡ false → (plan_of call).shape ≡ Method object args
    → found e f.lib f.imports (Typed None (plan_of call).name (length args) (display e object)) ≡ Some pick → IsAnsweredBy e f call pick
typed_first e f call object args pick allowed shape h =
    let key : Key = Typed None (plan_of call).name (length args) (display e object) in
    let r : IsInFirstPlace e f key pick = in_first e f key pick h in
    by_declaration key (record { matches = by_type object args allowed shape refl; number = r.number; decl = r.decl; stands = r.stands; layer = r.layer; func = r.func; source = r.source; first = typed_before e f call object args pick r })

script_rank : (e : EngineLists) (f : Frame) (call : CallRequest) (other : Key) (n : ℕ) (d : Declaration) → NoTyped e f call → MatchesCall e call other → HasDeclaration e f n other d → rank other < 1 → ⊥
script_rank e f call other n d untyped (by_type object args allowed shape k) it less = undeclared e f (Typed None (plan_of call).name (length args) (display e object)) other n d k (untyped object args allowed shape) it
script_rank e f call other n d untyped (by_number allowed k) it less = let t : rank other ≡ 1 = ap rank k in omega (arith, less, t)
script_rank e f call other n d untyped (by_kinds types k m) it less = let t : rank other ≡ 2 = ap rank k in omega (arith, less, t)

script_before : (e : EngineLists) (f : Frame) (call : CallRequest) (pick : Pick) → NoTyped e f call → (r : IsInFirstPlace e f (Script None (plan_of call).name (params_of (plan_of call).shape)) pick)
    → (other : Key) (n : ℕ) (d : Declaration) → MatchesCall e call other → HasDeclaration e f n other d → GoesBefore (kinds_in call) other n (Script None (plan_of call).name (params_of (plan_of call).shape)) r.number → ⊥
script_before e f call pick untyped r other n d m it (lower_rank less) = script_rank e f call other n d untyped m it less
script_before e f call pick untyped r other n d m it (more_exact name types others k o x) = script_native (Script None (plan_of call).name (params_of (plan_of call).shape)) (plan_of call).name name (params_of (plan_of call).shape) others refl o
script_before e f call pick untyped r other n d m it (earlier_place same before) = not_earlier e f (Script None (plan_of call).name (params_of (plan_of call).shape)) other pick n d r same it before

script_first : (e : EngineLists) (f : Frame) (call : CallRequest) (pick : Pick) → NoTyped e f call → only_natives (plan_of call).search ≡ false
    → found e f.lib f.imports (Script None (plan_of call).name (params_of (plan_of call).shape)) ≡ Some pick → IsAnsweredBy e f call pick
script_first e f call pick untyped allowed h =
    let key : Key = Script None (plan_of call).name (params_of (plan_of call).shape) in
    let r : IsInFirstPlace e f key pick = in_first e f key pick h in
    by_declaration key (record { matches = by_number allowed refl; number = r.number; decl = r.decl; stands = r.stands; layer = r.layer; func = r.func; source = r.source; first = script_before e f call pick untyped r })

-- no native with more exact types that match
abbrev pub NoneBefore : EngineLists → Frame → CallRequest → List TypeTag → Type 0
NoneBefore e f call types = (others : List TypeTag) → TypesMatch others (kinds_in call) → IsMoreExact (kinds_in call) others types → found e f.lib f.imports (Native None (plan_of call).name others) ≡ None

native_rank : (e : EngineLists) (f : Frame) (call : CallRequest) (other : Key) (n : ℕ) (d : Declaration) → NoTyped e f call → NoScript e f call → MatchesCall e call other → HasDeclaration e f n other d → rank other < 2 → ⊥
native_rank e f call other n d untyped unscripted (by_type object args allowed shape k) it less = undeclared e f (Typed None (plan_of call).name (length args) (display e object)) other n d k (untyped object args allowed shape) it
native_rank e f call other n d untyped unscripted (by_number allowed k) it less = undeclared e f (Script None (plan_of call).name (params_of (plan_of call).shape)) other n d k (unscripted allowed) it
native_rank e f call other n d untyped unscripted (by_kinds types k m) it less = let t : rank other ≡ 2 = ap rank k in omega (arith, less, t)

native_exact : (e : EngineLists) (f : Frame) (call : CallRequest) (types : List TypeTag) (other : Key) (n : ℕ) (d : Declaration) (name : Bytes) (exact others : List TypeTag)
    → NoneBefore e f call types → MatchesCall e call other → HasDeclaration e f n other d
    → other ≡ Native None name exact → Native None (plan_of call).name types ≡ Native None name others → IsMoreExact (kinds_in call) exact others → ⊥
native_exact e f call types other n d name exact others none (by_type object args allowed shape k) it p q x = typed_native other (plan_of call).name name (length args) (display e object) exact k p
native_exact e f call types other n d name exact others none (by_number allowed k) it p q x = script_native other (plan_of call).name name (params_of (plan_of call).shape) exact k p
native_exact e f call types other n d name exact others none (by_kinds own k m) it p q x =
    let a : exact ≡ own = same_natives other name (plan_of call).name exact own p k in
    let b : others ≡ types = sym (same_natives (Native None (plan_of call).name types) (plan_of call).name name types others refl q) in
    undeclared e f (Native None (plan_of call).name own) other n d k (none own m (subst (λ ts. IsMoreExact (kinds_in call) own ts) b (subst (λ ts. IsMoreExact (kinds_in call) ts others) a x))) it

native_before : (e : EngineLists) (f : Frame) (call : CallRequest) (pick : Pick) (types : List TypeTag) → NoTyped e f call → NoScript e f call → NoneBefore e f call types → (r : IsInFirstPlace e f (Native None (plan_of call).name types) pick)
    → (other : Key) (n : ℕ) (d : Declaration) → MatchesCall e call other → HasDeclaration e f n other d → GoesBefore (kinds_in call) other n (Native None (plan_of call).name types) r.number → ⊥
native_before e f call pick types untyped unscripted none r other n d m it (lower_rank less) = native_rank e f call other n d untyped unscripted m it less
native_before e f call pick types untyped unscripted none r other n d m it (more_exact name exact others k o x) = native_exact e f call types other n d name exact others none m it k o x
native_before e f call pick types untyped unscripted none r other n d m it (earlier_place same before) = not_earlier e f (Native None (plan_of call).name types) other pick n d r same it before

native_first : (e : EngineLists) (f : Frame) (call : CallRequest) (pick : Pick) → NoTyped e f call → NoScript e f call → FirstOf (native_found e f.lib f.imports (plan_of call).name) 16 (kinds_in call) pick → IsAnsweredBy e f call pick
native_first e f call pick untyped unscripted (first_types types m h none) =
    let key : Key = Native None (plan_of call).name types in
    let own : TypesMatch types (kinds_in call) = types_match types (kinds_in call) m in
    let r : IsInFirstPlace e f key pick = in_first e f key pick h in
    by_declaration key (record {
      matches = by_kinds types refl own;
      number = r.number;
      decl = r.decl;
      stands = r.stands;
      layer = r.layer;
      func = r.func;
      source = r.source;
      first = native_before e f call pick types untyped unscripted (λ others o x. none others (match_to others (kinds_in call) o) (before_is (kinds_in call) others types o.as_many own.as_many x)) r;
    })

pub none_match : (e : EngineLists) (f : Frame) (call : CallRequest) → NoTyped e f call → NoScript e f call → first_of (native_found e f.lib f.imports (plan_of call).name) (patterns_to 16 (kinds_in call)) ≡ None → NoneMatches e f call
none_match e f call untyped unscripted none key n d (by_type object args allowed shape k) it = undeclared e f (Typed None (plan_of call).name (length args) (display e object)) key n d k (untyped object args allowed shape) it
none_match e f call untyped unscripted none key n d (by_number allowed k) it = undeclared e f (Script None (plan_of call).name (params_of (plan_of call).shape)) key n d k (unscripted allowed) it
none_match e f call untyped unscripted none key n d (by_kinds types k m) it =
    undeclared e f (Native None (plan_of call).name types) key n d k (none_matching (native_found e f.lib f.imports (plan_of call).name) 16 (kinds_in call) types none (match_to types (kinds_in call) m)) it

-- A built-in of the table.

no_test : (b : Bool) → (b ≡ true → ⊥) → b ≡ false
no_test true h = absurd (h refl)
no_test false h = refl

false_true : (b : Bool) → b ≡ false → b ≡ true → ⊥
false_true b f t = cc

listed_step : (o : Operator) (id : FnId) (p : Operator × FnId) (ps : List (Operator × FnId)) (same : Bool) → operator_eq o p.0 ≡ same → (lookup (operator_eq o) ps ≡ Some id → IsFirstBuiltin o id ps)
    → cond same (Some p.1) (lookup (operator_eq o) ps) ≡ Some id → IsFirstBuiltin o id (p ∷ ps)
listed_step o id p ps true s ih e =
    let k : p.0 ≡ o = sym ((operator_eq-Decides o p.0).0 s) in
    let v : p.1 ≡ id = got p.1 id e in
    record { front = []; others = ps; stands = λ i. (k i, v i) ∷ ps; before = tt }
listed_step o id p ps false s ih e =
    let r = ih e in
    record { front = p ∷ r.front; others = r.others; stands = ap (λ (qs : List (Operator × FnId)). p ∷ qs) r.stands; before = (λ same. false_true (operator_eq o p.0) s ((operator_eq-Decides o p.0).1 (sym same)), r.before) }

listed_first : (o : Operator) (id : FnId) (ps : List (Operator × FnId)) → lookup (operator_eq o) ps ≡ Some id → IsFirstBuiltin o id ps
listed_first o id [] e = absurd cc
listed_first o id (p ∷ ps) e = listed_step o id p ps (operator_eq o p.0) refl (listed_first o id ps) e

listed : (e : EngineLists) (call : CallRequest) (pick : Pick) (token : OpToken) (left right : TypeTag) (o : Option FnId) → token_in (plan_of call).search ≡ Some token → kinds_in call ≡ left ∷ right ∷ []
    → lookup (operator_eq (record { token = token; left = left; right = right })) e.builtins ≡ o → option_map (builtin_pick e token) o ≡ Some pick → HasBuiltin e call pick
listed e call pick token left right None t k is h = absurd cc
listed e call pick token left right (Some id) t k is h =
    record { token = token; asked = t; left = left; right = right; two = k; id = id; listed = listed_first (record { token = token; left = left; right = right }) id e.builtins is; shown = sym (got (builtin_pick e token id) pick h) }

pub has_builtin : (e : EngineLists) (call : CallRequest) (pick : Pick) (token : Option OpToken) (kinds : List TypeTag) → token_in (plan_of call).search ≡ token → kinds_in call ≡ kinds
    → builtin e token kinds ≡ Some pick → HasBuiltin e call pick
has_builtin e call pick None kinds t k h = absurd cc
has_builtin e call pick (Some token) [] t k h = absurd cc
has_builtin e call pick (Some token) (left ∷ []) t k h = absurd cc
has_builtin e call pick (Some token) (left ∷ right ∷ []) t k h = listed e call pick token left right (lookup (operator_eq (record { token = token; left = left; right = right })) e.builtins) t k refl h
has_builtin e call pick (Some token) (left ∷ right ∷ more ∷ rest) t k h = absurd cc

-- The asks of a call.

abbrev pub native_look : EngineLists → Frame → CallRequest → Option Pick
native_look e f call = looked e f.lib f.imports (native (plan_of call).name (kinds_in call) (token_in (plan_of call).search))

from_natives : (e : EngineLists) (f : Frame) (call : CallRequest) (pick : Pick) → NoTyped e f call → NoScript e f call → option_or (native_look e f call) None ≡ Some pick → IsAnsweredBy e f call pick
from_natives e f call pick untyped unscripted h =
    let by : (first_of (native_found e f.lib f.imports (plan_of call).name) (patterns_to 16 (kinds_in call)) ≡ Some pick) ⊎ ((first_of (native_found e f.lib f.imports (plan_of call).name) (patterns_to 16 (kinds_in call)) ≡ None) × (builtin e (token_in (plan_of call).search) (kinds_in call) ≡ Some pick)) → IsAnsweredBy e f call pick = elim [
      | inl q ↦ native_first e f call pick untyped unscripted (first_pattern (native_found e f.lib f.imports (plan_of call).name) 16 (kinds_in call) pick q)
      | inr q ↦ by_builtin (none_match e f call untyped unscripted q.0) (has_builtin e call pick (token_in (plan_of call).search) (kinds_in call) refl refl q.1)
    ]
    in by (or_cases (first_of (native_found e f.lib f.imports (plan_of call).name) (patterns_to 16 (kinds_in call))) (builtin e (token_in (plan_of call).search) (kinds_in call)) pick (sym (or_none (native_look e f call)) ∙ h))

from_scripts : (e : EngineLists) (f : Frame) (call : CallRequest) (pick : Pick) → NoTyped e f call → only_natives (plan_of call).search ≡ false
    → option_or (found e f.lib f.imports (Script None (plan_of call).name (params_of (plan_of call).shape))) (option_or (native_look e f call) None) ≡ Some pick → IsAnsweredBy e f call pick
from_scripts e f call pick untyped allowed h =
    let script : Option Pick = found e f.lib f.imports (Script None (plan_of call).name (params_of (plan_of call).shape)) in
    let by : (script ≡ Some pick) ⊎ ((script ≡ None) × (option_or (native_look e f call) None ≡ Some pick)) → IsAnsweredBy e f call pick = elim [ inl q ↦ script_first e f call pick untyped allowed q | inr q ↦ from_natives e f call pick untyped (λ _. q.0) q.1 ]
    in by (or_cases script (option_or (native_look e f call) None) pick h)

pub one_method : (e : EngineLists) (f : Frame) (name : Bytes) (object other : Tree) (args others : List Tree) → found e f.lib f.imports (Typed None name (length args) (display e object)) ≡ None
    → Method object args ≡ Method other others → found e f.lib f.imports (Typed None name (length others) (display e other)) ≡ None
one_method e f name object other args others none same =
    let a : object ≡ other = cc in
    let b : args ≡ others = cc in
    (λ i. found e f.lib f.imports (Typed None name (length (sym b i)) (display e (sym a i)))) ∙ none

from_typed : (e : EngineLists) (f : Frame) (call : CallRequest) (object : Tree) (args : List Tree) (pick : Pick) → only_natives (plan_of call).search ≡ false → (plan_of call).shape ≡ Method object args
    → option_or (found e f.lib f.imports (Typed None (plan_of call).name (length args) (display e object))) (option_or (found e f.lib f.imports (Script None (plan_of call).name (params_of (plan_of call).shape))) (option_or (native_look e f call) None)) ≡ Some pick
    → IsAnsweredBy e f call pick
from_typed e f call object args pick allowed shape h =
    let typed : Option Pick = found e f.lib f.imports (Typed None (plan_of call).name (length args) (display e object)) in
    let rest : Option Pick = option_or (found e f.lib f.imports (Script None (plan_of call).name (params_of (plan_of call).shape))) (option_or (native_look e f call) None) in
    let by : (typed ≡ Some pick) ⊎ ((typed ≡ None) × (rest ≡ Some pick)) → IsAnsweredBy e f call pick = elim [
      | inl q ↦ typed_first e f call object args pick allowed shape q
      | inr q ↦ from_scripts e f call pick (λ other others _ same. one_method e f (plan_of call).name object other args others q.0 (sym shape ∙ same)) allowed q.1
    ]
    in by (or_cases typed rest pick h)

pub true_false : true ≡ false → ⊥
true_false h = absurd cc

pub plain_method : (args : List Tree) (object : Tree) (others : List Tree) → Plain args ≡ Method object others → ⊥
plain_method args object others h = absurd cc

pub ref_method : (first : Tree) (args : List Tree) (object : Tree) (others : List Tree) → ByRef first args ≡ Method object others → ⊥
ref_method first args object others h = absurd cc

pub asked_by : (e : EngineLists) (f : Frame) (call : CallRequest) (pick : Pick) → is_unqualified (plan_of call).search ≡ true → first_of (look_of e f call) (asks_of e call) ≡ Some pick → IsAnsweredBy e f call pick
asked_by e f (Named name token true shape want pos) pick unqualified h = from_natives e f (Named name token true shape want pos) pick (λ object args allowed _. absurd (true_false allowed)) (λ allowed. absurd (true_false allowed)) h
asked_by e f (Named name token false (Plain args) want pos) pick unqualified h = from_scripts e f (Named name token false (Plain args) want pos) pick (λ object others _ same. absurd (plain_method args object others same)) refl h
asked_by e f (Named name token false (ByRef first args) want pos) pick unqualified h = from_scripts e f (Named name token false (ByRef first args) want pos) pick (λ object others _ same. absurd (ref_method first args object others same)) refl h
asked_by e f (Named name token false (Method object args) want pos) pick unqualified h = from_typed e f (Named name token false (Method object args) want pos) object args pick refl refl h
asked_by e f (Qualified path name shape pos) pick unqualified h = absurd cc

pub first_match : (e : EngineLists) (f : Frame) (call : CallRequest) (pick : Pick) → is_unqualified (plan_of call).search ≡ true → IsAnsweredFirst e f call pick → IsAnsweredBy e f call pick
first_match e f call pick unqualified h = asked_by e f call pick unqualified (is-first_first (look_of e f call) pick (asks_of e call) h)
