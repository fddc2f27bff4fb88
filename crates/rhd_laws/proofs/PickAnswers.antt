-- One declaration or built-in answers a call, and what a function receives matches its types.
use Rattle.std.proofs.Common.{◌≡◌, ◌≢◌, ℕ, ◌<◌, Bool, true, false, List, [], ◌∷◌, ◌++◌, length, map, refl, sym, ap, subst, ◌∙◌, arith}
use Rattle.std.specs.Prelude.{Option, Some, None, option_map, ◌↔◌}
use Rattle.std.specs.List.{AllByRecursion}
use Rattle.std.specs.Map.{lookup}
use Rattle.std.specs.Option.{option_or}
use Rattle.rhd_value.specs.Firsts.{first_of}
use Rattle.rhd_value.specs.Kinds.{tag_of, tag_of_kind}
use Rattle.rhd_value.specs.Tree.{Bytes, Tree, Kind, unit, boolean, integer, character, text, array, object, pointer, custom, copied_kind}
use Rattle.rhd_value.specs.declared.tag.FnId.{FnId}
use Rattle.rhd_value.specs.declared.tag.TypeTag.{TypeTag}
use Rattle.rhd_func.specs.Shapes.{all_args}
use Rattle.rhd_func.specs.declared.request.CallRequest.{CallRequest}
use Rattle.rhd_func.specs.declared.request.CallRequest.TheVariants.{Named, Qualified}
use Rattle.rhd_func.specs.declared.request.CallShape.{CallShape}
use Rattle.rhd_func.specs.declared.request.CallShape.TheVariants.{Plain, ByRef, Method}
use Rattle.rhd_hash.specs.declared.key.Key.{Key}
use Rattle.rhd_hash.specs.declared.key.Key.TheVariants.{Script, Typed, Native}
use Rattle.rhd_call.specs.declared.pick.Pick.{Pick}
use Rattle.rhd_engine.specs.Engine.{EngineLists, Frame}
use Rattle.rhd_engine.specs.declared.builtins.Operator.{Operator}
use Rattle.rhd_engine.specs.Display.{display}
use Rattle.rhd_engine.specs.Operators.{operator_eq, operator_eq-Decides}
use Rattle.rhd_dispatch.specs.Patterns.{patterns_to}
use Rattle.rhd_machine.specs.World.{Objects}
use Rattle.rhd_call.specs.End.{End}
use Rattle.rhd_laws.specs.Unfound.{AllFail, and_no_host, and_host}
use Rattle.rhd_machine.specs.Received.{Convention, native_method, other_native, script, received}
use Rattle.rhd_dispatch.specs.Searched.{found}
use Rattle.rhd_dispatch.specs.Asks.{native_found, builtin, builtin_pick, params_of}
use Rattle.rhd_machine.specs.Plans.{Search, by_name, in_module, plan_of, is_unqualified, token_in, without_host}
use Rattle.rhd_machine.specs.Decisions.{asks_of, look_of}
use Rattle.rhd_laws.specs.FirstAsks.{IsAnsweredFirst, IsUnanswered}
use Rattle.rhd_laws.specs.Matches.{TypesMatch, kinds_in, MatchesCall, by_type, by_number, by_kinds, rank, GoesBefore, lower_rank, more_exact, earlier_place, NoneMatches, IsFirstMatch, IsFirstBuiltin, HasBuiltin, IsAnsweredBy, by_declaration, by_builtin, all_received, IsInFirstPlace}
use Rattle.rhd_laws.proofs.FirstAnswered.{first_is-first, first_none, none_first}
use Rattle.rhd_laws.proofs.PatternOrder.{or_parts, match_to, is_before, in_order, Ordered, first_goes, second_goes, same_types}
use Rattle.rhd_laws.proofs.PickPlaces.{got, in_first_is}
use Rattle.rhd_laws.proofs.PickCalls.{NoTyped, NoScript, native_look, none_match, asked_by, true_false, plain_method, ref_method, one_method, typed_native, script_native, same_natives}

-- Where no ask is found.

-- the table has no built-in for the call
abbrev NoBuiltin : EngineLists → CallRequest → Type 0
NoBuiltin e call = (pick : Pick) → HasBuiltin e call pick → ⊥

is_same : (o : Operator) → operator_eq o o ≡ true
is_same o = (operator_eq-Decides o o).1 refl

no_test : (b : Bool) → (b ≡ true → ⊥) → b ≡ false
no_test true h = absurd (h refl)
no_test false h = refl

is_apart : (o p : Operator) → p ≢ o → operator_eq o p ≡ false
is_apart o p apart = no_test (operator_eq o p) (λ h. apart (sym ((operator_eq-Decides o p).0 h)))

behind : (o : Operator) (id : FnId) (front others : List (Operator × FnId)) → AllByRecursion (λ b. b.0 ≢ o) front → lookup (operator_eq o) (front ++ (o, id) ∷ others) ≡ Some id
behind o id [] others before = rw (is_same o) refl
behind o id (p ∷ front) others before = rw (is_apart o p.0 before.0) (behind o id front others before.1)

first_listed : (o : Operator) (id : FnId) (ps : List (Operator × FnId)) → IsFirstBuiltin o id ps → lookup (operator_eq o) ps ≡ Some id
first_listed o id ps r = ap (lookup (operator_eq o)) r.stands ∙ behind o id r.front r.others r.before

built : (e : EngineLists) (call : CallRequest) (pick : Pick) → HasBuiltin e call pick → builtin e (token_in (plan_of call).search) (kinds_in call) ≡ Some pick
built e call pick r =
    (λ i. builtin e (r.asked i) (r.two i)) ∙ ap (option_map (builtin_pick e r.token)) (first_listed (record { token = r.token; left = r.left; right = r.right }) r.id e.builtins r.listed) ∙ ap Some (sym r.shown)

unbuilt : (e : EngineLists) (call : CallRequest) → builtin e (token_in (plan_of call).search) (kinds_in call) ≡ None → NoBuiltin e call
unbuilt e call none pick r = let q : None ≡ Some pick = sym none ∙ built e call pick r in absurd cc

none_natives : (e : EngineLists) (f : Frame) (call : CallRequest) → NoTyped e f call → NoScript e f call → option_or (native_look e f call) None ≡ None → NoneMatches e f call × NoBuiltin e call
none_natives e f call untyped unscripted h =
    let p = or_parts (native_look e f call) None h in
    let q = or_parts (first_of (native_found e f.lib f.imports (plan_of call).name) (patterns_to 16 (kinds_in call))) (builtin e (token_in (plan_of call).search) (kinds_in call)) p.0 in
    (none_match e f call untyped unscripted q.0, unbuilt e call q.1)

none_scripts : (e : EngineLists) (f : Frame) (call : CallRequest) → NoTyped e f call
    → option_or (found e f.lib f.imports (Script None (plan_of call).name (params_of (plan_of call).shape))) (option_or (native_look e f call) None) ≡ None → NoneMatches e f call × NoBuiltin e call
none_scripts e f call untyped h =
    let p = or_parts (found e f.lib f.imports (Script None (plan_of call).name (params_of (plan_of call).shape))) (option_or (native_look e f call) None) h in
    none_natives e f call untyped (λ _. p.0) p.1

none_typed : (e : EngineLists) (f : Frame) (call : CallRequest) (target : Tree) (args : List Tree) → (plan_of call).shape ≡ Method target args
    → option_or (found e f.lib f.imports (Typed None (plan_of call).name (length args) (display e target))) (option_or (found e f.lib f.imports (Script None (plan_of call).name (params_of (plan_of call).shape))) (option_or (native_look e f call) None)) ≡ None
    → NoneMatches e f call × NoBuiltin e call
none_typed e f call target args shape h =
    let p = or_parts (found e f.lib f.imports (Typed None (plan_of call).name (length args) (display e target))) (option_or (found e f.lib f.imports (Script None (plan_of call).name (params_of (plan_of call).shape))) (option_or (native_look e f call) None)) h in
    none_scripts e f call (λ other others _ same. one_method e f (plan_of call).name target other args others p.0 (sym shape ∙ same)) p.1

pub asked_in_vain : (e : EngineLists) (f : Frame) (call : CallRequest) → is_unqualified (plan_of call).search ≡ true → first_of (look_of e f call) (asks_of e call) ≡ None → NoneMatches e f call × NoBuiltin e call
asked_in_vain e f (Named name token true shape want pos) unqualified h = none_natives e f (Named name token true shape want pos) (λ target args allowed _. absurd (true_false allowed)) (λ allowed. absurd (true_false allowed)) h
asked_in_vain e f (Named name token false (Plain args) want pos) unqualified h = none_scripts e f (Named name token false (Plain args) want pos) (λ target others _ same. absurd (plain_method args target others same)) h
asked_in_vain e f (Named name token false (ByRef first args) want pos) unqualified h = none_scripts e f (Named name token false (ByRef first args) want pos) (λ target others _ same. absurd (ref_method first args target others same)) h
asked_in_vain e f (Named name token false (Method target args) want pos) unqualified h = none_typed e f (Named name token false (Method target args) want pos) target args refl h
asked_in_vain e f (Qualified path name shape pos) unqualified h = absurd cc

-- Of two declarations that match, one goes before the other, or their keys are the same.

data KeysOrdered (kinds : List TypeTag) (key other : Key) : Type 0 where
  goes_first : ((n behind : ℕ) → GoesBefore kinds key n other behind) → KeysOrdered kinds key other
  goes_second : ((n behind : ℕ) → GoesBefore kinds other n key behind) → KeysOrdered kinds key other
  one_key : key ≡ other → KeysOrdered kinds key other

by_rank : (kinds : List TypeTag) (key other : Key) (n m : ℕ) → rank key ≡ n → rank other ≡ m → n < m → KeysOrdered kinds key other
by_rank kinds key other n m a b less = goes_first (λ place behind. lower_rank (omega (arith, a, b, less)))

by_rank_back : (kinds : List TypeTag) (key other : Key) (n m : ℕ) → rank key ≡ n → rank other ≡ m → m < n → KeysOrdered kinds key other
by_rank_back kinds key other n m a b less = goes_second (λ place behind. lower_rank (omega (arith, a, b, less)))

same_typed : (e : EngineLists) (name : Bytes) (target other : Tree) (args others : List Tree) → Method target args ≡ Method other others → Typed None name (length args) (display e target) ≡ Typed None name (length others) (display e other)
same_typed e name target other args others same =
    let a : target ≡ other = cc in
    let b : args ≡ others = cc in
    (λ i. Typed None name (length (b i)) (display e (a i)))

natives_ordered : (kinds : List TypeTag) (key other : Key) (name : Bytes) (types others : List TypeTag) → key ≡ Native None name types → other ≡ Native None name others → Ordered kinds types others → KeysOrdered kinds key other
natives_ordered kinds key other name types others k o (first_goes b) = goes_first (λ place behind. more_exact name types others k o (is_before kinds types others b))
natives_ordered kinds key other name types others k o (second_goes b) = goes_second (λ place behind. more_exact name others types o k (is_before kinds others types b))
natives_ordered kinds key other name types others k o (same_types s) = one_key (k ∙ ap (Native None name) s ∙ sym o)

keys_ordered : (e : EngineLists) (call : CallRequest) (key other : Key) → MatchesCall e call key → MatchesCall e call other → KeysOrdered (kinds_in call) key other
keys_ordered e call key other (by_type x xs a s k) (by_type y ys b t o) = one_key (k ∙ same_typed e (plan_of call).name x y xs ys (sym s ∙ t) ∙ sym o)
keys_ordered e call key other (by_type x xs a s k) (by_number b o) = by_rank (kinds_in call) key other 0 1 (ap rank k) (ap rank o) (omega arith)
keys_ordered e call key other (by_type x xs a s k) (by_kinds ts o m) = by_rank (kinds_in call) key other 0 2 (ap rank k) (ap rank o) (omega arith)
keys_ordered e call key other (by_number a k) (by_type y ys b t o) = by_rank_back (kinds_in call) key other 1 0 (ap rank k) (ap rank o) (omega arith)
keys_ordered e call key other (by_number a k) (by_number b o) = one_key (k ∙ sym o)
keys_ordered e call key other (by_number a k) (by_kinds ts o m) = by_rank (kinds_in call) key other 1 2 (ap rank k) (ap rank o) (omega arith)
keys_ordered e call key other (by_kinds types k n) (by_type y ys b t o) = by_rank_back (kinds_in call) key other 2 0 (ap rank k) (ap rank o) (omega arith)
keys_ordered e call key other (by_kinds types k n) (by_number b o) = by_rank_back (kinds_in call) key other 2 1 (ap rank k) (ap rank o) (omega arith)
keys_ordered e call key other (by_kinds types k n) (by_kinds ts o m) = natives_ordered (kinds_in call) key other (plan_of call).name types ts k o (in_order 16 (kinds_in call) types ts (match_to types (kinds_in call) n) (match_to ts (kinds_in call) m))

-- One pick answers a call.

in_first_place : (e : EngineLists) (f : Frame) (call : CallRequest) (key : Key) (pick : Pick) → IsFirstMatch e f call key pick → IsInFirstPlace e f key pick
in_first_place e f call key pick a =
    record { number = a.number; decl = a.decl; stands = a.stands; layer = a.layer; func = a.func; source = a.source; first = λ n other less it. a.first key n other a.matches it (earlier_place refl less) }

-- so it is what is found under its key
found_by : (e : EngineLists) (f : Frame) (call : CallRequest) (key : Key) (pick : Pick) → IsFirstMatch e f call key pick → found e f.lib f.imports key ≡ Some pick
found_by e f call key pick a = in_first_is e f key pick (in_first_place e f call key pick a)

two_matches : (e : EngineLists) (f : Frame) (call : CallRequest) (key other : Key) (pick own : Pick) → IsFirstMatch e f call key pick → IsFirstMatch e f call other own → KeysOrdered (kinds_in call) key other → pick ≡ own
two_matches e f call key other pick own a b (goes_first h) = absurd (b.first key a.number a.decl a.matches a.stands (h a.number b.number))
two_matches e f call key other pick own a b (goes_second h) = absurd (a.first other b.number b.decl b.matches b.stands (h b.number a.number))
two_matches e f call key other pick own a b (one_key k) = got pick own (sym (found_by e f call key pick a) ∙ ap (found e f.lib f.imports) k ∙ found_by e f call other own b)

pub one_answer : (e : EngineLists) (f : Frame) (call : CallRequest) (pick own : Pick) → IsAnsweredBy e f call pick → IsAnsweredBy e f call own → pick ≡ own
one_answer e f call pick own (by_declaration key a) (by_declaration other b) = two_matches e f call key other pick own a b (keys_ordered e call key other a.matches b.matches)
one_answer e f call pick own (by_declaration key a) (by_builtin none b) = absurd (none key a.number a.decl a.matches a.stands)
one_answer e f call pick own (by_builtin none a) (by_declaration other b) = absurd (none other b.number b.decl b.matches b.stands)
one_answer e f call pick own (by_builtin none a) (by_builtin also b) = got pick own (sym (built e call pick a) ∙ built e call own b)

unanswered_not : (e : EngineLists) (f : Frame) (call : CallRequest) (pick : Pick) → NoneMatches e f call × NoBuiltin e call → IsAnsweredBy e f call pick → ⊥
unanswered_not e f call pick none (by_declaration key a) = none.0 key a.number a.decl a.matches a.stands
unanswered_not e f call pick none (by_builtin also b) = none.1 pick b

pub match_first : (e : EngineLists) (f : Frame) (call : CallRequest) (pick : Pick) → is_unqualified (plan_of call).search ≡ true → IsAnsweredBy e f call pick → IsAnsweredFirst e f call pick
match_first e f call pick unqualified a =
    let by : (o : Option Pick) → first_of (look_of e f call) (asks_of e call) ≡ o → IsAnsweredFirst e f call pick = elim [
      | None ↦ (λ h. absurd (unanswered_not e f call pick (asked_in_vain e f call unqualified h) a))
      | Some own ↦ (λ h. first_is-first (look_of e f call) pick (asks_of e call) (h ∙ ap Some (one_answer e f call own pick (asked_by e f call own unqualified h) a)))
    ]
    in by (first_of (look_of e f call) (asks_of e call)) refl

pub unanswered_exactly : (e : EngineLists) (f : Frame) (call : CallRequest) → is_unqualified (plan_of call).search ≡ true → IsUnanswered e f call ↔ (NoneMatches e f call × ((pick : Pick) → HasBuiltin e call pick → ⊥))
unanswered_exactly e f call unqualified =
    let back : NoneMatches e f call × NoBuiltin e call → (o : Option Pick) → first_of (look_of e f call) (asks_of e call) ≡ o → IsUnanswered e f call = λ none. elim [
      | None ↦ (λ h. first_none (look_of e f call) (asks_of e call) h)
      | Some own ↦ (λ h. absurd (unanswered_not e f call own none (asked_by e f call own unqualified h)))
    ]
    in (λ h. asked_in_vain e f call unqualified (none_first (look_of e f call) (asks_of e call) h), λ none. back none (first_of (look_of e f call) (asks_of e call)) refl)

-- What a function receives has the kinds of the arguments.

copied_tag : (k : Kind) → tag_of_kind (copied_kind k) ≡ tag_of_kind k
copied_tag unit = refl
copied_tag (boolean b) = refl
copied_tag (integer z) = refl
copied_tag (character c) = refl
copied_tag (text s) = refl
copied_tag (array ts) = refl
copied_tag (object es) = refl
copied_tag (pointer n ts p) = refl
copied_tag (custom n z) = refl

pub same_kinds : (convention : Convention) (shape : CallShape) → map tag_of (all_received (received convention shape)) ≡ map tag_of (all_args shape)
same_kinds native_method (Plain []) = refl
same_kinds native_method (Plain (a ∷ args)) = refl
same_kinds native_method (ByRef a args) = refl
same_kinds native_method (Method target args) = refl
same_kinds other_native (Plain args) = refl
same_kinds other_native (ByRef a args) = (λ i. copied_tag a.kind i ∷ map tag_of args)
same_kinds other_native (Method target args) = (λ i. copied_tag target.kind i ∷ map tag_of args)
same_kinds script (Plain args) = refl
same_kinds script (ByRef a args) = (λ i. copied_tag a.kind i ∷ map tag_of args)
same_kinds script (Method target args) = refl

received_types : (e : EngineLists) (call : CallRequest) (other : Key) (name : Bytes) (types : List TypeTag) → MatchesCall e call other → other ≡ Native None name types → TypesMatch types (kinds_in call)
received_types e call other name types (by_type x xs a s k) o = absurd (typed_native other (plan_of call).name name (length xs) (display e x) types k o)
received_types e call other name types (by_number a k) o = absurd (script_native other (plan_of call).name name (params_of (plan_of call).shape) types k o)
received_types e call other name types (by_kinds own k m) o = subst (λ ts. TypesMatch ts (kinds_in call)) (same_natives other (plan_of call).name name own types k o) m

pub receives : (e : EngineLists) (call : CallRequest) (name : Bytes) (types : List TypeTag) (convention : Convention) → MatchesCall e call (Native None name types)
    → TypesMatch types (map tag_of (all_received (received convention (plan_of call).shape)))
receives e call name types convention m = subst (TypesMatch types) (sym (same_kinds convention (plan_of call).shape)) (received_types e call (Native None name types) name types m refl)

-- a call that isn't found has no ask that is found
pub not_found_unanswered : {H B : Type 0} {o : Objects H B} {e : EngineLists} {f : Frame} {level : ℕ} {call : CallRequest} {from to : H} {end : End} → AllFail o e f level call from to end → IsUnanswered e f call
not_found_unanswered (and_no_host u only h) = h
not_found_unanswered (and_host asked ended) = asked.unanswered

-- a call that the host is asked for is unqualified
pub hosts_unqualified : (search : Search) → without_host search ≡ false → is_unqualified search ≡ true
hosts_unqualified (by_name token native_only) h = refl
hosts_unqualified (in_module path) h = absurd cc
