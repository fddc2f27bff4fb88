-- A call is answered by the first of its asks that is found.
use Rattle.std.proofs.Common.{◌≡◌, ℕ, Bool, true, false, List, [], ◌∷◌, refl, sym, ap, subst, ◌∙◌, ◌⊎◌, inl, inr}
use Rattle.std.specs.Prelude.{◌↔◌, Option, Some, None, not, ◌&&◌, if◌then◌else◌}
use Rattle.std.specs.Option.{option_or}
use Rattle.rhd_value.specs.Firsts.{first_of, IsFirst, here, later, NoneHas}
use Rattle.rhd_func.specs.declared.request.CallRequest.{CallRequest}
use Rattle.rhd_func.specs.declared.request.HostAnswer.{HostAnswer}
use Rattle.rhd_func.specs.Funcs.{is_pure, is_script}
use Rattle.rhd_func.specs.Shapes.{all_args, is_method_shape}
use Rattle.rhd_value.specs.Tree.{Bytes, Tree}
use Rattle.rhd_call.specs.declared.node.CallNode.{CallNode}
use Rattle.rhd_call.specs.declared.pick.Pick.{Pick}
use Rattle.rhd_engine.specs.Engine.{EngineLists, Frame}
use Rattle.rhd_machine.specs.World.{World, Objects, Moment}
use Rattle.rhd_dispatch.specs.Asks.{looked, native, native_found, builtin}
use Rattle.rhd_dispatch.specs.Patterns.{patterns}
use Rattle.rhd_dispatch.specs.Searched.{found, pick_at, searched}
use Rattle.rhd_hash.specs.declared.key.Key.{Key}
use Rattle.rhd_value.specs.declared.tag.TypeTag.{TypeTag}
use Rattle.rhd_names.specs.declared.token.OpToken.{OpToken}
use Rattle.rhd_machine.specs.Plans.{Plan, plan_of}
use Rattle.rhd_call.specs.End.{End}
use Rattle.rhd_machine.specs.Ends.{host_end}
use Rattle.rhd_laws.specs.Owners.{shown_pick}
use Rattle.rhd_machine.specs.Decisions.{asks_of, look_of, Decision, ends, asks_host, runs, pick_of, decided, refusal, unless_refused, decision, is_on_constant, constant_end, picked}
use Rattle.rhd_machine.specs.Received.{received, convention_of, first_received, is_read_only}
use Rattle.rhd_call.specs.Seen.{seen, unbegun_node}
use Rattle.rhd_machine.specs.Runs.{Runs, not_begun, ended, host_answered, finished, cut_short}
use Rattle.rhd_machine.proofs.Found.{runs_only, decided_runs, decided_constant, decided_refused, decided_ends, decided_asks, unpicked_ends, unpicked_asks}
use Rattle.rhd_laws.specs.Hosts.{HostEnds, EndsByHost}
use Rattle.rhd_laws.specs.FirstAsks.{IsAnsweredFirst, IsForHost, EndsAlone, is_refused, isnt_found, on_constant, IsOnConstant, IsOfFirstPlace, IsOfFirstPattern}

-- what is found first is the first that is found
pub first_is-first : {A B : Type 0} (f : A → Option B) (y : B) (xs : List A) → first_of f xs ≡ Some y → IsFirst f y xs
first_is-first f y [] h = absurd (cc)
first_is-first f y (x ∷ xs) h =
    let by_head : (o : Option _) → f x ≡ o → option_or o (first_of f xs) ≡ Some y → IsFirst f y (x ∷ xs) =
    elim [ None ↦ (λ e r. later e (first_is-first f y xs r) refl) | Some z ↦ (λ e r. here (e ∙ r) refl) ]
    in by_head (f x) refl h

pub is-first_first : {A B : Type 0} (f : A → Option B) (y : B) (xs : List A) → IsFirst f y xs → first_of f xs ≡ Some y
is-first_first f y xs (here {xs = rest} h e) = ap (first_of f) e ∙ ap (λ (o : Option _). option_or o (first_of f rest)) h
is-first_first f y xs (later {xs = rest} h r e) = ap (first_of f) e ∙ ap (λ (o : Option _). option_or o (first_of f rest)) h ∙ is-first_first f y rest r

-- nothing is found where none is
pub first_none : {A B : Type 0} (f : A → Option B) (xs : List A) → first_of f xs ≡ None → NoneHas f xs
first_none f [] h = tt
first_none f (x ∷ xs) h =
    let by_head : (o : Option _) → f x ≡ o → option_or o (first_of f xs) ≡ None → NoneHas f (x ∷ xs) =
    elim [ None ↦ (λ e r. (e, first_none f xs r)) | Some z ↦ (λ e r. absurd (cc)) ]
    in by_head (f x) refl h

pub none_first : {A B : Type 0} (f : A → Option B) (xs : List A) → NoneHas f xs → first_of f xs ≡ None
none_first f [] n = refl
none_first f (x ∷ xs) n = ap (λ (o : Option _). option_or o (first_of f xs)) n.0 ∙ none_first f xs n.1

-- the pick of a call is what its first ask gives that gives something
pub pick_asks : (e : EngineLists) (f : Frame) (call : CallRequest) → pick_of e f (plan_of call) ≡ first_of (look_of e f call) (asks_of e call)
pick_asks e f call = refl

-- the test for a constant, by what it says
and_parts : (a b : Bool) → (a && b) ≡ true → (a ≡ true) × (b ≡ true)
and_parts true b h = (refl, h)
and_parts false b h = absurd cc

not_true : (b : Bool) → not b ≡ true → b ≡ false
not_true true h = absurd cc
not_true false h = refl

read_only_by : (e : EngineLists) (plan : Plan) (pick : Pick) (o : Option Tree) → is_script pick.func ≡ false → is_pure e.natives pick.func ≡ false
    → first_received (received (convention_of e.natives pick.func) plan.shape) ≡ o → is_read_only o ≡ true → IsOnConstant e plan pick
read_only_by e plan pick None s p is h = absurd cc
read_only_by e plan pick (Some first) s p is h = record { native = s; impure = p; first = first; receives = is; constant = h }

pub constant_is : (e : EngineLists) (plan : Plan) (pick : Pick) → is_on_constant e plan pick ≡ true → IsOnConstant e plan pick
constant_is e plan pick h =
    let a = and_parts (not (is_script pick.func)) (not (is_pure e.natives pick.func) && is_read_only (first_received (received (convention_of e.natives pick.func) plan.shape))) h in
    let b = and_parts (not (is_pure e.natives pick.func)) (is_read_only (first_received (received (convention_of e.natives pick.func) plan.shape))) a.1 in
    read_only_by e plan pick (first_received (received (convention_of e.natives pick.func) plan.shape)) (not_true (is_script pick.func) a.0) (not_true (is_pure e.natives pick.func) b.0) refl b.1

pub is_constant : (e : EngineLists) (plan : Plan) (pick : Pick) → IsOnConstant e plan pick → is_on_constant e plan pick ≡ true
is_constant e plan pick r = (λ i. not (r.native i) && (not (r.impure i) && is_read_only (r.receives i))) ∙ r.constant

free_is : (e : EngineLists) (plan : Plan) (pick : Pick) → is_on_constant e plan pick ≡ false → IsOnConstant e plan pick → ⊥
free_is e plan pick h r = let q : false ≡ true = sym h ∙ is_constant e plan pick r in absurd cc

is_free : (e : EngineLists) (plan : Plan) (pick : Pick) → (IsOnConstant e plan pick → ⊥) → is_on_constant e plan pick ≡ false
is_free e plan pick free =
    let by : (b : Bool) → is_on_constant e plan pick ≡ b → b ≡ false = elim [ true ↦ (λ h. absurd (free (constant_is e plan pick h))) | false ↦ (λ h. refl) ]
    in by (is_on_constant e plan pick) refl

-- a function runs exactly where nothing refuses the call, as the first ask's that is found, unless it isn't for a constant
pub runs_first : (e : EngineLists) (f : Frame) (level : ℕ) (call : CallRequest) (plan : Plan) (pick : Pick) → decision e f level call ≡ runs plan pick
    → (refusal e f level call ≡ None) × (plan ≡ plan_of call) × IsAnsweredFirst e f call pick × (IsOnConstant e (plan_of call) pick → ⊥)
unfolding decision
runs_first e f level call plan pick d =
    let r = runs_only e (refusal e f level call) (plan_of call) (pick_of e f (plan_of call)) plan pick d in
    (r.0, r.1, first_is-first (look_of e f call) pick (asks_of e call) (sym (pick_asks e f call) ∙ r.2), free_is e (plan_of call) pick r.3)

found_first : (e : EngineLists) (f : Frame) (call : CallRequest) (pick : Pick) → IsAnsweredFirst e f call pick → Some pick ≡ pick_of e f (plan_of call)
found_first e f call pick first = sym (pick_asks e f call ∙ is-first_first (look_of e f call) pick (asks_of e call) first)

pub first_runs : (e : EngineLists) (f : Frame) (level : ℕ) (call : CallRequest) (plan : Plan) (pick : Pick)
    → (refusal e f level call ≡ None) × (plan ≡ plan_of call) × IsAnsweredFirst e f call pick × (IsOnConstant e (plan_of call) pick → ⊥) → decision e f level call ≡ runs plan pick
first_runs e f level call plan pick r =
    decided_runs e f level call pick r.0 (found_first e f call pick r.2) (is_free e (plan_of call) pick r.3) ∙ (λ i. runs (sym r.1 i) pick)

pub first_constant : (e : EngineLists) (f : Frame) (level : ℕ) (call : CallRequest) (pick : Pick) → refusal e f level call ≡ None → IsAnsweredFirst e f call pick → IsOnConstant e (plan_of call) pick
    → decision e f level call ≡ ends (Some pick) (constant_end (plan_of call))
first_constant e f level call pick unrefused first on = decided_constant e f level call pick unrefused (found_first e f call pick first) (is_constant e (plan_of call) pick on)

-- nothing runs exactly where the call is refused, or no ask is found, or the function isn't for a constant
ends_picked : (e : EngineLists) (f : Frame) (level : ℕ) (call : CallRequest) (own : Pick) (pick : Option Pick) (end : End) (b : Bool) → is_on_constant e (plan_of call) own ≡ b
    → refusal e f level call ≡ None → pick_of e f (plan_of call) ≡ Some own
    → (if b then ends (Some own) (constant_end (plan_of call)) else runs (plan_of call) own) ≡ ends pick end → EndsAlone e f level call pick end
ends_picked e f level call own pick end true on unrefused found d =
    on_constant own (cc) unrefused (first_is-first (look_of e f call) own (asks_of e call) (sym (pick_asks e f call) ∙ found)) (constant_is e (plan_of call) own on) (cc)
ends_picked e f level call own pick end false on unrefused found d = absurd cc

ends_by : (e : EngineLists) (f : Frame) (level : ℕ) (call : CallRequest) (r : Option End) (o : Option Pick) (pick : Option Pick) (end : End) → refusal e f level call ≡ r
    → pick_of e f (plan_of call) ≡ o → unless_refused r (decided e (plan_of call) o) ≡ ends pick end → EndsAlone e f level call pick end
ends_by e f level call (Some x) o pick end u is d = is_refused (cc) (u ∙ (let same : x ≡ end = cc in ap Some same))
ends_by e f level call None None pick end u is d =
    let h = unpicked_ends e (plan_of call) (plan_of call).search pick end d in isnt_found h.1 u h.0 h.2 (first_none (look_of e f call) (asks_of e call) (sym (pick_asks e f call) ∙ is))
ends_by e f level call None (Some own) pick end u is d = ends_picked e f level call own pick end (is_on_constant e (plan_of call) own) refl u is d

pub ends_missing : (e : EngineLists) (f : Frame) (level : ℕ) (call : CallRequest) (pick : Option Pick) (end : End) → decision e f level call ≡ ends pick end → EndsAlone e f level call pick end
unfolding decision
ends_missing e f level call pick end d = ends_by e f level call (refusal e f level call) (pick_of e f (plan_of call)) pick end refl refl d

pub missing_ends : (e : EngineLists) (f : Frame) (level : ℕ) (call : CallRequest) (pick : Option Pick) (end : End) → EndsAlone e f level call pick end → decision e f level call ≡ ends pick end
missing_ends e f level call pick end (is_refused none u) = decided_refused e f level call end u ∙ (λ i. ends (sym none i) end)
missing_ends e f level call pick end (isnt_found none u only m un) =
    decided_ends e f level call u only (sym (pick_asks e f call ∙ none_first (look_of e f call) (asks_of e call) un)) ∙ (λ i. ends (sym none i) (sym m i))
missing_ends e f level call pick end (on_constant own some u first on m) = first_constant e f level call own u first on ∙ (λ i. ends (sym some i) (sym m i))

alone_first : (e : EngineLists) (f : Frame) (level : ℕ) (call : CallRequest) (shown : Option Pick) (end : End) (pick : Pick) → EndsAlone e f level call shown end → shown ≡ Some pick
    → (refusal e f level call ≡ None) × IsAnsweredFirst e f call pick
alone_first e f level call shown end pick (is_refused none u) h = let q : None ≡ Some pick = sym none ∙ h in absurd cc
alone_first e f level call shown end pick (isnt_found none u only m un) h = let q : None ≡ Some pick = sym none ∙ h in absurd cc
alone_first e f level call shown end pick (on_constant own some u first on m) h =
    let q : Some own ≡ Some pick = sym some ∙ h in
    let same : own ≡ pick = cc in
    (u, subst (λ (p : Pick). IsAnsweredFirst e f call p) same first)

-- where nothing runs and yet there is a pick, that isn't for a constant
pub constant_of : (e : EngineLists) (f : Frame) (level : ℕ) (call : CallRequest) (shown : Option Pick) (end : End) (pick : Pick) → EndsAlone e f level call shown end → shown ≡ Some pick → IsOnConstant e (plan_of call) pick
constant_of e f level call shown end pick (is_refused none u) h = let q : None ≡ Some pick = sym none ∙ h in absurd cc
constant_of e f level call shown end pick (isnt_found none u only m un) h = let q : None ≡ Some pick = sym none ∙ h in absurd cc
constant_of e f level call shown end pick (on_constant own some u first on m) h =
    let q : Some own ≡ Some pick = sym some ∙ h in
    let same : own ≡ pick = cc in subst (IsOnConstant e (plan_of call)) same on

-- the host is asked exactly where nothing refuses the call, scripts are allowed, and no ask is found
picked_asks : (plan : Plan) (own : Pick) (other : Plan) (b : Bool) → (if b then ends (Some own) (constant_end plan) else runs plan own) ≡ asks_host other → ⊥
picked_asks plan own other true h = absurd cc
picked_asks plan own other false h = absurd cc

asks_by_host : (e : EngineLists) (f : Frame) (level : ℕ) (call : CallRequest) (plan : Plan) (r : Option End) (o : Option Pick) → refusal e f level call ≡ r → pick_of e f (plan_of call) ≡ o
    → unless_refused r (decided e (plan_of call) o) ≡ asks_host plan → (plan ≡ plan_of call) × IsForHost e f level call
asks_by_host e f level call plan (Some x) o u is d = absurd cc
asks_by_host e f level call plan None (Some own) u is d = absurd (picked_asks (plan_of call) own plan (is_on_constant e (plan_of call) own) d)
asks_by_host e f level call plan None None u is d =
    let h = unpicked_asks e (plan_of call) (plan_of call).search plan d in
    (h.1, record { unrefused = u; scripts = h.0; unanswered = first_none (look_of e f call) (asks_of e call) (sym (pick_asks e f call) ∙ is) })

pub asks_first : (e : EngineLists) (f : Frame) (level : ℕ) (call : CallRequest) (plan : Plan) → decision e f level call ≡ asks_host plan → (plan ≡ plan_of call) × IsForHost e f level call
unfolding decision
asks_first e f level call plan d = asks_by_host e f level call plan (refusal e f level call) (pick_of e f (plan_of call)) refl refl d

pub first_asks : (e : EngineLists) (f : Frame) (level : ℕ) (call : CallRequest) (plan : Plan) → (plan ≡ plan_of call) × IsForHost e f level call → decision e f level call ≡ asks_host plan
first_asks e f level call plan h =
    decided_asks e f level call h.1.unrefused h.1.scripts (sym (pick_asks e f call ∙ none_first (look_of e f call) (asks_of e call) h.1.unanswered)) ∙ ap asks_host (sym h.0)

-- what becomes of a call by the first ask's function that is found
pub first_picked : (e : EngineLists) (f : Frame) (level : ℕ) (call : CallRequest) (pick : Pick) → refusal e f level call ≡ None → IsAnsweredFirst e f call pick → decision e f level call ≡ picked e (plan_of call) pick
unfolding decision
first_picked e f level call pick unrefused first =
    ap (λ (o : Option End). unless_refused o (decided e (plan_of call) (pick_of e f (plan_of call)))) unrefused ∙ ap (decided e (plan_of call)) (sym (found_first e f call pick first))

ends_shows : (plan : Plan) (pick : Pick) (shown : Option Pick) (end : End) (b : Bool) → (if b then ends (Some pick) (constant_end plan) else runs plan pick) ≡ ends shown end → shown ≡ Some pick
ends_shows plan pick shown end true h = cc
ends_shows plan pick shown end false h = absurd cc

runs_shown : (plan : Plan) (pick : Pick) (other : Plan) (shown : Pick) (b : Bool) → (if b then ends (Some pick) (constant_end plan) else runs plan pick) ≡ runs other shown → shown ≡ pick
runs_shown plan pick other shown true h = absurd cc
runs_shown plan pick other shown false h = cc

pub ends_pick : (e : EngineLists) (f : Frame) (level : ℕ) (call : CallRequest) (pick : Pick) (shown : Option Pick) (end : End) → (refusal e f level call ≡ None) × IsAnsweredFirst e f call pick
    → decision e f level call ≡ ends shown end → shown ≡ Some pick
ends_pick e f level call pick shown end h d = ends_shows (plan_of call) pick shown end (is_on_constant e (plan_of call) pick) (sym (first_picked e f level call pick h.0 h.1) ∙ d)

pub runs_pick : (e : EngineLists) (f : Frame) (level : ℕ) (call : CallRequest) (pick : Pick) (plan : Plan) (shown : Pick) → (refusal e f level call ≡ None) × IsAnsweredFirst e f call pick
    → decision e f level call ≡ runs plan shown → shown ≡ pick
runs_pick e f level call pick plan shown h d = runs_shown (plan_of call) pick plan shown (is_on_constant e (plan_of call) pick) (sym (first_picked e f level call pick h.0 h.1) ∙ d)

pub asks_no_pick : (e : EngineLists) (f : Frame) (level : ℕ) (call : CallRequest) (pick : Pick) (plan : Plan) → (refusal e f level call ≡ None) × IsAnsweredFirst e f call pick → decision e f level call ≡ asks_host plan → ⊥
asks_no_pick e f level call pick plan h d = picked_asks (plan_of call) pick plan (is_on_constant e (plan_of call) pick) (sym (first_picked e f level call pick h.0 h.1) ∙ d)

-- the function that a call shows is the first ask's that is found
shows_picked : (e : EngineLists) (f : Frame) (level : ℕ) (call : CallRequest) (pick : Pick) (d : Decision) → decision e f level call ≡ d → shown_pick d ≡ Some pick → (refusal e f level call ≡ None) × IsAnsweredFirst e f call pick
shows_picked e f level call pick (ends shown end) d h = alone_first e f level call shown end pick (ends_missing e f level call shown end d) h
shows_picked e f level call pick (asks_host plan) d h = absurd cc
shows_picked e f level call pick (runs plan own) d h =
    let same : own ≡ pick = cc in
    let r = runs_first e f level call plan pick (d ∙ ap (runs plan) same) in (r.0, r.2)

picked_shows : (plan : Plan) (pick : Pick) (b : Bool) → shown_pick (if b then ends (Some pick) (constant_end plan) else runs plan pick) ≡ Some pick
picked_shows plan pick true = refl
picked_shows plan pick false = refl

pub picked_exactly : (e : EngineLists) (f : Frame) (level : ℕ) (call : CallRequest) (pick : Pick) → (shown_pick (decision e f level call) ≡ Some pick) ↔ ((refusal e f level call ≡ None) × IsAnsweredFirst e f call pick)
picked_exactly e f level call pick =
    (λ h. shows_picked e f level call pick (decision e f level call) refl h, λ h. ap shown_pick (first_picked e f level call pick h.0 h.1) ∙ picked_shows (plan_of call) pick (is_on_constant e (plan_of call) pick))

-- what the native ask gives
looked_by : (e : EngineLists) (f : Frame) (name : Bytes) (kinds : List TypeTag) (token : Option OpToken) (pick : Pick) (o : Option Pick)
    → first_of (native_found e f.lib f.imports name) (patterns kinds) ≡ o → option_or o (builtin e token kinds) ≡ Some pick → IsOfFirstPattern e f name kinds token pick
looked_by e f name kinds token pick None is h = inr (first_none (native_found e f.lib f.imports name) (patterns kinds) is, h)
looked_by e f name kinds token pick (Some p) is h = inl (first_is-first (native_found e f.lib f.imports name) pick (patterns kinds) (is ∙ h))

pub looked_first : (e : EngineLists) (f : Frame) (name : Bytes) (kinds : List TypeTag) (token : Option OpToken) (pick : Pick) → looked e f.lib f.imports (native name kinds token) ≡ Some pick → IsOfFirstPattern e f name kinds token pick
looked_first e f name kinds token pick h = looked_by e f name kinds token pick (first_of (native_found e f.lib f.imports name) (patterns kinds)) refl h

pub first_looked : (e : EngineLists) (f : Frame) (name : Bytes) (kinds : List TypeTag) (token : Option OpToken) (pick : Pick) → IsOfFirstPattern e f name kinds token pick → looked e f.lib f.imports (native name kinds token) ≡ Some pick
first_looked e f name kinds token pick (inl first) = ap (λ (o : Option Pick). option_or o (builtin e token kinds)) (is-first_first (native_found e f.lib f.imports name) pick (patterns kinds) first)
first_looked e f name kinds token pick (inr built) = ap (λ (o : Option Pick). option_or o (builtin e token kinds)) (none_first (native_found e f.lib f.imports name) (patterns kinds) built.0) ∙ built.1

-- a key is found in the first place that has it
pub key_first : (e : EngineLists) (f : Frame) (key : Key) (pick : Pick) → found e f.lib f.imports key ≡ Some pick → IsOfFirstPlace e f key pick
unfolding found
key_first e f key pick h = first_is-first (pick_at key) pick (searched e f.lib f.imports) h

pub first_key : (e : EngineLists) (f : Frame) (key : Key) (pick : Pick) → IsOfFirstPlace e f key pick → found e f.lib f.imports key ≡ Some pick
unfolding found
first_key e f key pick h = is-first_first (pick_at key) pick (searched e f.lib f.imports) h

-- the answer of a host to the plan of a call
pub host_ends : {H B : Type 0} (o : Objects H B) (e : EngineLists) (call : CallRequest) (plan : Plan) (from : H) (answer : HostAnswer) (to : H) {end : End} → plan ≡ plan_of call
    → o.host_answers from plan.name (all_args plan.shape) (is_method_shape plan.shape) answer to → end ≡ host_end e plan answer → HostEnds o e call from answer to end
host_ends o e call plan from answer to {end} is a k =
    subst (λ (p : Plan). o.host_answers from p.name (all_args p.shape) (is_method_shape p.shape) answer to → end ≡ host_end e p answer → HostEnds o e call from answer to end) (sym is) (λ b h. record { answers = b; ends = h }) a k

-- what a node that was begun shows: its pick is the first ask's that is found, or it ends alone
pub shows_first : {H B : Type 0} {o : Objects H B} {w : World} {f : Frame} {level : ℕ} {call : CallRequest} {node : CallNode} {before after : Moment H B} {cut : Bool} (pick : Pick)
    → Runs o w f level call node before after cut → (seen node).pick ≡ Some pick → (refusal w.engine f level call ≡ None) × IsAnsweredFirst w.engine f call pick
shows_first pick (not_begun b s) h = let q : None ≡ Some pick = sym (ap (λ x. x.pick) s) ∙ h in absurd cc
shows_first {w = w} {f = f} {level = level} {call = call} pick (ended {pick = p} {end = end} b d s) h =
    alone_first w.engine f level call p end pick (ends_missing w.engine f level call p end d) (sym (ap (λ x. x.pick) s) ∙ h)
shows_first pick (host_answered b d a s) h = let q : None ≡ Some pick = sym (ap (λ x. x.pick) s) ∙ h in absurd cc
shows_first {w = w} {f = f} {level = level} {call = call} pick (finished {plan = plan} {pick = p} b d starts steps e s) h =
    let q : Some p ≡ Some pick = sym (ap (λ x. x.pick) s) ∙ h in
    let same : p ≡ pick = cc in
    let r = runs_first w.engine f level call plan pick (d ∙ ap (runs plan) same) in (r.0, r.2)
shows_first {w = w} {f = f} {level = level} {call = call} pick (cut_short {plan = plan} {pick = p} b d starts steps r s) h =
    let q : Some p ≡ Some pick = sym (ap (λ x. x.pick) s) ∙ h in
    let same : p ≡ pick = cc in
    let r = runs_first w.engine f level call plan pick (d ∙ ap (runs plan) same) in (r.0, r.2)

pub shows_missing : {H B : Type 0} {o : Objects H B} {w : World} {f : Frame} {level : ℕ} {call : CallRequest} {node : CallNode} {before after : Moment H B} {cut : Bool}
    → Runs o w f level call node before after cut → (seen node).begun ≡ true → (seen node).pick ≡ None
    → EndsAlone w.engine f level call None (seen node).end ⊎ EndsByHost o w.engine f level call before.host after.host (seen node).end
shows_missing (not_begun b s) begun h = let q : false ≡ true = sym (ap (λ x. x.begun) s) ∙ begun in absurd cc
shows_missing {w = w} {f = f} {level = level} {call = call} {node = node} (ended {pick = p} {end = end} b d s) begun h =
    inl (subst (λ (q : Option Pick). EndsAlone w.engine f level call q (seen node).end) (sym (ap (λ x. x.pick) s) ∙ h)
    (subst (EndsAlone w.engine f level call p) (sym (ap (λ x. x.end) s)) (ends_missing w.engine f level call p end d)))
shows_missing {o = o} {w = w} {f = f} {level = level} {call = call} (host_answered {before = before} {plan = plan} {answer = answer} {host = host} b d a s) begun h =
    let r = asks_first w.engine f level call plan d in
    inr (r.1, answer, host_ends o w.engine call plan before.host answer host r.0 a (ap (λ x. x.end) s))
shows_missing (finished {pick = p} b d starts steps e s) begun h = let q : Some p ≡ None = sym (ap (λ x. x.pick) s) ∙ h in absurd cc
shows_missing (cut_short {pick = p} b d starts steps r s) begun h = let q : Some p ≡ None = sym (ap (λ x. x.pick) s) ∙ h in absurd cc

-- a node shows a call that isn't begun exactly where the budget was spent before it, and the calls begun never get fewer
pub shows_unbegun : {H B : Type 0} {o : Objects H B} {w : World} {f : Frame} {level : ℕ} {call : CallRequest} {node : CallNode} {before after : Moment H B} {cut : Bool}
    → Runs o w f level call node before after cut → (seen node).begun ≡ false → (before.begun ≡ w.engine.limits.budget) × (after ≡ before) × (seen node ≡ unbegun_node call level)
shows_unbegun (not_begun b s) h = (b, refl, s)
shows_unbegun (ended b d s) h = let q : true ≡ false = sym (ap (λ x. x.begun) s) ∙ h in absurd cc
shows_unbegun (host_answered b d a s) h = let q : true ≡ false = sym (ap (λ x. x.begun) s) ∙ h in absurd cc
shows_unbegun (finished b d starts steps e s) h = let q : true ≡ false = sym (ap (λ x. x.begun) s) ∙ h in absurd cc
shows_unbegun (cut_short b d starts steps r s) h = let q : true ≡ false = sym (ap (λ x. x.begun) s) ∙ h in absurd cc
