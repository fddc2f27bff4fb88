-- What answers a qualified call in the module at which its path begins.
use Rattle.std.proofs.Common.{◌≡◌, List, refl, sym, ap, ◌∙◌, ◌⊎◌, inl, inr}
use Rattle.std.specs.Prelude.{◌↔◌, Option, Some, None, option_map}
use Rattle.std.specs.Map.{lookup}
use Rattle.std.specs.Option.{option_or}
use Rattle.rhd_value.specs.Firsts.{first_of}
use Rattle.rhd_value.specs.Tree.{Bytes}
use Rattle.rhd_value.specs.declared.tag.TypeTag.{TypeTag}
use Rattle.rhd_func.specs.declared.request.CallRequest.{CallRequest}
use Rattle.rhd_decl.specs.declared.declaration.Declaration.{Declaration}
use Rattle.rhd_hash.specs.declared.key.Key.{Key}
use Rattle.rhd_hash.specs.FirstPairs.{NoneWith}
use Rattle.rhd_hash.proofs.FirstFound.{missing_none, none_missing}
use Rattle.rhd_hash.specs.Keys.{key_eq, key_eq-Decides}
use Rattle.rhd_call.specs.declared.pick.Pick.{Pick}
use Rattle.rhd_engine.specs.Engine.{EngineLists, Frame}
use Rattle.rhd_dispatch.specs.Patterns.{patterns_to}
use Rattle.rhd_dispatch.specs.Picks.{root_of, qualified_asks, looked_in}
use Rattle.rhd_dispatch.specs.Searched.{Place, pick_at}
use Rattle.rhd_machine.specs.Plans.{Search, in_module, plan_of}
use Rattle.rhd_machine.specs.Decisions.{asks_by, look_by, asks_of, look_of}
use Rattle.rhd_laws.specs.FirstAsks.{IsAnsweredFirst, IsUnanswered}
use Rattle.rhd_laws.specs.Matches.{TypesMatch, IsMoreExact, kinds_in}
use Rattle.rhd_laws.specs.Qualified.{script_key, native_key, IsPickOf, IsAnsweredIn, by_script, by_native, NoneAnswersIn}
use Rattle.rhd_laws.proofs.FirstAnswered.{first_is-first, is-first_first, first_none, none_first}
use Rattle.rhd_laws.proofs.PatternOrder.{or_cases, or_parts, or_nones, or_none, none_matching, matching_none, first_pattern, FirstOf, first_types, match_to, types_match, before_is, is_before, in_order, Ordered, first_goes, second_goes, same_types}
use Rattle.rhd_laws.proofs.PickPlaces.{got, made, PlacePick, place_pick, has_pick, pick_of}

-- What a place has under a key.

pick_is : (place : Place) (key : Key) (pick : Pick) → pick_at key place ≡ Some pick → IsPickOf place key pick
pick_is place key pick h =
    let by : PlacePick key place pick → IsPickOf place key pick = elim [ place_pick d is layer func source ↦ record { decl = d; declared = is; layer = layer; func = func; source = source } ]
    in by (has_pick key place pick h)

is_pick : (place : Place) (key : Key) (pick : Pick) → IsPickOf place key pick → pick_at key place ≡ Some pick
is_pick place key pick r = pick_of key place pick r.decl r.declared r.layer r.func r.source

none_by : (place : Place) (o : Option Declaration) → option_map (made place) o ≡ None → o ≡ None
none_by place None h = refl
none_by place (Some d) h = absurd cc

none_is : (place : Place) (key : Key) → pick_at key place ≡ None → NoneWith key place.pairs
unfolding pick_at
none_is place key h = missing_none key_eq key_eq-Decides key place.pairs (none_by place (lookup (key_eq key) place.pairs) h)

is_none : (place : Place) (key : Key) → NoneWith key place.pairs → pick_at key place ≡ None
unfolding pick_at
is_none place key none = ap (option_map (made place)) (none_missing key_eq key_eq-Decides key place.pairs none)

-- The asks of a qualified call.

abbrev script_at : Place → List Bytes → CallRequest → Option Pick
script_at place path call = pick_at (script_key path call) place

abbrev native_at : Place → List Bytes → CallRequest → List TypeTag → Option Pick
native_at place path call types = pick_at (native_key path call types) place

abbrev natives_at : Place → List Bytes → CallRequest → Option Pick
natives_at place path call = first_of (native_at place path call) (patterns_to 16 (kinds_in call))

asked : (e : EngineLists) (f : Frame) (call : CallRequest) (path : List Bytes) (place : Place) → (plan_of call).search ≡ in_module path → root_of e f.imports path ≡ Some place
    → first_of (look_of e f call) (asks_of e call) ≡ option_or (script_at place path call) (option_or (natives_at place path call) None)
asked e f call path place search root =
    ap (λ (s : Search). first_of (look_by e f s) (asks_by e (plan_of call) s)) search ∙ ap (λ (o : Option Place). first_of (looked_in path o) (qualified_asks (plan_of call).name (plan_of call).shape)) root

-- One pick answers it.

native_first : (place : Place) (path : List Bytes) (call : CallRequest) (pick : Pick) → script_at place path call ≡ None → FirstOf (native_at place path call) 16 (kinds_in call) pick → IsAnsweredIn place path call pick
native_first place path call pick none (first_types types m h first) =
    let own : TypesMatch types (kinds_in call) = types_match types (kinds_in call) m in
    by_native types (none_is place (script_key path call) none) own (pick_is place (native_key path call types) pick h)
    (λ others o x. none_is place (native_key path call others) (first others (match_to others (kinds_in call) o) (before_is (kinds_in call) others types o.as_many own.as_many x)))

pub asked_in : (place : Place) (path : List Bytes) (call : CallRequest) (pick : Pick) → option_or (script_at place path call) (option_or (natives_at place path call) None) ≡ Some pick → IsAnsweredIn place path call pick
asked_in place path call pick h =
    let by : (script_at place path call ≡ Some pick) ⊎ ((script_at place path call ≡ None) × (option_or (natives_at place path call) None ≡ Some pick)) → IsAnsweredIn place path call pick = elim [
      | inl q ↦ by_script (pick_is place (script_key path call) pick q)
      | inr q ↦ native_first place path call pick q.0 (first_pattern (native_at place path call) 16 (kinds_in call) pick (sym (or_none (natives_at place path call)) ∙ q.1))
    ]
    in by (or_cases (script_at place path call) (option_or (natives_at place path call) None) pick h)

none_some : (pick : Pick) (o : Option Pick) → o ≡ None → o ≡ Some pick → ⊥
none_some pick o none some = let q : None ≡ Some pick = sym none ∙ some in absurd cc

-- no native with more exact types that match
abbrev NoneBefore : Place → List Bytes → CallRequest → List TypeTag → Type 0
NoneBefore place path call types = (others : List TypeTag) → TypesMatch others (kinds_in call) → IsMoreExact (kinds_in call) others types → NoneWith (native_key path call others) place.pairs

same_native : (place : Place) (path : List Bytes) (call : CallRequest) (types : List TypeTag) (pick own : Pick) → TypesMatch types (kinds_in call) → native_at place path call types ≡ Some pick → NoneBefore place path call types
    → FirstOf (native_at place path call) 16 (kinds_in call) own → own ≡ pick
same_native place path call types pick own m h none (first_types others o k first) =
    let by : Ordered (kinds_in call) types others → own ≡ pick = elim [
      | first_goes b ↦ absurd (none_some pick (native_at place path call types) (first types (match_to types (kinds_in call) m) b) h)
      | second_goes b ↦ absurd (none_some own (native_at place path call others) (is_none place (native_key path call others) (none others (types_match others (kinds_in call) o) (is_before (kinds_in call) others types b))) k)
      | same_types s ↦ got own pick (sym k ∙ ap (native_at place path call) (sym s) ∙ h)
    ]
    in by (in_order 16 (kinds_in call) types others (match_to types (kinds_in call) m) o)

native_found : (place : Place) (path : List Bytes) (call : CallRequest) (types : List TypeTag) (pick : Pick) (o : Option Pick) → natives_at place path call ≡ o → TypesMatch types (kinds_in call) → native_at place path call types ≡ Some pick
    → NoneBefore place path call types → o ≡ Some pick
native_found place path call types pick None is m h none =
    absurd (none_some pick (native_at place path call types) (none_matching (native_at place path call) 16 (kinds_in call) types is (match_to types (kinds_in call) m)) h)
native_found place path call types pick (Some own) is m h none = ap Some (same_native place path call types pick own m h none (first_pattern (native_at place path call) 16 (kinds_in call) own is))

pub in_asked : (place : Place) (path : List Bytes) (call : CallRequest) (pick : Pick) → IsAnsweredIn place path call pick → option_or (script_at place path call) (option_or (natives_at place path call) None) ≡ Some pick
in_asked place path call pick (by_script r) = ap (λ (o : Option Pick). option_or o (option_or (natives_at place path call) None)) (is_pick place (script_key path call) pick r)
in_asked place path call pick (by_native types none m r first) =
    let found = native_found place path call types pick (natives_at place path call) refl m (is_pick place (native_key path call types) pick r) first in
    (λ i. option_or (is_none place (script_key path call) none i) (option_or (found i) None))

pub answered_exactly : (e : EngineLists) (f : Frame) (call : CallRequest) (path : List Bytes) (place : Place) (pick : Pick) → (plan_of call).search ≡ in_module path → root_of e f.imports path ≡ Some place
    → IsAnsweredFirst e f call pick ↔ IsAnsweredIn place path call pick
answered_exactly e f call path place pick search root =
    let a = asked e f call path place search root in (
      λ h. asked_in place path call pick (sym a ∙ is-first_first (look_of e f call) pick (asks_of e call) h),
      λ h. first_is-first (look_of e f call) pick (asks_of e call) (a ∙ in_asked place path call pick h),
    )

-- None does where there is neither.

none_asked : (place : Place) (path : List Bytes) (call : CallRequest) → option_or (script_at place path call) (option_or (natives_at place path call) None) ≡ None → NoneAnswersIn place path call
none_asked place path call h =
    let p = or_parts (script_at place path call) (option_or (natives_at place path call) None) h in
    let q = or_parts (natives_at place path call) None p.1 in
    (none_is place (script_key path call) p.0, λ types m. none_is place (native_key path call types) (none_matching (native_at place path call) 16 (kinds_in call) types q.0 (match_to types (kinds_in call) m)))

asked_none : (place : Place) (path : List Bytes) (call : CallRequest) → NoneAnswersIn place path call → option_or (script_at place path call) (option_or (natives_at place path call) None) ≡ None
asked_none place path call none =
    let natives : natives_at place path call ≡ None = matching_none (native_at place path call) 16 (kinds_in call) (λ types m. is_none place (native_key path call types) (none.1 types (types_match types (kinds_in call) m))) in
    or_nones (script_at place path call) (option_or (natives_at place path call) None) (is_none place (script_key path call) none.0) (or_nones (natives_at place path call) None natives refl)

pub unanswered_exactly : (e : EngineLists) (f : Frame) (call : CallRequest) (path : List Bytes) (place : Place) → (plan_of call).search ≡ in_module path → root_of e f.imports path ≡ Some place
    → IsUnanswered e f call ↔ NoneAnswersIn place path call
unanswered_exactly e f call path place search root =
    let a = asked e f call path place search root in (
      λ h. none_asked place path call (sym a ∙ none_first (look_of e f call) (asks_of e call) h),
      λ h. first_none (look_of e f call) (asks_of e call) (a ∙ asked_none place path call h),
    )
