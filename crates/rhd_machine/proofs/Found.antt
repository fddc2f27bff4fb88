-- What is refused, and what is decided by the pick.
use Rattle.std.proofs.Common.{◌≡◌, ◌<◌, ◌≤◌, ℕ, Bool, true, false, ltb, List, [], ◌∷◌, refl, sym, ap, ◌∙◌}
use Rattle.std.specs.Prelude.{Option, Some, None, option_map, if◌then◌else◌}
use Rattle.std.specs.Option.{is_none}
use Rattle.std.proofs.lemmas.Bool.{lt-ltb, ltb-false}
use Rattle.rhd_value.specs.Firsts.{first_some, where_holds}
use Rattle.rhd_value.specs.declared.fault.EvalAltResult.TheVariants.{ErrorStackOverflow, ErrorDataRace, ErrorModuleNotFound}
use Rattle.rhd_value.specs.declared.fault.EvalAltResult.{EvalAltResult}
use Rattle.rhd_func.specs.declared.request.CallRequest.{CallRequest}
use Rattle.rhd_func.specs.declared.request.CallRequest.TheVariants.{Named, Qualified}
use Rattle.rhd_func.specs.Shapes.{by_reference, given, pos_of}
use Rattle.rhd_call.specs.declared.pick.Pick.{Pick}
use Rattle.rhd_call.specs.End.{End, failed}
use Rattle.rhd_engine.specs.Engine.{EngineLists, Frame}
use Rattle.rhd_engine.specs.Held.{func_held, all_held, named_held, builtins_held}
use Rattle.rhd_layers.proofs.Bools.{parts}
use Rattle.rhd_engine.specs.NotFound.{path_text}
use Rattle.rhd_dispatch.specs.Picks.{root_of}
use Rattle.rhd_dispatch.specs.Races.{data_race, locked_text}
use Rattle.rhd_dispatch.proofs.HeldPicks.{pick_is_held, qualified_is_held}
use Rattle.rhd_machine.specs.Ends.{missing_end}
use Rattle.rhd_machine.specs.Held.{frame_held}
use Rattle.rhd_machine.specs.Plans.{Search, by_name, in_module, without_host, Plan, plan_of}
use Rattle.rhd_machine.specs.Decisions.{ends, runs, pick_of, decided, refusal, unless_refused, decision, is_on_constant, constant_end, asks_host, unpicked}

-- the position of a request is that of its plan
pub plan_pos : (call : CallRequest) → (plan_of call).pos ≡ pos_of call
plan_pos (Named name token native_only shape want pos) = refl
plan_pos (Qualified path name shape pos) = refl

-- how a call ends whose level is too high
abbrev pub deep_end : CallRequest → End
deep_end call = failed (given call) (ErrorStackOverflow (pos_of call))

-- how a call ends with a locked argument at a place
abbrev pub locked_end : CallRequest → ℕ → End
locked_end call n = failed (given call) (ErrorDataRace (locked_text (plan_of call).name n) (pos_of call))

-- how a call ends whose path begins at no module
abbrev pub rootless_end : CallRequest → List (List ℕ) → End
rootless_end call path = failed (given call) (ErrorModuleNotFound (path_text path) (pos_of call))

-- the fault of a request that is refused whatever its level is: a locked argument, or a path that begins at no module
abbrev pub own_refusal : EngineLists → Frame → CallRequest → Option EvalAltResult
own_refusal e f (Named name token native_only shape want pos) = data_race name shape pos
own_refusal e f (Qualified path name shape pos) = where_holds (is_none (root_of e f.imports path)) (ErrorModuleNotFound (path_text path) pos)

-- a refusal, by whether the level is too high and by that fault
abbrev pub refused_where : CallRequest → Bool → Option EvalAltResult → Option End
refused_where call deep own =
    first_some (option_map (failed (given call)) (where_holds deep (ErrorStackOverflow (pos_of call))) ∷ option_map (failed (given call)) own ∷ [])

pub refusal_is : (e : EngineLists) (f : Frame) (level : ℕ) (call : CallRequest) → refusal e f level call ≡ refused_where call (ltb e.limits.level level) (own_refusal e f call)
refusal_is e f level (Named name token native_only shape want pos) = refl
refusal_is e f level (Qualified path name shape pos) = refl

pub deep_refused : (e : EngineLists) (f : Frame) (level : ℕ) (call : CallRequest) → e.limits.level < level → refusal e f level call ≡ Some (deep_end call)
deep_refused e f level call h = refusal_is e f level call ∙ ap (λ (b : Bool). refused_where call b (own_refusal e f call)) (lt-ltb e.limits.level level h)

-- a call that is refused ends so
pub decided_refused : (e : EngineLists) (f : Frame) (level : ℕ) (call : CallRequest) (end : End) → refusal e f level call ≡ Some end → decision e f level call ≡ ends None end
unfolding decision
decided_refused e f level call end h = ap (λ (o : Option End). unless_refused o (decided e (plan_of call) (pick_of e f (plan_of call)))) h

-- above the limit it is refused
pub decided_deep : (e : EngineLists) (f : Frame) (level : ℕ) (call : CallRequest) → e.limits.level < level → decision e f level call ≡ ends None (failed (given call) (ErrorStackOverflow (pos_of call)))
decided_deep e f level call h = decided_refused e f level call (deep_end call) (deep_refused e f level call h)

-- by what the test of a call says
pub decided_by_fault : (e : EngineLists) (f : Frame) (level : ℕ) (call : CallRequest) (test : Option EvalAltResult) (fault : EvalAltResult) → option_map (failed (given call)) test ≡ refusal e f level call → test ≡ Some fault → decision e f level call ≡ ends None (failed (given call) fault)
decided_by_fault e f level call test fault is some = decided_refused e f level call (failed (given call) fault) (sym is ∙ ap (option_map (failed (given call))) some)

pub not_refused : (e : EngineLists) (f : Frame) (level : ℕ) (call : CallRequest) (test : Option EvalAltResult) → option_map (failed (given call)) test ≡ refusal e f level call → test ≡ None → refusal e f level call ≡ None
not_refused e f level call test is none = sym is ∙ ap (option_map (failed (given call))) none

-- unrefused, with a pick its function runs, unless it isn't for a constant
pub decided_runs : (e : EngineLists) (f : Frame) (level : ℕ) (call : CallRequest) (pick : Pick) → refusal e f level call ≡ None → Some pick ≡ pick_of e f (plan_of call) → is_on_constant e (plan_of call) pick ≡ false → decision e f level call ≡ runs (plan_of call) pick
unfolding decision
decided_runs e f level call pick unrefused found free =
    ap (λ (o : Option End). unless_refused o (decided e (plan_of call) (pick_of e f (plan_of call)))) unrefused ∙ ap (decided e (plan_of call)) (sym found)
    ∙ ap (λ (b : Bool). if b then ends (Some pick) (constant_end (plan_of call)) else runs (plan_of call) pick) free

pub decided_constant : (e : EngineLists) (f : Frame) (level : ℕ) (call : CallRequest) (pick : Pick) → refusal e f level call ≡ None → Some pick ≡ pick_of e f (plan_of call) → is_on_constant e (plan_of call) pick ≡ true → decision e f level call ≡ ends (Some pick) (constant_end (plan_of call))
unfolding decision
decided_constant e f level call pick unrefused found on =
    ap (λ (o : Option End). unless_refused o (decided e (plan_of call) (pick_of e f (plan_of call)))) unrefused ∙ ap (decided e (plan_of call)) (sym found)
    ∙ ap (λ (b : Bool). if b then ends (Some pick) (constant_end (plan_of call)) else runs (plan_of call) pick) on

-- without one it isn't found, where the host isn't asked; else that is asked
unpicked_alone : (e : EngineLists) (plan : Plan) (search : Search) → without_host search ≡ true → unpicked e plan search ≡ ends None (missing_end e plan)
unpicked_alone e plan (by_name token true) h = refl
unpicked_alone e plan (by_name token false) h = absurd cc
unpicked_alone e plan (in_module path) h = refl

unpicked_host : (e : EngineLists) (plan : Plan) (search : Search) → without_host search ≡ false → unpicked e plan search ≡ asks_host plan
unpicked_host e plan (by_name token true) h = absurd cc
unpicked_host e plan (by_name token false) h = refl
unpicked_host e plan (in_module path) h = absurd cc

pub unpicked_ends : (e : EngineLists) (plan : Plan) (search : Search) (pick : Option Pick) (end : End) → unpicked e plan search ≡ ends pick end → (without_host search ≡ true) × (pick ≡ None) × (end ≡ missing_end e plan)
unpicked_ends e plan (by_name token true) pick end h = (refl, cc, cc)
unpicked_ends e plan (by_name token false) pick end h = absurd cc
unpicked_ends e plan (in_module path) pick end h = (refl, cc, cc)

pub unpicked_asks : (e : EngineLists) (plan : Plan) (search : Search) (other : Plan) → unpicked e plan search ≡ asks_host other → (without_host search ≡ false) × (other ≡ plan)
unpicked_asks e plan (by_name token true) other h = absurd cc
unpicked_asks e plan (by_name token false) other h = (refl, cc)
unpicked_asks e plan (in_module path) other h = absurd cc

unpicked_runs : (e : EngineLists) (plan : Plan) (search : Search) (other : Plan) (pick : Pick) → unpicked e plan search ≡ runs other pick → ⊥
unpicked_runs e plan (by_name token true) other pick h = absurd cc
unpicked_runs e plan (by_name token false) other pick h = absurd cc
unpicked_runs e plan (in_module path) other pick h = absurd cc

decided_unpicked : (e : EngineLists) (f : Frame) (level : ℕ) (call : CallRequest) → refusal e f level call ≡ None → None ≡ pick_of e f (plan_of call) → decision e f level call ≡ unpicked e (plan_of call) (plan_of call).search
unfolding decision
decided_unpicked e f level call unrefused found =
    ap (λ (o : Option End). unless_refused o (decided e (plan_of call) (pick_of e f (plan_of call)))) unrefused ∙ ap (decided e (plan_of call)) (sym found)

pub decided_ends : (e : EngineLists) (f : Frame) (level : ℕ) (call : CallRequest) → refusal e f level call ≡ None → without_host (plan_of call).search ≡ true → None ≡ pick_of e f (plan_of call)
    → decision e f level call ≡ ends None (missing_end e (plan_of call))
decided_ends e f level call unrefused only found = decided_unpicked e f level call unrefused found ∙ unpicked_alone e (plan_of call) (plan_of call).search only

pub decided_asks : (e : EngineLists) (f : Frame) (level : ℕ) (call : CallRequest) → refusal e f level call ≡ None → without_host (plan_of call).search ≡ false → None ≡ pick_of e f (plan_of call) → decision e f level call ≡ asks_host (plan_of call)
decided_asks e f level call unrefused scripts found = decided_unpicked e f level call unrefused found ∙ unpicked_host e (plan_of call) (plan_of call).search scripts

-- a function that runs is within the limit, with the plan of its call and the pick
pub runs_only : (e : EngineLists) (o : Option End) (p : Plan) (q : Option Pick) (plan : Plan) (pick : Pick) → unless_refused o (decided e p q) ≡ runs plan pick → (o ≡ None) × (plan ≡ p) × (q ≡ Some pick) × (is_on_constant e p pick ≡ false)
runs_only e (Some end) p q plan pick h = absurd cc
runs_only e None p None plan pick h = absurd (unpicked_runs e p p.search plan pick h)
runs_only e None p (Some r) plan pick h =
    let by : (b : Bool) → is_on_constant e p r ≡ b → (if b then ends (Some r) (constant_end p) else runs p r) ≡ runs plan pick → (◌≡◌ {A = Option End} None None) × (plan ≡ p) × (Some r ≡ Some pick) × (is_on_constant e p pick ≡ false) =
    elim [
      | true ↦ (λ on g. absurd cc)
      | false ↦ (λ on g. let same : r ≡ pick = cc in (refl, cc, ap Some same, sym (ap (is_on_constant e p) same) ∙ on))
    ] in
    by (is_on_constant e p r) refl h

within_by : (call : CallRequest) (limit level : ℕ) (b : Bool) (o : Option EvalAltResult) → ltb limit level ≡ b → refused_where call b o ≡ None → level ≤ limit
within_by call limit level true o e h = absurd cc
within_by call limit level false o e h = ltb-false limit level e

pub runs_within : (e : EngineLists) (f : Frame) (level : ℕ) (call : CallRequest) (plan : Plan) (pick : Pick) → decision e f level call ≡ runs plan pick → level ≤ e.limits.level
unfolding decision
runs_within e f level call plan pick d =
    within_by call e.limits.level level (ltb e.limits.level level) (own_refusal e f call) refl (sym (refusal_is e f level call) ∙ (runs_only e (refusal e f level call) (plan_of call) (pick_of e f (plan_of call)) plan pick d).0)

pub runs_plan : (e : EngineLists) (f : Frame) (level : ℕ) (call : CallRequest) (plan : Plan) (pick : Pick) → decision e f level call ≡ runs plan pick → plan ≡ plan_of call
unfolding decision
runs_plan e f level call plan pick d = (runs_only e (refusal e f level call) (plan_of call) (pick_of e f (plan_of call)) plan pick d).1

-- a function that is picked is held
pick_held : (n : ℕ) (e : EngineLists) (f : Frame) (call : CallRequest) (pick : Pick) → all_held n e.globals ≡ true → named_held n e.statics ≡ true → frame_held n f ≡ true → builtins_held n e.builtins ≡ true → pick_of e f (plan_of call) ≡ Some pick → func_held n pick.func ≡ true
pick_held n e f (Named name token native_only shape want pos) pick globals statics held bs is =
    let h = parts (all_held n f.lib) (named_held n f.imports) held in pick_is_held n e f.lib f.imports name token native_only shape (Some pick) globals statics h.0 h.1 bs (sym is)
pick_held n e f (Qualified path name shape pos) pick globals statics held bs is =
    qualified_is_held n e f.imports path name (by_reference shape) (Some pick) statics (parts (all_held n f.lib) (named_held n f.imports) held).1 (sym is)

-- a function that runs is held
pub runs_is_held : (e : EngineLists) (f : Frame) (level : ℕ) (call : CallRequest) (plan : Plan) (pick : Pick) (n : ℕ) → all_held n e.globals ≡ true → named_held n e.statics ≡ true → frame_held n f ≡ true → builtins_held n e.builtins ≡ true
    → decision e f level call ≡ runs plan pick → func_held n pick.func ≡ true
unfolding decision
runs_is_held e f level call plan pick n globals statics held bs d = pick_held n e f call pick globals statics held bs (runs_only e (refusal e f level call) (plan_of call) (pick_of e f (plan_of call)) plan pick d).2
