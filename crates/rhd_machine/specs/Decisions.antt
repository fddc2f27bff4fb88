-- What becomes of a call: everything that no function has a choice in.
use Rattle.std.specs.Prelude.{ℕ, Bool, true, false, not, ◌&&◌, List, [], ◌∷◌, nat_lt, if◌then◌else◌, Option, None, Some, option_map}
use Rattle.std.specs.Option.{is_none}
use Rattle.rhd_value.specs.Firsts.{first_of, first_some, where_holds}
use Rattle.rhd_value.specs.declared.fault.EvalAltResult.{EvalAltResult}
use Rattle.rhd_value.specs.declared.fault.EvalAltResult.TheVariants.{ErrorStackOverflow, ErrorModuleNotFound, ErrorNonPureMethodCallOnConstant}
use Rattle.rhd_func.specs.declared.request.CallRequest.{CallRequest}
use Rattle.rhd_func.specs.Funcs.{is_pure, is_script}
use Rattle.rhd_func.specs.Shapes.{given, pos_of}
use Rattle.rhd_engine.specs.Engine.{EngineLists, Frame}
use Rattle.rhd_engine.specs.NotFound.{path_text}
use Rattle.rhd_call.specs.declared.pick.Pick.{Pick}
use Rattle.rhd_dispatch.specs.Asks.{Asked, asks, looked}
use Rattle.rhd_dispatch.specs.Picks.{qualified_asks, looked_in, root_of}
use Rattle.rhd_dispatch.specs.Races.{data_race}
use Rattle.rhd_machine.specs.Plans.{Search, by_name, in_module, Plan, plan_of}
use Rattle.rhd_machine.specs.Received.{received, convention_of, first_received, is_read_only}
use Rattle.rhd_call.specs.End.{End, failed}
use Rattle.rhd_machine.specs.Ends.{missing_end}

pub data Decision : Type 0 where
  ends : Option Pick → End → Decision  -- nothing runs
  asks_host : Plan → Decision
  runs : Plan → Pick → Decision

-- what a call asks for, in order
abbrev pub asks_by : EngineLists → Plan → Search → List Asked
asks_by e plan (by_name token native_only) = asks e plan.name token native_only plan.shape
asks_by e plan (in_module path) = qualified_asks plan.name plan.shape

-- what is looked up for a question: in all modules of a frame, or in the one at which a path begins
abbrev pub look_by : EngineLists → Frame → Search → Asked → Option Pick
look_by e f (by_name token native_only) = looked e f.lib f.imports
look_by e f (in_module path) = looked_in path (root_of e f.imports path)

-- the same of a request
abbrev pub asks_of : EngineLists → CallRequest → List Asked
asks_of e call = asks_by e (plan_of call) (plan_of call).search

abbrev pub look_of : EngineLists → Frame → CallRequest → Asked → Option Pick
look_of e f call = look_by e f (plan_of call).search

-- the pick of a call of one function: the first question that is answered
abbrev pub pick_of : EngineLists → Frame → Plan → Option Pick
pick_of e f plan = first_of (look_by e f plan.search) (asks_by e plan plan.search)

-- A native or built-in that isn't pure receives a read-only first argument.
abbrev pub is_on_constant : EngineLists → Plan → Pick → Bool
is_on_constant e plan pick = not (is_script pick.func) && (not (is_pure e.natives pick.func) && is_read_only (first_received (received (convention_of e.natives pick.func) plan.shape)))

-- how a call ends whose function isn't for a constant
abbrev pub constant_end : Plan → End
constant_end plan = failed plan.given (ErrorNonPureMethodCallOnConstant plan.name plan.pos)

-- the function of a pick runs, unless it isn't for a constant
abbrev pub picked : EngineLists → Plan → Pick → Decision
picked e plan pick = if is_on_constant e plan pick then ends (Some pick) (constant_end plan) else runs plan pick

-- without a pick: the host is asked in an unqualified call that allows scripts
abbrev pub unpicked : EngineLists → Plan → Search → Decision
unpicked e plan (by_name token false) = asks_host plan
unpicked e plan (by_name token true) = ends None (missing_end e plan)
unpicked e plan (in_module path) = ends None (missing_end e plan)

abbrev pub decided : EngineLists → Plan → Option Pick → Decision
decided e plan None = unpicked e plan plan.search
decided e plan (Some pick) = picked e plan pick

-- The level is above the limit.
abbrev pub too_deep : EngineLists → ℕ → CallRequest → Option EvalAltResult
too_deep e level call = where_holds (nat_lt e.limits.level level) (ErrorStackOverflow (pos_of call))

-- An argument of an unqualified call is locked.
abbrev pub locked_argument : Plan → Search → Option EvalAltResult
locked_argument plan (by_name token native_only) = data_race plan.name plan.shape plan.pos
locked_argument plan (in_module path) = None

-- The path of a qualified call is empty, or its first name is that of no import and of no static module.
abbrev pub no_root : EngineLists → Frame → Plan → Search → Option EvalAltResult
no_root e f plan (by_name token native_only) = None
no_root e f plan (in_module path) = where_holds (is_none (root_of e f.imports path)) (ErrorModuleNotFound (path_text path) plan.pos)

-- the causes of a refusal in their order, each with how the call then ends
abbrev pub causes : EngineLists → Frame → ℕ → CallRequest → List (Option End)
causes e f level call =
    option_map (failed (given call)) (too_deep e level call)
    ∷ option_map (failed (given call)) (locked_argument (plan_of call) (plan_of call).search)
    ∷ option_map (failed (given call)) (no_root e f (plan_of call) (plan_of call).search)
    ∷ []

-- the first of them that holds
abbrev pub refusal : EngineLists → Frame → ℕ → CallRequest → Option End
refusal e f level call = first_some (causes e f level call)

abbrev pub unless_refused : Option End → Decision → Decision
unless_refused None decision = decision
unless_refused (Some end) decision = ends None end

unfoldable pub decision : EngineLists → Frame → ℕ → CallRequest → Decision
decision e f level call = unless_refused (refusal e f level call) (decided e (plan_of call) (pick_of e f (plan_of call)))
