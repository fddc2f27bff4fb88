-- Which function answers a call, said without a search.
use Rattle.std.specs.Prelude.{◌≡◌, ◌⊎◌, ℕ, true, false, List, Option, None, Some}
use Rattle.rhd_value.specs.Firsts.{IsFirst, NoneHas}
use Rattle.rhd_value.specs.Tree.{Bytes, Tree}
use Rattle.rhd_value.specs.declared.tag.TypeTag.{TypeTag}
use Rattle.rhd_names.specs.declared.token.OpToken.{OpToken}
use Rattle.rhd_func.specs.Funcs.{is_pure, is_script}
use Rattle.rhd_func.specs.declared.request.CallRequest.{CallRequest}
use Rattle.rhd_hash.specs.declared.key.Key.{Key}
use Rattle.rhd_engine.specs.Engine.{EngineLists, Frame}
use Rattle.rhd_call.specs.declared.pick.Pick.{Pick}
use Rattle.rhd_dispatch.specs.Searched.{searched, pick_at}
use Rattle.rhd_dispatch.specs.Asks.{native_found, builtin}
use Rattle.rhd_dispatch.specs.Patterns.{patterns}
use Rattle.rhd_machine.specs.Received.{received, convention_of, first_received}
use Rattle.rhd_machine.specs.Plans.{without_host, Plan, plan_of}
use Rattle.rhd_call.specs.End.{End}
use Rattle.rhd_machine.specs.Ends.{missing_end}
use Rattle.rhd_machine.specs.Decisions.{asks_of, look_of, refusal, constant_end}

-- the first ask that is found has this pick: in all modules of the frame, or, of a qualified call, in the module at which its path begins
abbrev pub IsAnsweredFirst : EngineLists → Frame → CallRequest → Pick → Type 0
IsAnsweredFirst e f call pick = IsFirst (look_of e f call) pick (asks_of e call)

-- no ask is found
abbrev pub IsUnanswered : EngineLists → Frame → CallRequest → Type 0
IsUnanswered e f call = NoneHas (look_of e f call) (asks_of e call)

-- the first place that has the key has this pick
abbrev pub IsOfFirstPlace : EngineLists → Frame → Key → Pick → Type 0
IsOfFirstPlace e f key pick = IsFirst (pick_at key) pick (searched e f.lib f.imports)

-- a native or built-in that isn't pure receives a first argument that is read-only
pub record IsOnConstant (e : EngineLists) (plan : Plan) (pick : Pick) : Type 0 where
  pub native : is_script pick.func ≡ false
  pub impure : is_pure e.natives pick.func ≡ false
  pub first : Tree
  pub receives : first_received (received (convention_of e.natives pick.func) plan.shape) ≡ Some first
  pub constant : first.marks.read_only ≡ true

-- Nothing runs: the call is refused so; or nothing refuses it, no ask is found and the host isn't asked, as natives alone are meant or the call is qualified; or the function of the first that is found isn't for a constant.
pub data EndsAlone (e : EngineLists) (f : Frame) (level : ℕ) (call : CallRequest) (pick : Option Pick) (end : End) : Type 0 where
  is_refused : pick ≡ None → refusal e f level call ≡ Some end → EndsAlone e f level call pick end
  isnt_found : pick ≡ None → refusal e f level call ≡ None → without_host (plan_of call).search ≡ true → end ≡ missing_end e (plan_of call) → IsUnanswered e f call → EndsAlone e f level call pick end
  on_constant : (own : Pick) → pick ≡ Some own → refusal e f level call ≡ None → IsAnsweredFirst e f call own → IsOnConstant e (plan_of call) own → end ≡ constant_end (plan_of call) → EndsAlone e f level call pick end

-- The host is asked: nothing refuses the call, it is unqualified and scripts are allowed, and no ask is found.
pub record IsForHost (e : EngineLists) (f : Frame) (level : ℕ) (call : CallRequest) : Type 0 where
  pub unrefused : refusal e f level call ≡ None
  pub scripts : without_host (plan_of call).search ≡ false
  pub unanswered : IsUnanswered e f call

-- what the native ask gives: the first pattern's native that is found, or, where none is, the built-in
abbrev pub IsOfFirstPattern : EngineLists → Frame → Bytes → List TypeTag → Option OpToken → Pick → Type 0
IsOfFirstPattern e f name kinds token pick = IsFirst (native_found e f.lib f.imports name) pick (patterns kinds) ⊎ (NoneHas (native_found e f.lib f.imports name) (patterns kinds) × (builtin e token kinds ≡ Some pick))
