-- Which declaration of its module answers a qualified call, said without a search.
use Rattle.std.specs.Prelude.{◌≡◌, List, length, Some}
use Rattle.rhd_value.specs.Tree.{Bytes}
use Rattle.rhd_value.specs.declared.tag.TypeTag.{TypeTag}
use Rattle.rhd_func.specs.declared.request.CallRequest.{CallRequest}
use Rattle.rhd_func.specs.Shapes.{all_args}
use Rattle.rhd_hash.specs.declared.key.Key.{Key}
use Rattle.rhd_hash.specs.declared.key.Key.TheVariants.{Script, Native}
use Rattle.rhd_hash.specs.FirstPairs.{NoneWith, IsFirstWith}
use Rattle.rhd_decl.specs.declared.declaration.Declaration.{Declaration}
use Rattle.rhd_call.specs.declared.pick.Pick.{Pick}
use Rattle.rhd_dispatch.specs.Picks.{after_root}
use Rattle.rhd_dispatch.specs.Searched.{Place}
use Rattle.rhd_machine.specs.Plans.{plan_of}
use Rattle.rhd_laws.specs.Matches.{TypesMatch, IsMoreExact, kinds_in}

-- The keys that a call with this path means in the module at which the path begins: they have the path's further names. A script takes as many parameters as there are arguments in all, and a native has these types.
abbrev pub script_key : List Bytes → CallRequest → Key
script_key path call = Script (Some (after_root path)) (plan_of call).name (length (all_args (plan_of call).shape))

abbrev pub native_key : List Bytes → CallRequest → List TypeTag → Key
native_key path call types = Native (Some (after_root path)) (plan_of call).name types

-- the pick is of the first declaration that a place has under the key
pub record IsPickOf (place : Place) (key : Key) (pick : Pick) : Type 0 where
  pub decl : Declaration
  pub declared : IsFirstWith key decl place.pairs
  pub layer : pick.layer ≡ place.layer
  pub func : pick.func ≡ decl.func
  pub source : pick.source ≡ place.source

-- What answers a call in the module of a place: the script; or, where there is none, the native whose types match and before which none goes whose types match and are more exact.
pub data IsAnsweredIn (place : Place) (path : List Bytes) (call : CallRequest) (pick : Pick) : Type 0 where
  by_script : IsPickOf place (script_key path call) pick → IsAnsweredIn place path call pick
  by_native : (types : List TypeTag) → NoneWith (script_key path call) place.pairs → TypesMatch types (kinds_in call) → IsPickOf place (native_key path call types) pick
      → ((others : List TypeTag) → TypesMatch others (kinds_in call) → IsMoreExact (kinds_in call) others types → NoneWith (native_key path call others) place.pairs)
      → IsAnsweredIn place path call pick

-- there is neither
abbrev pub NoneAnswersIn : Place → List Bytes → CallRequest → Type 0
NoneAnswersIn place path call = NoneWith (script_key path call) place.pairs × ((types : List TypeTag) → TypesMatch types (kinds_in call) → NoneWith (native_key path call types) place.pairs)
