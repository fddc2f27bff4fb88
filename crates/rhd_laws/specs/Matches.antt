-- Which declarations match an unqualified call, and which of two goes first, said without a search.
use Rattle.std.specs.Prelude.{◌≡◌, ◌≢◌, ◌<◌, ℕ, false, List, [], ◌∷◌, ◌++◌, length, map, take, slice_get, Some, None}
use Rattle.std.specs.List.{AllByRecursion}
use Rattle.std.specs.Option.{option_map_or}
use Rattle.rhd_value.specs.Tree.{Bytes, Tree}
use Rattle.rhd_value.specs.Kinds.{tag_of}
use Rattle.rhd_value.specs.declared.tag.FnId.{FnId}
use Rattle.rhd_value.specs.declared.tag.TypeTag.{TypeTag}
use Rattle.rhd_value.specs.declared.tag.TypeTag.TheVariants.{Dynamic}
use Rattle.rhd_names.specs.declared.token.OpToken.{OpToken}
use Rattle.rhd_func.specs.declared.request.CallRequest.{CallRequest}
use Rattle.rhd_func.specs.declared.request.CallShape.TheVariants.{Method}
use Rattle.rhd_func.specs.Shapes.{all_args}
use Rattle.rhd_hash.specs.declared.key.Key.{Key}
use Rattle.rhd_hash.specs.declared.key.Key.TheVariants.{Script, Typed, Native}
use Rattle.rhd_decl.specs.declared.declaration.Declaration.{Declaration}
use Rattle.rhd_hash.specs.FirstPairs.{IsFirstWith}
use Rattle.rhd_dispatch.specs.Searched.{Place, searched}
use Rattle.rhd_dispatch.specs.Asks.{params_of, builtin_pick}
use Rattle.rhd_engine.specs.Display.{display}
use Rattle.rhd_engine.specs.Engine.{EngineLists, Frame}
use Rattle.rhd_engine.specs.declared.builtins.Operator.{Operator}
use Rattle.rhd_machine.specs.Plans.{plan_of, only_natives, token_in}
use Rattle.rhd_machine.specs.Received.{Received}
use Rattle.rhd_call.specs.declared.pick.Pick.{Pick}

-- A declared type takes the argument at a place: it is the argument's kind, or `Dynamic` at one of the first sixteen places.
pub data Takes (place : ℕ) (declared kind : TypeTag) : Type 0 where
  its_kind : declared ≡ kind → Takes place declared kind
  any_kind : place < 16 → declared ≡ Dynamic → Takes place declared kind

-- Declared types match the kinds of some arguments, place by place.
pub record TypesMatch (types kinds : List TypeTag) : Type 0 where
  pub as_many : length types ≡ length kinds
  pub each : (place : ℕ) (declared kind : TypeTag) → slice_get types place ≡ Some declared → slice_get kinds place ≡ Some kind → Takes place declared kind

-- At the first place where both differ, these types have the argument's kind, and the others don't.
pub record IsMoreExact (kinds types others : List TypeTag) : Type 0 where
  pub place : ℕ
  pub alike : take place types ≡ take place others
  pub exact : slice_get types place ≡ slice_get kinds place
  pub apart : slice_get others place ≢ slice_get kinds place

-- the kinds of the arguments of a call, an object included
abbrev pub kinds_in : CallRequest → List TypeTag
kinds_in call = map tag_of (all_args (plan_of call).shape)

-- A declaration under this key matches an unqualified call: a script, where these are allowed, by name and number of parameters, or also by the type of the call's object; a native by name and types.
pub data MatchesCall (e : EngineLists) (call : CallRequest) (key : Key) : Type 0 where
  by_type : (object : Tree) (args : List Tree) → only_natives (plan_of call).search ≡ false → (plan_of call).shape ≡ Method object args
      → key ≡ Typed None (plan_of call).name (length args) (display e object) → MatchesCall e call key
  by_number : only_natives (plan_of call).search ≡ false → key ≡ Script None (plan_of call).name (params_of (plan_of call).shape) → MatchesCall e call key
  by_kinds : (types : List TypeTag) → key ≡ Native None (plan_of call).name types → TypesMatch types (kinds_in call) → MatchesCall e call key

-- the place of this number has this declaration as the first under the key
pub record HasDeclaration (e : EngineLists) (f : Frame) (n : ℕ) (key : Key) (d : Declaration) : Type 0 where
  pub place : Place
  pub stands : slice_get (searched e f.lib f.imports) n ≡ Some place
  pub declared : IsFirstWith key d place.pairs

-- the pick is of a declaration that a place has under the key, and no place of a lower number has one
pub record IsInFirstPlace (e : EngineLists) (f : Frame) (key : Key) (pick : Pick) : Type 0 where
  pub number : ℕ
  pub decl : Declaration
  pub stands : HasDeclaration e f number key decl
  pub layer : pick.layer ≡ stands.place.layer
  pub func : pick.func ≡ decl.func
  pub source : pick.source ≡ stands.place.source
  pub first : (n : ℕ) (other : Declaration) → n < number → HasDeclaration e f n key other → ⊥

-- no place of a frame has a declaration under the key
abbrev pub NoneDeclares : EngineLists → Frame → Key → Type 0
NoneDeclares e f key = (n : ℕ) (d : Declaration) → HasDeclaration e f n key d → ⊥

-- scripts of a type go first, then other scripts, then natives
abbrev pub rank : Key → ℕ
rank (Typed path name params this_type) = 0
rank (Script path name params) = 1
rank (Native path name types) = 2

-- Of two declarations that match, under keys and in places of these numbers, the first goes before the other: its rank is lower; or both are natives, and its types are more exact; or the keys are the same, and its number is lower.
pub data GoesBefore (kinds : List TypeTag) (key : Key) (n : ℕ) (other : Key) (behind : ℕ) : Type 0 where
  lower_rank : rank key < rank other → GoesBefore kinds key n other behind
  more_exact : (name : Bytes) (types others : List TypeTag) → key ≡ Native None name types → other ≡ Native None name others → IsMoreExact kinds types others → GoesBefore kinds key n other behind
  earlier_place : key ≡ other → n < behind → GoesBefore kinds key n other behind

-- no declaration matches the unqualified call
abbrev pub NoneMatches : EngineLists → Frame → CallRequest → Type 0
NoneMatches e f call = (key : Key) (n : ℕ) (d : Declaration) → MatchesCall e call key → HasDeclaration e f n key d → ⊥

-- the pick is of a declaration that a place has under this key, which matches the call, and before which none goes that matches
pub record IsFirstMatch (e : EngineLists) (f : Frame) (call : CallRequest) (key : Key) (pick : Pick) : Type 0 where
  pub matches : MatchesCall e call key
  pub number : ℕ
  pub decl : Declaration
  pub stands : HasDeclaration e f number key decl
  pub layer : pick.layer ≡ stands.place.layer
  pub func : pick.func ≡ decl.func
  pub source : pick.source ≡ stands.place.source
  pub first : (other : Key) (n : ℕ) (d : Declaration) → MatchesCall e call other → HasDeclaration e f n other d → GoesBefore (kinds_in call) other n key number → ⊥

-- the table has this function for the operator, and none before it
pub record IsFirstBuiltin (operator : Operator) (id : FnId) (table : List (Operator × FnId)) : Type 0 where
  pub front : List (Operator × FnId)
  pub others : List (Operator × FnId)
  pub stands : table ≡ front ++ (operator, id) ∷ others
  pub before : AllByRecursion (λ b. b.0 ≢ operator) front

-- the table has this built-in for the call's token and the kinds of its two arguments
pub record HasBuiltin (e : EngineLists) (call : CallRequest) (pick : Pick) : Type 0 where
  pub token : OpToken
  pub asked : token_in (plan_of call).search ≡ Some token
  pub left : TypeTag
  pub right : TypeTag
  pub two : kinds_in call ≡ left ∷ right ∷ []
  pub id : FnId
  pub listed : IsFirstBuiltin (record { token = token; left = left; right = right }) id e.builtins
  pub shown : pick ≡ builtin_pick e token id

-- What answers an unqualified call: the first declaration that matches it, or where none matches a built-in.
pub data IsAnsweredBy (e : EngineLists) (f : Frame) (call : CallRequest) (pick : Pick) : Type 0 where
  by_declaration : (key : Key) → IsFirstMatch e f call key pick → IsAnsweredBy e f call pick
  by_builtin : NoneMatches e f call → HasBuiltin e call pick → IsAnsweredBy e f call pick

-- all that a function receives, in order
abbrev pub all_received : Received → List Tree
all_received r = option_map_or (λ first. first ∷ r.args) r.first r.args
