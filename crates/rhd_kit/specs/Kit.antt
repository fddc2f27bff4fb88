-- The natives of the kit, by number: what each says of itself, and what each does.
use Rattle.std.specs.Prelude.{ℕ, ◌^◌, ◌-◌, take, min, ℤ, pos, ◌-ℤ◌, int_le, int_lt, ◌==◌, ◌||◌, ◌&&◌, Bool, true, false, not}
use Rattle.std.specs.Prelude.{List, [], ◌∷◌, length, slice_get, Option, None, Some, is_some, unwrap_or, Result, Ok, Err, if◌then◌else◌, codes}
use Rattle.std.specs.Int.{int_wrapping_add, w64}
use Rattle.std.specs.List.{find, zip}
use Rattle.std.specs.Option.{option_map, option_map_or}
use Rattle.rhd_value.specs.Tree.{Bytes, Tree, Kind, unit, integer, array, custom, items_of}
use Rattle.rhd_value.specs.Kinds.{plain, tag_of, int_in, text_in, map_type, type_name}
use Rattle.rhd_value.specs.Same.{tag_eq}
use Rattle.rhd_value.specs.declared.fault.EvalAltResult.{EvalAltResult}
use Rattle.rhd_value.specs.declared.fault.EvalAltResult.TheVariants.{ErrorMismatchDataType}
use Rattle.rhd_value.specs.declared.tag.Position.{Position}
use Rattle.rhd_value.specs.declared.tag.TypeTag.{TypeTag}
use Rattle.rhd_value.specs.declared.tag.TypeTag.TheVariants as tags
use Rattle.rhd_names.specs.Tokens.{token_of}
use Rattle.rhd_func.specs.Natives.{NativeInfo}
use Rattle.rhd_func.specs.declared.request.Carry.{Carry}
use Rattle.rhd_func.specs.declared.request.CallRequest.{CallRequest}
use Rattle.rhd_func.specs.declared.request.CallRequest.TheVariants.{Named}
use Rattle.rhd_func.specs.declared.request.CallShape.TheVariants.{Plain}
use Rattle.rhd_func.specs.declared.request.NativeCallContext.{NativeCallContext}
use Rattle.rhd_func.specs.declared.request.NativeStep.{NativeStep}
use Rattle.rhd_func.specs.declared.request.NativeStep.TheVariants.{Done, Failed, Ask}
use Rattle.rhd_kit.specs.Values.{argument_at, int_of, text_of, values_in, own_fault, bad_carry}

-- The table.

-- types, whether it is a method, whether it is pure, whether it gets the context; none is volatile
abbrev pub row : List TypeTag → Bool → Bool → Bool → NativeInfo
row types method pure context = record { types = types; is_method = method; has_context = context; is_pure = pure; is_volatile = false }

abbrev pub sixteen_ints : List TypeTag → List TypeTag
sixteen_ints rest = tags.Int ∷ tags.Int ∷ tags.Int ∷ tags.Int ∷ tags.Int ∷ tags.Int ∷ tags.Int ∷ tags.Int ∷ tags.Int ∷ tags.Int ∷ tags.Int ∷ tags.Int ∷ tags.Int ∷ tags.Int ∷ tags.Int ∷ tags.Int ∷ rest

-- the rows by number, from 0
abbrev pub kit_rows : List NativeInfo
kit_rows =
    --  types                                    method pure  context
    row [] false true false ∷
    row (tags.Int ∷ []) false true false ∷
    row (tags.Int ∷ []) false true false ∷
    row (tags.Dynamic ∷ []) false true false ∷
    row (tags.Dynamic ∷ tags.Char ∷ []) false true false ∷
    row (tags.Int ∷ tags.Dynamic ∷ []) false true false ∷
    row (tags.Str ∷ []) false true false ∷
    row (tags.Int ∷ tags.Int ∷ []) true true false ∷
    row (tags.Array ∷ []) true false false ∷
    row (tags.Array ∷ []) false false false ∷
    row (tags.Dynamic ∷ []) false true false ∷
    row (tags.Text ∷ []) false true false ∷
    row (tags.Text ∷ []) false true true ∷
    row (tags.Text ∷ tags.Int ∷ []) false true true ∷
    row (sixteen_ints (tags.Dynamic ∷ [])) false true false ∷
    row (tags.Custom 1 ∷ []) true true false ∷
    row (tags.FnPtr ∷ []) false true true ∷
    row (tags.Dynamic ∷ tags.Dynamic ∷ []) false true false ∷
    row (tags.StdString ∷ []) true true false ∷
    row (tags.Int ∷ tags.Int ∷ []) true false false ∷ []

-- what the native of a number says of itself
unfoldable pub kit_info : ℕ → NativeInfo
kit_info number = unwrap_or (slice_get kit_rows number) (row [] false false false)

-- one is to come
abbrev pub is_built : ℕ → Bool
is_built number = not (number == 16)

-- The arguments.

-- the first, where one was given, and then the others
abbrev pub arguments : Option Tree → List Tree → List Tree
arguments None args = args
arguments (Some first) args = first ∷ args

-- any value is of one type, and a text of three; else the type is the value's own
abbrev pub takes : TypeTag → Tree → Bool
takes tag value = tag_eq tag tags.Dynamic || tag_eq (map_type true tag) (tag_of value)

-- the first argument of another type than that at its place, with the type
abbrev pub first_unfit : List TypeTag → List Tree → Option (TypeTag × Tree)
first_unfit types args = find (λ p. not (takes p.0 p.1)) (zip types args)

-- the fault of such an argument: the name of the type that is wanted, and that of the argument's own
abbrev pub unfit_fault : TypeTag × Tree → EvalAltResult
unfit_fault p = ErrorMismatchDataType (type_name (map_type true p.0)) (type_name (tag_of p.1)) (record { line = 0; column = 0 })

-- what the argument at a place is
abbrev pub int_at : List Tree → ℕ → ℤ
int_at args at = int_of (slice_get args at)

abbrev pub text_at : List Tree → ℕ → Bytes
text_at args at = text_of (slice_get args at)

-- The first step.

-- an integer made anew
abbrev pub answers : ℤ → Option Tree → NativeStep
answers number first = Done (plain (integer number)) first

-- the bytes of a text, at most the greatest integer
abbrev pub bytes_in : Bytes → ℤ
bytes_in text = pos (min (length text) (2 ^ 63 - 1))

-- the sum of the first two arguments, wrapped
abbrev pub sum_of : List Tree → ℤ
sum_of args = int_wrapping_add w64 (int_at args 0) (int_at args 1)

-- an integer in the place of a value, with the value's own marks
abbrev pub changed_to : ℤ → Tree → Tree
changed_to number value = record value { kind = integer number }

-- the values of an array argument
abbrev pub elements : List Tree → List Tree
elements args = values_in (argument_at args 0).kind

-- the last value; unit where there is none
abbrev pub last_of : List Tree → Tree
last_of values = unwrap_or (slice_get values (length values - 1)) (plain unit)

-- an array without its last element, with its own marks
abbrev pub without_last : Tree → Tree
without_last value = record value { kind = array (items_of (take (length (values_in value.kind) - 1) (values_in value.kind))) }

-- the integer that a custom value holds; 0 for another
abbrev pub payload_in : Kind → ℤ
payload_in (custom kind payload) = payload
payload_in _ = pos 0

-- the position of the context, and none without one
abbrev pub position_of : Option NativeCallContext → Position
position_of ctx = option_map_or (λ given. given.pos) ctx (record { line = 0; column = 0 })

-- the call of a name, with its token, without arguments, scripts allowed
abbrev pub call_of : Option NativeCallContext → Bytes → CallRequest
call_of ctx name = Named name (token_of name) false (Plain []) None (position_of ctx)

-- asks the call of a name, and keeps nothing
abbrev pub asks_once : Option NativeCallContext → Bytes → Option Tree → NativeStep
asks_once ctx name first = Ask (call_of ctx name) (record { first = first; kept = plain unit })

-- what is kept of a name as it was given, with the number of calls still to come
abbrev pub with_left : Tree → ℤ → List Tree
with_left name left = name ∷ plain (integer left) ∷ []

-- asks the call of a name, with so many calls still to come after this one
abbrev pub asks_with_left : Option NativeCallContext → Tree → ℤ → Option Tree → NativeStep
asks_with_left ctx name left first = Ask (call_of ctx (text_of (Some name))) (record { first = first; kept = plain (array (items_of (with_left name left))) })

-- asks the call of a name so many times; below once it asks none
abbrev pub asks_often : Option NativeCallContext → Tree → ℤ → Option Tree → NativeStep
asks_often ctx name times first = if int_lt times (pos 1) then Done (plain unit) first else asks_with_left ctx name (times -ℤ pos 1) first

-- what the native of a number does with arguments of its types; the others answer their number
unfoldable pub kit_does : ℕ → Option NativeCallContext → Option Tree → List Tree → NativeStep
kit_does number ctx first args =
    if number == 6 then answers (bytes_in (text_at args 0)) first
    else if number == 7 then answers (sum_of args) first
    else if number == 8 then Done (last_of (elements args)) (option_map without_last first)
    else if number == 9 then answers (pos (length (elements args))) first
    else if number == 10 then Done (argument_at args 0) first
    else if number == 11 then own_fault (text_at args 0) first
    else if number == 12 then asks_once ctx (text_at args 0) first
    else if number == 13 then asks_often ctx (argument_at args 0) (int_at args 1) first
    else if number == 15 then answers (payload_in (argument_at args 0).kind) first
    else if number == 19 then Done (plain unit) (option_map (changed_to (sum_of args)) first)
    else answers (pos number) first

-- the same, where no argument is of another type than that at its place
abbrev pub kit_fits : ℕ → Option NativeCallContext → Option Tree → List Tree → Option (TypeTag × Tree) → NativeStep
kit_fits number ctx first args None = kit_does number ctx first args
kit_fits number ctx first args (Some unfit) = Failed (unfit_fault unfit) first

-- the same with all the arguments at hand
abbrev pub kit_takes : ℕ → Option NativeCallContext → Option Tree → List Tree → NativeStep
kit_takes number ctx first args =
    if not (is_built number) then own_fault (codes "not built") first
    else if not (length args == length (kit_info number).types) then own_fault (codes "wrong number of arguments") first
    else kit_fits number ctx first args (first_unfit (kit_info number).types args)

-- the first step of the native of a number
abbrev pub kit_step : ℕ → Option NativeCallContext → Option Tree → List Tree → NativeStep
kit_step number ctx first args = kit_takes number ctx first (arguments first args)

-- The next step.

-- answers or fails as a call did
abbrev pub passes_on : Result Tree EvalAltResult → Option Tree → NativeStep
passes_on (Ok answer) first = Done answer first
passes_on (Err fault) first = Failed fault first

-- it is unit, whatever its marks
abbrev pub is_unit : Tree → Bool
is_unit value = tag_eq (tag_of value) tags.Unit

-- they are a text and an integer of 0 or more, whatever their marks
abbrev pub is_name_with_left : List Tree → Bool
is_name_with_left (name ∷ left ∷ []) = is_some (text_in name.kind) && option_map_or (int_le (pos 0)) (int_in left.kind) false
is_name_with_left _ = false

-- a fault at once; else the answer after the last call, and before it the next call
abbrev pub goes_on : Option NativeCallContext → Tree → ℤ → Result Tree EvalAltResult → Option Tree → NativeStep
goes_on ctx name left (Err fault) first = Failed fault first
goes_on ctx name left (Ok answer) first = if int_lt left (pos 1) then Done answer first else asks_with_left ctx name (left -ℤ pos 1) first

-- the step after a call of the native of a number, by what it kept and what came of the call
abbrev pub kit_next : ℕ → Option NativeCallContext → Carry → Result Tree EvalAltResult → NativeStep
kit_next number ctx carry answer =
    if (number == 12) && is_unit carry.kept then passes_on answer carry.first
    else if (number == 13) && is_name_with_left (values_in carry.kept.kind) then goes_on ctx (argument_at (values_in carry.kept.kind) 0) (int_at (values_in carry.kept.kind) 1) answer carry.first
    else bad_carry carry.first
