-- What natives say of themselves, and the built-in of two kinds.
use Rattle.std.proofs.Common.{◌≡◌, Bool, false, List, [], ◌∷◌, length, map, get_or, sym, ap, ◌∙◌, arith}
use Rattle.std.proofs.lemmas.Option.{slice_get-map}
use Rattle.std.specs.Option.{option_map_or}
use Rattle.std.specs.Prelude.{Option, Some, None, slice_get, option_map}
use Rattle.std.specs.Map.{lookup}
use Rattle.rhd_value.specs.declared.tag.FnId.{FnId}
use Rattle.rhd_value.specs.declared.tag.TypeTag.{TypeTag}
use Rattle.rhd_names.specs.declared.token.OpToken.{OpToken}
use Rattle.rhd_func.specs.Infos.{infos_of}
use Rattle.rhd_func.specs.Natives.{NativeInfo, says}
use Rattle.rhd_func.specs.declared.natives.Natives.{Natives}
use Rattle.rhd_engine.specs.Engine.{EngineLists}
use Rattle.rhd_engine.specs.declared.builtins.Operator.{Operator}
use Rattle.rhd_engine.specs.Operators.{operator_eq}
use Rattle.rhd_dispatch.specs.Asks.{builtin, builtin_pick}

-- what the native of a number says
pub says_known : {N : Type 0} (view : N → NativeInfo) (items : List N) (id : FnId) (native : N) (test : NativeInfo → Bool) (b : Bool) → slice_get items id.0 ≡ Some native → b ≡ test (view native) → b ≡ says test (map view items) id
says_known view items id native test b some is = is ∙ sym (ap (λ (o : Option NativeInfo). option_map_or test o false) (slice_get-map view items id.0 ∙ ap (option_map view) some))

pub says_unknown : {N : Type 0} (view : N → NativeInfo) (items : List N) (id : FnId) (test : NativeInfo → Bool) → slice_get items id.0 ≡ None → false ≡ says test (map view items) id
says_unknown view items id test none = sym (ap (λ (o : Option NativeInfo). option_map_or test o false) (slice_get-map view items id.0 ∙ ap (option_map view) none))

-- the same of an equal table
pub says_same : {X : Type 0} {F : X → Type 0} (view : (x : X) × F x → NativeInfo) (natives same : Natives X F) (id : FnId) (test : NativeInfo → Bool) (b : Bool) → natives ≡ same → b ≡ says test (infos_of view natives) id → b ≡ says test (infos_of view same) id
says_same {X} {F} view natives same id test b e is = is ∙ ap (λ (ns : Natives X F). says test (infos_of view ns) id) e

-- the built-in of two kinds
pub builtin_two : (e : EngineLists) (token : OpToken) (kinds : List TypeTag) (d c : TypeTag) (id : Option FnId) (bs : List (Operator × FnId)) → length kinds ≡ 2 → bs ≡ e.builtins
    → id ≡ lookup (operator_eq (record { token = token; left = get_or kinds 0 d; right = get_or kinds 1 c })) bs → option_map (builtin_pick e token) id ≡ builtin e (Some token) kinds
builtin_two e token [] d c id bs n same is = absurd (omega arith)
builtin_two e token (x ∷ []) d c id bs n same is = absurd (omega arith)
builtin_two e token (x ∷ y ∷ []) d c id bs n same is =
    ap (option_map (builtin_pick e token)) (is ∙ ap (lookup (operator_eq (record { token = token; left = x; right = y }))) same)
builtin_two e token (x ∷ y ∷ z ∷ more) d c id bs n same is = absurd (omega arith)
