-- What the native of a number says of itself.
use Rattle.std.proofs.Common.{◌≡◌, ap, sym, ◌∙◌, List, map}
use Rattle.std.specs.Prelude.{Option, Some, None, Result, IfOk, unwrap_or, slice_get, option_map, []}
use Rattle.std.proofs.lemmas.Option.{slice_get-map}
use Rattle.std.proofs.lemmas.Result.{IfOk-weaker}
use Rattle.rhd_value.specs.Tree.{Bytes}
use Rattle.rhd_value.specs.declared.tag.FnId.{FnId}
use Rattle.rhd_func.specs.Natives.{NativeInfo}
use Rattle.rhd_decl.specs.Registration.{no_info, native_at, params_by_type}

pub known_info : {N : Type 0} (view : N → NativeInfo) (items : List N) (id : FnId) (native : N) → slice_get items id.0 ≡ Some native → native_at (map view items) id ≡ view native
known_info view items id native some = ap (λ (o : Option NativeInfo). unwrap_or o no_info) (slice_get-map view items id.0 ∙ ap (option_map view) some)

pub unknown_info : {N : Type 0} (view : N → NativeInfo) (items : List N) (id : FnId) → slice_get items id.0 ≡ None → native_at (map view items) id ≡ no_info
unknown_info view items id none = ap (λ (o : Option NativeInfo). unwrap_or o no_info) (slice_get-map view items id.0 ∙ ap (option_map view) none)

-- its parameters by its types
pub known_params : {N E : Type 0} (view : N → NativeInfo) (items : List N) (id : FnId) (native : N) (r : Result (List Bytes) E) → slice_get items id.0 ≡ Some native → IfOk r (λ params. params ≡ params_by_type (view native).types) → IfOk r (λ params. params ≡ params_by_type (native_at (map view items) id).types)
known_params view items id native r some = IfOk-weaker r _ (λ params. params ≡ params_by_type (native_at (map view items) id).types) (λ params e. e ∙ ap (λ (n : NativeInfo). params_by_type n.types) (sym (known_info view items id native some)))

pub unknown_params : {N : Type 0} (view : N → NativeInfo) (items : List N) (id : FnId) (params : List Bytes) → slice_get items id.0 ≡ None → params ≡ [] → params ≡ params_by_type (native_at (map view items) id).types
unknown_params view items id params none e = e ∙ ap (λ (n : NativeInfo). params_by_type n.types) (sym (unknown_info view items id none))
