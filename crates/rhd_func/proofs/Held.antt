-- What a native that is held says of itself, and its steps.
use Rattle.std.proofs.Common.{◌≡◌, ◌<◌, ℕ, zero, suc, Bool, false, List, [], ◌∷◌, length, get_or, refl, sym, ap, ◌∙◌, IfOk}
use Rattle.std.specs.Prelude.{Option, None, Some, Result, slice_get, map}
use Rattle.std.specs.Option.{option_map_or}
use Rattle.std.proofs.lemmas.Result.{IfOk-weaker}
use Rattle.std.proofs.lemmas.Option.{slice_get_read}
use Rattle.rhd_value.specs.Tree.{Tree}
use Rattle.rhd_value.specs.declared.tag.FnId.{FnId}
use Rattle.rhd_func.specs.Natives.{NativeInfo, StartAllowed, ResumeAllowed, says}
use Rattle.rhd_func.specs.Infos.{infos_in}
use Rattle.rhd_func.specs.declared.request.Carry.{Carry}
use Rattle.rhd_func.specs.declared.request.CallDone.{CallDone}
use Rattle.rhd_func.specs.declared.request.NativeStep.{NativeStep}
use Rattle.rhd_func.specs.declared.request.NativeCallContext.{NativeCallContext}

pub start_held : {N E : Type 0} (allows : N → Option NativeCallContext → Option Tree → List Tree → NativeStep → Type 0) (natives : List N) (id : FnId) (ctx : Option NativeCallContext) (first : Option Tree) (args : List Tree) (native : N) (r : Result NativeStep E)
    → id.0 < length natives → native ≡ get_or natives id.0 native → IfOk r (allows native ctx first args) → IfOk r (StartAllowed allows natives id ctx first args)
start_held allows natives id ctx first args native r h e =
    IfOk-weaker r (allows native ctx first args) (StartAllowed allows natives id ctx first args) (λ step allowed. (native, slice_get_read natives (length natives) id.0 native refl h e, allowed))

pub resume_held : {N E : Type 0} (allows : N → Option NativeCallContext → Carry → CallDone → NativeStep → Type 0) (natives : List N) (id : FnId) (ctx : Option NativeCallContext) (carry : Carry) (done : CallDone) (native : N) (r : Result NativeStep E)
    → id.0 < length natives → native ≡ get_or natives id.0 native → IfOk r (allows native ctx carry done) → IfOk r (ResumeAllowed allows natives id ctx carry done)
resume_held allows natives id ctx carry done native r h e =
    IfOk-weaker r (allows native ctx carry done) (ResumeAllowed allows natives id ctx carry done) (λ step allowed. (native, slice_get_read natives (length natives) id.0 native refl h e, allowed))

mapped : {N : Type 0} (info : N → NativeInfo) (test : NativeInfo → Bool) (natives : List N) (n : ℕ) → option_map_or test (slice_get (map info natives) n) false ≡ option_map_or (λ (native : N). test (info native)) (slice_get natives n) false
mapped info test [] n = refl
mapped info test (native ∷ natives) zero = refl
mapped info test (native ∷ natives) (suc n) = mapped info test natives n

-- what is said of the native of a number
pub says_held : {N : Type 0} (info : N → NativeInfo) (test : NativeInfo → Bool) (natives : List N) (id : FnId) (native : N) → slice_get natives id.0 ≡ Some native → says test (infos_in info natives) id ≡ test (info native)
says_held info test natives id native held = mapped info test natives id.0 ∙ ap (λ o. option_map_or (λ n. test (info n)) o false) held

pub says_unheld : {N : Type 0} (info : N → NativeInfo) (test : NativeInfo → Bool) (natives : List N) (id : FnId) → slice_get natives id.0 ≡ None → says test (infos_in info natives) id ≡ false
says_unheld info test natives id unheld = mapped info test natives id.0 ∙ ap (λ o. option_map_or (λ n. test (info n)) o false) unheld
