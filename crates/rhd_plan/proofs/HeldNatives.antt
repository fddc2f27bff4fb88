-- There is one info for each native.
use Rattle.std.proofs.Common.{◌≡◌, length}
use Rattle.std.proofs.lemmas.List.{length-map}
use Rattle.rhd_func.specs.Natives.{NativeInfo}
use Rattle.rhd_func.specs.Infos.{infos_of}
use Rattle.rhd_func.specs.declared.natives.Natives.{Natives}

pub count_infos : {X : Type 0} {F : X → Type 0} (info : (x : X) × F x → NativeInfo) (natives : Natives X F) → length (infos_of info natives) ≡ length natives.items.items
unfolding infos_of
count_infos info natives = length-map natives.items.items (λ b. info (b.vtable, b.value))
