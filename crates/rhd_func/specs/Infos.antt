-- What the natives of a table say of themselves.
use Rattle.std.specs.Prelude.{List, map}
use Rattle.rhd_func.specs.Natives.{NativeInfo}
use Rattle.rhd_func.specs.declared.natives.Natives.{Natives}

-- in the order of their numbers
abbrev pub infos_in : {N : Type 0} → (N → NativeInfo) → List N → List NativeInfo
infos_in info natives = map info natives

-- the same of a table, where a box is a vtable and a value
unfoldable pub infos_of : {X : Type 0} {F : X → Type 0} → ((x : X) × F x → NativeInfo) → Natives X F → List NativeInfo
infos_of info natives = infos_in (λ b. info (b.vtable, b.value)) natives.items.items
