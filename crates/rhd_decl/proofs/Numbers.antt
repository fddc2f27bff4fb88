-- Why a native of a number is refused: what the natives of a table say of themselves.
use Rattle.std.proofs.Common.{◌≡◌, ◌<◌, ◌≤◌, ℕ, Bool, true, false, not, nat_lt, List, length, map, sym, ap, subst, ◌∙◌, inl, inr, arith}
use Rattle.std.specs.Prelude.{Option, Some, None, Result, slice_get, unwrap_or, option_map}
use Rattle.std.proofs.lemmas.Bool.Decides.{nat_tests}
use Rattle.std.proofs.lemmas.Option.{slice_get_cases, slice_get-map}
use Rattle.std.proofs.lemmas.List.{length-map}
use Rattle.rhd_value.specs.Firsts.{where_holds}
use Rattle.rhd_value.specs.declared.tag.FnId.{FnId}
use Rattle.rhd_func.specs.Natives.{NativeInfo}
use Rattle.rhd_decl.specs.declared.fault.DeclFault.{DeclFault}
use Rattle.rhd_decl.specs.declared.fault.DeclFault.TheVariants.{UnknownNumber}
use Rattle.rhd_decl.specs.Registration.{unheld, banned, no_info, native_at, Refuses}
use Rattle.rhd_value.specs.Tree.{Bytes}

-- a test that doesn't hold refuses nothing
pub where_not : {A : Type 0} (test : Bool) (x : A) → test ≡ false → where_holds test x ≡ None
where_not test x e = ap (λ (b : Bool). where_holds b x) e

pub where_so : {A : Type 0} (test : Bool) (x : A) → test ≡ true → where_holds test x ≡ Some x
where_so test x e = ap (λ (b : Bool). where_holds b x) e

-- a number of which something is held, and one of which nothing is
pub is_held : {N : Type 0} (items : List N) (i : ℕ) (x : N) → slice_get items i ≡ Some x → nat_lt i (length items) ≡ true
is_held items i x some = elim (slice_get_cases items i).1 [
  | inl held ↦ grind (arith, nat_tests, held.1)
  | inr past ↦ absurd (let e : Some x ≡ None = sym some ∙ past.1 in cc)
]

pub not_held : {N : Type 0} (items : List N) (i : ℕ) → slice_get items i ≡ None → nat_lt i (length items) ≡ false
not_held items i none = elim (slice_get_cases items i).1 [
  | inl held ↦ absurd (let e : Some held.0 ≡ None = sym held.2 ∙ none in cc)
  | inr past ↦ grind (arith, nat_tests, past.0)
]

-- the same of what the natives of a table say of themselves
pub unheld_none : {N : Type 0} (view : N → NativeInfo) (items : List N) (id : FnId) → id.0 < length items → None ≡ unheld (map view items) (Some id)
unheld_none view items id h =
    let within : nat_lt id.0 (length items) ≡ true = grind (arith, nat_tests, h) in
    sym (ap (λ (l : ℕ). where_holds (not (nat_lt id.0 l)) (UnknownNumber id.0 l)) (length-map items view) ∙ where_not (not (nat_lt id.0 (length items))) (UnknownNumber id.0 (length items)) (ap not within))

pub unheld_some : {N : Type 0} (view : N → NativeInfo) (items : List N) (id : FnId) → length items ≤ id.0 → Some (UnknownNumber id.0 (length items)) ≡ unheld (map view items) (Some id)
unheld_some view items id h =
    let past : nat_lt id.0 (length items) ≡ false = grind (arith, nat_tests, h) in
    sym (ap (λ (l : ℕ). where_holds (not (nat_lt id.0 l)) (UnknownNumber id.0 l)) (length-map items view) ∙ where_so (not (nat_lt id.0 (length items))) (UnknownNumber id.0 (length items)) (ap not past))

pub says_itself : {N : Type 0} (view : N → NativeInfo) (items : List N) (i : ℕ) (native : N) → slice_get items i ≡ Some native → slice_get (map view items) i ≡ Some (view native)
says_itself view items i native some = slice_get-map view items i ∙ ap (option_map view) some

pub says_nothing : {N : Type 0} (view : N → NativeInfo) (items : List N) (i : ℕ) → slice_get items i ≡ None → slice_get (map view items) i ≡ None
says_nothing view items i none = slice_get-map view items i ∙ ap (option_map view) none

-- a native that is held is refused as it says of itself, and one that isn't is no indexer
pub held_refuses : {A : Type 0} (infos : List NativeInfo) (id : FnId) (name : Bytes) (r : Result A DeclFault) (info : NativeInfo) → slice_get infos id.0 ≡ Some info → Refuses (banned info.is_method name info.types) r
    → Refuses (banned (native_at infos id).is_method name (native_at infos id).types) r
held_refuses infos id name r info held why = subst (λ (i : NativeInfo). Refuses (banned i.is_method name i.types) r) (sym (ap (λ (o : Option NativeInfo). unwrap_or o no_info) held)) why

pub none_refused : (infos : List NativeInfo) (id : FnId) (name : Bytes) → slice_get infos id.0 ≡ None → banned (native_at infos id).is_method name (native_at infos id).types ≡ None
none_refused infos id name none = ap (λ (o : Option NativeInfo). banned (unwrap_or o no_info).is_method name (unwrap_or o no_info).types) none
