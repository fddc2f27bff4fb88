-- An entry for a native that is held, and for one that isn't.
use Rattle.std.proofs.Common.{◌≡◌, ℕ, zero, suc, Bool, false, List, [], ◌∷◌, map, length, Option, None, Some, Result, Ok, Err, refl, sym, ap, ◌∙◌, slice_get}
use Rattle.std.specs.Option.{option_map, option_map_or}
use Rattle.std.specs.Result.{IfOk}
use Rattle.rhd_value.specs.Tree.{Bytes}
use Rattle.rhd_value.specs.declared.tag.FnId.{FnId}
use Rattle.rhd_value.specs.declared.tag.TypeTag.{TypeTag}
use Rattle.rhd_func.specs.Natives.{NativeInfo}
use Rattle.rhd_func.specs.Infos.{infos_in}
use Rattle.rhd_func.specs.declared.access.FnNamespace.{FnNamespace}
use Rattle.rhd_manifest.specs.Entry.{Entry, entry_of}
use Rattle.rhd_manifest.specs.Fits.{native_fits, entry_fits}

map_get : {A B : Type 0} (f : A → B) (xs : List A) (i : ℕ) → slice_get (map f xs) i ≡ option_map f (slice_get xs i)
map_get f [] i = refl
map_get f (x ∷ xs) zero = refl
map_get f (x ∷ xs) (suc i) = map_get f xs i

pub held_info : {N : Type 0} (info : N → NativeInfo) (ns : List N) (i : ℕ) (n : N) → Some n ≡ slice_get ns i → slice_get (infos_in info ns) i ≡ Some (info n)
held_info info ns i n e = map_get info ns i ∙ ap (option_map info) (sym e)

pub unheld_info : {N : Type 0} (info : N → NativeInfo) (ns : List N) (i : ℕ) → None ≡ slice_get ns i → slice_get (infos_in info ns) i ≡ None
unheld_info info ns i e = map_get info ns i ∙ ap (option_map info) (sym e)

pub fits_held : (infos : List NativeInfo) (e : Entry) (id : FnId) (o : Option NativeInfo) → id ≡ e.func → slice_get infos id.0 ≡ o → entry_fits infos e ≡ option_map_or (λ n. native_fits n e) o false
fits_held infos e id o s h = ap (λ k. option_map_or (λ n. native_fits n e) k false) (ap (λ f. slice_get infos f.0) (sym s) ∙ h)

-- the entry that is made
pub entry_is : (infos : List NativeInfo) (name given : Bytes) (namespace : FnNamespace) (func : FnId) (o : Option NativeInfo) (types : List TypeTag) (method : Bool) → given ≡ name → slice_get infos func.0 ≡ o
    → types ≡ option_map_or (λ n. n.types) o [] → method ≡ option_map_or (λ n. n.is_method) o false
    → record { name = given; namespace = namespace; func = func; param_types = types; is_method = method } ≡ entry_of infos name namespace func
entry_is infos name given namespace func o types method s h t k = λ i. record {
  name = s i;
  namespace = namespace;
  func = func;
  param_types = (t ∙ ap (λ p. option_map_or (λ n. n.types) p []) (sym h)) i;
  is_method = (k ∙ ap (λ p. option_map_or (λ n. n.is_method) p false) (sym h)) i;
}

-- what an answer is
pub ok_is : {A E : Type 0} (r : Result A E) (x y : A) → x ≡ y → IfOk r (λ a. a ≡ x) → IfOk r (λ a. a ≡ y)
ok_is (Ok a) x y e p = p ∙ e
ok_is (Err f) x y e p = tt

-- as many say something of themselves as are held
pub as_many : {N : Type 0} (info : N → NativeInfo) (ns : List N) → length (infos_in info ns) ≡ length ns
as_many info [] = refl
as_many info (n ∷ ns) = ap suc (as_many info ns)
