-- The calling convention of a function, by what is true of it.
use Rattle.std.proofs.Common.{◌≡◌, Bool, true, false, List, refl, ap, ◌∙◌}
use Rattle.std.specs.Prelude.{if◌then◌else◌}
use Rattle.rhd_func.specs.declared.func.RhaiFunc.{RhaiFunc}
use Rattle.rhd_func.specs.declared.func.RhaiFunc.TheVariants as funcs
use Rattle.rhd_func.specs.Funcs.{is_method, is_script}
use Rattle.rhd_func.specs.Natives.{NativeInfo}
use Rattle.rhd_machine.specs.Received.{Convention, script, native_method, other_native, convention_of}

abbrev pub told : Bool → Bool → Convention
told s m = if s then script else if m then native_method else other_native

pub method_no_script : (natives : List NativeInfo) (func : RhaiFunc) → is_method natives func ≡ true → is_script func ≡ false
method_no_script natives (funcs.Pure id context pure volatile) m = refl
method_no_script natives (funcs.Method id context pure volatile) m = refl
method_no_script natives (funcs.Iterator id) m = refl
method_no_script natives (funcs.Plugin id) m = refl
method_no_script natives (funcs.StaticPlugin id) m = refl
method_no_script natives (funcs.Script def env) m = absurd cc

pub native_convention : (natives : List NativeInfo) (func : RhaiFunc) (m : Bool) → is_script func ≡ false → is_method natives func ≡ m → convention_of natives func ≡ told false m
native_convention natives func m s is = ap (λ (b : Bool). told b (is_method natives func)) s ∙ ap (told false) is

pub script_convention : (natives : List NativeInfo) (func : RhaiFunc) → is_script func ≡ true → convention_of natives func ≡ script
script_convention natives func s = ap (λ (b : Bool). told b (is_method natives func)) s
