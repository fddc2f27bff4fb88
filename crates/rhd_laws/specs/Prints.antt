-- Which calls print, and what they make of a function's value, said without tests.
use Rattle.std.specs.Prelude.{◌≡◌, Bool, true, false, Some, codes}
use Rattle.rhd_value.specs.Tree.{Bytes, Tree, unit}
use Rattle.rhd_value.specs.Kinds.{plain, text_in}
use Rattle.rhd_func.specs.Funcs.{is_script}
use Rattle.rhd_engine.specs.declared.limits.Printers.{Printers}
use Rattle.rhd_call.specs.declared.pick.Layer.TheVariants.{Builtin}
use Rattle.rhd_call.specs.declared.pick.Pick.{Pick}
use Rattle.rhd_machine.specs.Plans.{is_unqualified, Plan}

-- the function is a native that was found by its name: no script, and no built-in
abbrev pub IsNative : Pick → Type 0
IsNative pick = (is_script pick.func ≡ false) × (pick.layer ≡ Builtin → ⊥)

-- The call is an unqualified one of the native `print` or `debug`. The truth value says whether the printer of that name is set.
pub data Prints (printers : Printers) (plan : Plan) (pick : Pick) : Bool → Type 0 where
  by_print : {set : Bool} → is_unqualified plan.search ≡ true → IsNative pick → plan.name ≡ codes "print" → printers.print ≡ set → Prints printers plan pick set
  by_debug : {set : Bool} → is_unqualified plan.search ≡ true → IsNative pick → plan.name ≡ codes "debug" → printers.debug ≡ set → Prints printers plan pick set

-- A printer that is set is given a text.
abbrev pub IsPrintable : Printers → Plan → Pick → Tree → Type 0
IsPrintable printers plan pick v = Prints printers plan pick true → (text : Bytes) × (text_in v.kind ≡ Some text)

-- what a call makes of its function's value: unit where it is one of `print` or `debug`
pub data Makes (printers : Printers) (plan : Plan) (pick : Pick) (v : Tree) : Tree → Type 0 where
  unit_for_it : {made : Tree} (set : Bool) → Prints printers plan pick set → made ≡ plain unit → Makes printers plan pick v made
  itself : {made : Tree} → ((set : Bool) → Prints printers plan pick set → ⊥) → made ≡ v → Makes printers plan pick v made
