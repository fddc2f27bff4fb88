-- The parts of a pick: its scripts, and its native or built-in.
use Rattle.std.proofs.Common.{◌≡◌, Bool, List, [], ◌∷◌, sym, ap, ◌∙◌}
use Rattle.std.specs.Prelude.{Option, Some, None}
use Rattle.std.specs.Option.{option_or}
use Rattle.rhd_value.specs.Tree.{Bytes}
use Rattle.rhd_value.specs.Firsts.{first_of}
use Rattle.rhd_names.specs.declared.token.OpToken.{OpToken}
use Rattle.rhd_func.specs.declared.request.CallShape.{CallShape}
use Rattle.rhd_module.specs.Tree.{ModuleTree}
use Rattle.rhd_call.specs.declared.pick.Pick.{Pick}
use Rattle.rhd_engine.specs.Engine.{EngineLists, Imports}
use Rattle.rhd_dispatch.specs.Asks.{looked, allowed_asks, native_ask, pick_unqualified}
use Rattle.rhd_dispatch.proofs.Firsts.{or_none, of_append}

-- The pick is the script's, or else the native's or the built-in's.

pick_parts : (e : EngineLists) (libs : List ModuleTree) (imports : Imports) (name : Bytes) (token : Option OpToken) (native_only : Bool) (shape : CallShape) →
    pick_unqualified e libs imports name token native_only shape ≡ option_or (first_of (looked e libs imports) (allowed_asks e name native_only shape)) (looked e libs imports (native_ask name token shape))
pick_parts e libs imports name token native_only shape =
    of_append (looked e libs imports) (allowed_asks e name native_only shape) (native_ask name token shape ∷ [])
    ∙ ap (option_or (first_of (looked e libs imports) (allowed_asks e name native_only shape))) (or_none (looked e libs imports (native_ask name token shape)))

pub script_is_pick : (e : EngineLists) (libs : List ModuleTree) (imports : Imports) (name : Bytes) (token : Option OpToken) (native_only : Bool) (shape : CallShape) (o : Option Pick) (pick : Pick)
    → o ≡ first_of (looked e libs imports) (allowed_asks e name native_only shape) → o ≡ Some pick → ◌≡◌ {A = Option Pick} (Some pick) (pick_unqualified e libs imports name token native_only shape)
script_is_pick e libs imports name token native_only shape o pick first some =
    sym (pick_parts e libs imports name token native_only shape ∙ ap (λ (x : Option Pick). option_or x (looked e libs imports (native_ask name token shape))) (sym first ∙ some))

pub native_is_pick : (e : EngineLists) (libs : List ModuleTree) (imports : Imports) (name : Bytes) (token : Option OpToken) (native_only : Bool) (shape : CallShape) (o last : Option Pick)
    → o ≡ first_of (looked e libs imports) (allowed_asks e name native_only shape) → o ≡ None → last ≡ looked e libs imports (native_ask name token shape) → last ≡ pick_unqualified e libs imports name token native_only shape
native_is_pick e libs imports name token native_only shape o last first none answered =
    answered ∙ sym (pick_parts e libs imports name token native_only shape ∙ ap (λ (x : Option Pick). option_or x (looked e libs imports (native_ask name token shape))) (sym first ∙ none))
