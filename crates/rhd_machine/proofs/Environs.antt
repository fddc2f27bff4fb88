-- Entering a function's frame: what stays of the frame before, and what is held.
use Rattle.std.proofs.Common.{◌≡◌, ℕ, true, ◌&&◌, List, [], ◌∷◌, ◌++◌, Option, None, Some, refl, ap, ◌∙◌, length, take}
use Rattle.std.specs.Prelude.{slice_get, zero, suc}
use Rattle.std.proofs.Math.Seq.{take-append_seam, take-length}
use Rattle.std.proofs.lemmas.List.Folds.{list_all-append}
use Rattle.rhd_value.specs.Tree.{Bytes}
use Rattle.rhd_func.specs.declared.access.EnvId.{EnvId}
use Rattle.rhd_func.specs.declared.func.RhaiFunc.{RhaiFunc}
use Rattle.rhd_func.specs.declared.func.RhaiFunc.TheVariants as funcs
use Rattle.rhd_module.specs.Tree.{ModuleTree}
use Rattle.rhd_call.specs.declared.pick.Pick.{Pick}
use Rattle.rhd_engine.specs.Engine.{Frame, Imports}
use Rattle.rhd_engine.specs.Held.{names_held, all_held, named_held}
use Rattle.rhd_layers.proofs.Bools.{both, parts}
use Rattle.rhd_resolve.specs.declared.environs.EncapsulatedEnviron.{EncapsulatedEnviron}
use Rattle.rhd_machine.specs.Entered.{with_environ, in_environ, entered_by, entered}
use Rattle.rhd_machine.specs.Held.{frame_held, environ_held, environs_held}
use Rattle.rhd_machine.specs.Waits.{outer_of, given_back, IsAbove}

-- a list begins with another
abbrev begins : {A : Type 0} → List A → List A → Type 0
begins base xs = take (length base) xs ≡ base

begins_trans : {A : Type 0} (base xs zs : List A) → begins base xs → begins xs zs → begins base zs
begins_trans [] xs zs h k = refl
begins_trans (b ∷ bs) [] zs h k = absurd cc
begins_trans (b ∷ bs) (x ∷ xs) [] h k = absurd cc
begins_trans (b ∷ bs) (x ∷ xs) (z ∷ zs) h k =
    let p : x ≡ b = cc in
    let q : take (length bs) xs ≡ bs = cc in
    let r : z ≡ x = cc in
    let s : take (length xs) zs ≡ xs = cc in
    λ i. (r ∙ p) i ∷ begins_trans bs xs zs q s i

-- every frame is above itself, and above what one below it is above
pub above_itself : (f : Frame) → IsAbove f f
above_itself f = record { lib = take-length f.lib; imports = take-length f.imports; tag = refl }

pub above_trans : (base f g : Frame) → IsAbove base f → IsAbove f g → IsAbove base g
above_trans base f g h k = record {
  lib = begins_trans base.lib f.lib g.lib h.lib k.lib;
  imports = begins_trans base.imports f.imports g.imports h.imports k.imports;
  tag = k.tag ∙ h.tag;
}

-- a frame with more at the ends of its lists, another source and another level
pub above_more : (f g : Frame) (libs : List ModuleTree) (imports : Imports) → g.lib ≡ f.lib ++ libs → g.imports ≡ f.imports ++ imports → g.tag ≡ f.tag → IsAbove f g
above_more f g libs imports l m t = record {
  lib = ap (take (length f.lib)) l ∙ take-append_seam f.lib libs;
  imports = ap (take (length f.imports)) m ∙ take-append_seam f.imports imports;
  tag = t;
}

-- with what the base has given back, it is the base
pub above_back : (base f : Frame) → IsAbove base f → given_back (outer_of base) f ≡ base
above_back base f h = λ i. record { lib = h.lib i; imports = h.imports i; source = base.source; level = base.level; tag = h.tag i }

-- the frame that a function enters is above its caller's
environ_above : (env : Option EncapsulatedEnviron) (f : Frame) → IsAbove f (with_environ env f)
environ_above None f = above_itself f
environ_above (Some env) f = above_more f (with_environ (Some env) f) (env.lib ∷ []) env.imports refl refl refl

in_above : (environs : List EncapsulatedEnviron) (id : Option EnvId) (f : Frame) → IsAbove f (in_environ environs id f)
in_above environs None f = above_itself f
in_above environs (Some id) f = environ_above (slice_get environs id.0) f

by_above : (environs : List EncapsulatedEnviron) (f : Frame) (source : Option Bytes) (func : RhaiFunc) → IsAbove f (entered_by environs f source func)
by_above environs f source (funcs.Script def env) = let h = in_above environs env f in record { lib = h.lib; imports = h.imports; tag = h.tag }
by_above environs f source (funcs.Pure id context pure volatile) = above_itself f
by_above environs f source (funcs.Method id context pure volatile) = above_itself f
by_above environs f source (funcs.Iterator id) = above_itself f
by_above environs f source (funcs.Plugin id) = above_itself f
by_above environs f source (funcs.StaticPlugin id) = above_itself f

pub enters_above : (environs : List EncapsulatedEnviron) (f : Frame) (level : ℕ) (pick : Pick) → IsAbove f (entered environs f level pick)
enters_above environs f level pick = let h = by_above environs f pick.source pick.func in record { lib = h.lib; imports = h.imports; tag = h.tag }

-- What it names is held where what its caller's frame and the environments name is.
got_held : (n : ℕ) (environs : List EncapsulatedEnviron) (k : ℕ) (f : Frame) → environs_held n environs ≡ true → frame_held n f ≡ true → frame_held n (with_environ (slice_get environs k) f) ≡ true
got_held n [] k f all held = held
got_held n (env ∷ environs) zero f all held =
    let e = parts (names_held n env.lib) (named_held n env.imports) (parts (environ_held n env) (environs_held n environs) all).0 in
    let h = parts (all_held n f.lib) (named_held n f.imports) held in
    both (all_held n (f.lib ++ env.lib ∷ [])) (named_held n (f.imports ++ env.imports))
    (list_all-append (names_held n) f.lib (env.lib ∷ []) ∙ both (all_held n f.lib) (names_held n env.lib && true) h.0 (both (names_held n env.lib) true e.0 refl))
    (list_all-append (λ i. names_held n i.1) f.imports env.imports ∙ both (named_held n f.imports) (named_held n env.imports) h.1 e.1)
got_held n (env ∷ environs) (suc k) f all held = got_held n environs k f (parts (environ_held n env) (environs_held n environs) all).1 held

in_held : (n : ℕ) (environs : List EncapsulatedEnviron) (id : Option EnvId) (f : Frame) → environs_held n environs ≡ true → frame_held n f ≡ true → frame_held n (in_environ environs id f) ≡ true
in_held n environs None f all held = held
in_held n environs (Some id) f all held = got_held n environs id.0 f all held

by_held : (n : ℕ) (environs : List EncapsulatedEnviron) (f : Frame) (source : Option Bytes) (func : RhaiFunc) → environs_held n environs ≡ true → frame_held n f ≡ true → frame_held n (entered_by environs f source func) ≡ true
by_held n environs f source (funcs.Script def env) all held = in_held n environs env f all held
by_held n environs f source (funcs.Pure id context pure volatile) all held = held
by_held n environs f source (funcs.Method id context pure volatile) all held = held
by_held n environs f source (funcs.Iterator id) all held = held
by_held n environs f source (funcs.Plugin id) all held = held
by_held n environs f source (funcs.StaticPlugin id) all held = held

pub entered_held : (n : ℕ) (environs : List EncapsulatedEnviron) (f : Frame) (level : ℕ) (pick : Pick) → environs_held n environs ≡ true → frame_held n f ≡ true → frame_held n (entered environs f level pick) ≡ true
entered_held n environs f level pick all held = by_held n environs f pick.source pick.func all held
