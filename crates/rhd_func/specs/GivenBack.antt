-- What a step gives back of the first argument that its function was given.
use Rattle.std.specs.Prelude.{◌≡◌, Option, is_some}
use Rattle.rhd_value.specs.Tree.{Tree}
use Rattle.rhd_func.specs.declared.request.NativeStep.{NativeStep}
use Rattle.rhd_func.specs.declared.request.NativeStep.TheVariants.{Done, Failed, Ask}

-- the first argument as it then is; in the carry of a step that asks
abbrev pub back_of : NativeStep → Option Tree
back_of (Done answer first) = first
back_of (Failed fault first) = first
back_of (Ask request carry) = carry.first

-- a first argument is given back exactly where one was given
abbrev pub GivesBack : Option Tree → NativeStep → Type 0
GivesBack given step = is_some (back_of step) ≡ is_some given
