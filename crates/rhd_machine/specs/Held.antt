-- Whether the natives that a frame and environments name are held.
use Rattle.std.specs.Prelude.{ℕ, Bool, ◌&&◌, List}
use Rattle.std.specs.List.{list_all}
use Rattle.rhd_engine.specs.Engine.{Frame}
use Rattle.rhd_engine.specs.Held.{names_held, all_held, named_held}
use Rattle.rhd_resolve.specs.declared.environs.EncapsulatedEnviron.{EncapsulatedEnviron}

-- those of its libraries and of its imports
abbrev pub frame_held : ℕ → Frame → Bool
frame_held natives f = all_held natives f.lib && named_held natives f.imports

-- those of an environment's library and of its imports
abbrev pub environ_held : ℕ → EncapsulatedEnviron → Bool
environ_held natives env = names_held natives env.lib && named_held natives env.imports

-- and those of each environment
abbrev pub environs_held : ℕ → List EncapsulatedEnviron → Bool
environs_held natives environs = list_all (environ_held natives) environs
