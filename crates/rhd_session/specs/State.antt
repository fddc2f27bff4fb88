-- What the commands of a session are done in, as plain data, and what the objects that are handed in may do.
use Rattle.std.specs.Prelude.{◌≡◌, length}
use Rattle.rhd_value.specs.Tree.{Bytes}
use Rattle.rhd_value.specs.declared.tag.Position.{Position}
use Rattle.rhd_engine.specs.Engine.{Frame}
use Rattle.rhd_machine.specs.World.{World, Objects}
use Rattle.rhd_resolve.specs.Asked.{Asked, asked}
use Rattle.rhd_resolve.specs.Environs.{Envs}
use Rattle.rhd_resolve.specs.File.{FileState, AllowsLoad, OnlyRead}

-- the world, the frame in which calls are asked for, and the settings of the file resolver with its files
pub record SessionState : Type 0 where
  pub world : World
  pub frame : Frame
  pub files : FileState

-- the relations of natives, bodies and host, and the answers that the loader may have
pub record SessionObjects (H B : Type 0) : Type 1 where
  pub objects : Objects H B
  pub loads : AllowsLoad

-- the environments of a world, as a resolver gets them
abbrev pub envs_of : World → Envs
envs_of w = record { seeds = w.engine.seeds; natives = length w.engine.natives; iterators = w.engine.iterators; items = w.environs }

-- the position of what stands in no text
abbrev pub nowhere : Position
nowhere = record { line = 0; column = 0 }

-- what a resolver is asked for a path, from the source of the frame
abbrev pub asked_for : World → Frame → Bytes → Asked
asked_for w f path = asked w.engine.manifests (envs_of w) f.source path nowhere

-- nothing has changed, but that files may have been read
abbrev pub Stays : SessionState → SessionState → Type 0
Stays old new = (new.world ≡ old.world) × (new.frame ≡ old.frame) × OnlyRead old.files new.files
