-- Which calls show a printed text, and what a call of `print` or `debug` answers.
use Rattle.std.specs.Prelude.{◌≡◌, true, Option, Some}
use Rattle.rhd_value.specs.Tree.{Bytes, Tree}
use Rattle.rhd_value.specs.Kinds.{text_in}
use Rattle.rhd_value.specs.declared.tag.TypeTag.{TypeTag}
use Rattle.rhd_func.specs.declared.request.NativeStep.TheVariants.{Done}
use Rattle.rhd_engine.specs.Engine.{Frame}
use Rattle.rhd_machine.specs.World.{World, Objects}
use Rattle.rhd_call.specs.declared.pick.Pick.{Pick}
use Rattle.rhd_machine.specs.Plans.{plan_of}
use Rattle.rhd_laws.specs.Prints.{Prints, IsPrintable, Makes}
use Rattle.rhd_laws.specs.Causes.{AreWithin, IsOfOtherKind, EndsWith}
use Rattle.rhd_call.specs.Seen.{Seen}

-- The node's call is unqualified, its function is the native `print` or `debug`, whose printer is set, and it ended with this text within the limits.
pub record ShowsText {H B : Type 0} (o : Objects H B) (w : World) (f : Frame) (node : Seen) (text : Bytes) : Type 0 where
  pub pick : Pick
  pub back : Option Tree
  pub answer : Tree
  pub ended : EndsWith o w f node pick (Done answer back)
  pub within : AreWithin w.engine (plan_of node.call) pick back answer
  pub set : Prints w.engine.printers (plan_of node.call) pick true
  pub is_text : text_in answer.kind ≡ Some text

-- The node's function ended with a value that neither a limit nor a printer refuses; the call makes this of it, and that is of the wanted kind.
pub record AnswersValue {H B : Type 0} (o : Objects H B) (w : World) (f : Frame) (node : Seen) (value : Tree) : Type 0 where
  pub pick : Pick
  pub back : Option Tree
  pub answer : Tree
  pub ended : EndsWith o w f node pick (Done answer back)
  pub within : AreWithin w.engine (plan_of node.call) pick back answer
  pub printable : IsPrintable w.engine.printers (plan_of node.call) pick answer
  pub makes : Makes w.engine.printers (plan_of node.call) pick answer value
  pub wanted : (kind : TypeTag) → IsOfOtherKind (plan_of node.call).want kind value → ⊥
