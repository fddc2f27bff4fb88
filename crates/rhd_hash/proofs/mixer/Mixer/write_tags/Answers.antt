use Rattle.std.proofs.Common.{◌∙◌, sym}
use Rattle.rhd_hash.specs.Parts.{tag_bytes}
use Rattle.rhd_value.specs.declared.tag.TypeTag.TheVariants.{Unit}
use Rattle.rhd_hash.proofs.Mixing.{after_nil, after_each}
use Rattle.rhd_hash.proofs.mixer.Mixer.write_tags.Goals as goal

pub loop-tag-init : goal.loop-tag-init
loop-tag-init c = sym (after_nil _)

pub loop-tag-preserved : goal.loop-tag-preserved
loop-tag-preserved c = c.write_tag.ensures ∙ after_each tag_bytes c.args.tags.now c.loop-tag.tag-index Unit c.loop-tag-test.true _ _ c.loop-tag.invariant
