use Rattle.rhd_table.proofs.PlacesBack.{index_more}
use Rattle.rhd_table.proofs.growing.note_places.Goals as goal

pub loop-place-preserved : goal.loop-place-preserved
loop-place-preserved c = index_more c.loop-place.natives c.note_place.new.natives c.args.table.now.seeds c.args.table.now.pairs c.loop-place.place c.loop-place.invariant c.in_default.ensures.ok
