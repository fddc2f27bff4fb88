use Rattle.rhd_laws.proofs.FramePlaces.{library_place, global_place, import_place, static_place, places_count}
use Rattle.rhd_laws.proofs.picks.the_places_of_a_frame.Goals as goal

pub returns-clause-libraries : goal.returns-clause-libraries
returns-clause-libraries c = library_place

pub returns-clause-global_modules : goal.returns-clause-global_modules
returns-clause-global_modules c = global_place

pub returns-clause-imports : goal.returns-clause-imports
returns-clause-imports c = import_place

pub returns-clause-statics : goal.returns-clause-statics
returns-clause-statics c = static_place

pub returns-clause-count : goal.returns-clause-count
returns-clause-count c = places_count
