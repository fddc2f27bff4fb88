use Rattle.rhd_laws.proofs.NodeEnds.{runs_end, first_alone, native_leaves, script_leaves, method_gives, object_gives}
use Rattle.rhd_laws.proofs.calls.a_call_shows_its_first_argument.Goals as goal

pub returns-clause-alone : goal.returns-clause-alone
returns-clause-alone g c = λ r h. first_alone _ _ (runs_end _ _ r.runs) h

pub returns-clause-by_value : goal.returns-clause-by_value
returns-clause-by_value g c = λ r pick lasts h s m. native_leaves _ _ pick (runs_end _ _ r.runs) lasts h s m

pub returns-clause-script : goal.returns-clause-script
returns-clause-script g c = λ r pick first args lasts h s is. script_leaves _ _ pick first args (runs_end _ _ r.runs) lasts h s is

pub returns-clause-method : goal.returns-clause-method
returns-clause-method g c = λ r pick first lasts h m is. method_gives _ _ pick first (runs_end _ _ r.runs) lasts h m is

pub returns-clause-object : goal.returns-clause-object
returns-clause-object g c = λ r pick object args lasts h s is. object_gives _ _ pick object args (runs_end _ _ r.runs) lasts h s is
