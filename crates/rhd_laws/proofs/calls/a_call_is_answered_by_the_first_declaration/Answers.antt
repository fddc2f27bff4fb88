use Rattle.rhd_laws.proofs.FirstAnswered.{picked_exactly, runs_first, first_runs, ends_missing, missing_ends, asks_first, first_asks, looked_first, first_looked, key_first, first_key}
use Rattle.rhd_laws.proofs.calls.a_call_is_answered_by_the_first_declaration.Goals as goal

pub returns-clause-runs : goal.returns-clause-runs
returns-clause-runs c = λ e f level call plan pick. (runs_first e f level call plan pick, first_runs e f level call plan pick)

pub returns-clause-picked : goal.returns-clause-picked
returns-clause-picked c = λ e f level call pick. picked_exactly e f level call pick

pub returns-clause-ends : goal.returns-clause-ends
returns-clause-ends c = λ e f level call pick end. (ends_missing e f level call pick end, missing_ends e f level call pick end)

pub returns-clause-host : goal.returns-clause-host
returns-clause-host c = λ e f level call plan. (asks_first e f level call plan, first_asks e f level call plan)

pub returns-clause-place : goal.returns-clause-place
returns-clause-place c = λ e f key pick. (key_first e f key pick, first_key e f key pick)

pub returns-clause-pattern : goal.returns-clause-pattern
returns-clause-pattern c = λ e f name kinds token pick. (looked_first e f name kinds token pick, first_looked e f name kinds token pick)
