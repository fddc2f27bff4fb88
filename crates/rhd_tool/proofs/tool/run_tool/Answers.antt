use Rattle.std.proofs.Common.{◌∙◌}
use Rattle.rhd_tool.proofs.Statuses.{zero_or_five}
use Rattle.rhd_tool.proofs.tool.run_tool.Goals as goal

pub returns-clause-complete : goal.returns-clause-complete
returns-clause-complete g c = λ bytes text run left few says calm still.
    let came = c.deref.ensures.value ∙ (c.in-Ok.ensures.ends bytes left calm).1 in
    zero_or_five c.run_bytes.result.status _ c.run_bytes.ensures.statuses (c.run_bytes.ensures.text text (rw came says)) c.run_bytes.ensures.fault still

pub returns-clause-refused : goal.returns-clause-refused
returns-clause-refused g c = λ bytes n run left few first calm.
    let came = c.deref.ensures.value ∙ (c.in-Ok.ensures.ends bytes left calm).1 in
    c.run_bytes.ensures.first n (rw came first)
