use Rattle.rhd_text.proofs.PlanLaws.{call_plan, call_native_plan, ref_plan, ref_native_plan, method_plan, method_native_plan, qual_plan, qual_ref_plan}
use Rattle.rhd_text.proofs.requests.plan_at.Goals as goal

pub returns-in-Call : goal.returns-in-Call
returns-in-Call c = rw (c.in-Call.is, call_plan c.args.given c.args.pos c.args.bytes.now) c.named_at.ensures

pub returns-in-CallNative : goal.returns-in-CallNative
returns-in-CallNative c = rw (c.in-CallNative.is, call_native_plan c.args.given c.args.pos c.args.bytes.now) c.named_at-in-CallNative.ensures

pub returns-in-Ref : goal.returns-in-Ref
returns-in-Ref c = rw (c.in-Ref.is, ref_plan c.args.given c.args.pos c.args.bytes.now) c.named_at-in-Ref.ensures

pub returns-in-RefNative : goal.returns-in-RefNative
returns-in-RefNative c = rw (c.in-RefNative.is, ref_native_plan c.args.given c.args.pos c.args.bytes.now) c.named_at-in-RefNative.ensures

pub returns-in-Method : goal.returns-in-Method
returns-in-Method c = rw (c.in-Method.is, method_plan c.args.given c.args.pos c.args.bytes.now) c.named_at-in-Method.ensures

pub returns-in-MethodNative : goal.returns-in-MethodNative
returns-in-MethodNative c = rw (c.in-MethodNative.is, method_native_plan c.args.given c.args.pos c.args.bytes.now) c.named_at-in-MethodNative.ensures

pub returns-in-Qual : goal.returns-in-Qual
returns-in-Qual c = rw (c.in-Qual.is, qual_plan c.args.given c.args.pos c.args.bytes.now) c.qualified_at.ensures

pub returns-in-QualRef : goal.returns-in-QualRef
returns-in-QualRef c = rw (c.in-QualRef.is, qual_ref_plan c.args.given c.args.pos c.args.bytes.now) c.qualified_at-in-QualRef.ensures
