-- The replies of a new session.
use Rattle.std.proofs.Common.{◌≡◌, ◌≤◌, ℕ, List, [], IfOk, length, take, refl, sym, ap, subst, ◌∙◌, arith}
use Rattle.std.proofs.Math.Seq.{take-length}
use Rattle.std.specs.Prelude.{Option, None, Some, IfSome, unwrap_or, Result, Ok, Err, IfErr}
use Rattle.rhd_func.specs.Natives.{NativeInfo}
use Rattle.rhd_call.specs.declared.command.Command.{Command}
use Rattle.rhd_call.specs.declared.reply.Reply.{Reply}
use Rattle.rhd_call.specs.declared.reply.Stopped.{Stopped}
use Rattle.rhd_engine.specs.declared.limits.Limits.{Limits}
use Rattle.rhd_hash.specs.declared.mixer.Seeds.{Seeds}
use Rattle.rhd_machine.specs.World.{Moment}
use Rattle.rhd_resolve.specs.File.{FileState}
use Rattle.rhd_session.specs.Start.{start_world, start_state, start_files, start_moment}
use Rattle.rhd_session.specs.State.{SessionState, SessionObjects}
use Rattle.rhd_session.specs.Answered.{Answered, RunGives}
use Rattle.rhd_plan.specs.declared.session.SessionText.{SessionText}
use Rattle.rhd_tool.specs.Handed.{Handed, Hosts, Bodies}
use Rattle.rhd_tool.specs.Ends.{default_limits, limits_of, seeds_of, start_of, IsAnswered}

-- no command is answered by no reply
pub none_answered : (h : Handed) (text : SessionText) (commands : List Command) (replies : List Reply) → replies ≡ [] → IsAnswered h text (take (length replies) commands) replies
none_answered h text commands replies e = rw e (record { state = start_of h.natives text; after = start_moment text.hosts text.bodies; answered = (refl, refl) })

-- the state of a new session with the seeds, the limits and the files that a text sets
pub start_same : (natives : List NativeInfo) (text : SessionText) (state : SessionState) (s : Seeds) (l : Limits) (files : FileState)
    → state ≡ start_state (start_world natives text.manifests s l text.builtins text.printers) files → s ≡ seeds_of text → l ≡ limits_of text → files ≡ start_files text.files 0 → state ≡ start_of natives text
start_same natives text state s l files e seeds limits set = e ∙ (λ i. start_state (start_world natives text.manifests (seeds i) (limits i) text.builtins text.printers) (set i))

-- replies from there on are those of a new session
begun_anew : (h : Handed) (text : SessionText) (commands : List Command) (replies : List Reply) (o : SessionObjects Hosts Bodies) (start : SessionState) (before : Moment Hosts Bodies) (state : SessionState) (after : Moment Hosts Bodies)
    → o ≡ h.objects → start ≡ start_of h.natives text → before ≡ start_moment text.hosts text.bodies
    → Answered o start before commands replies state after → IsAnswered h text commands replies
begun_anew h text commands replies o start before state after eo es em a =
    let new = subst (λ (x : Moment Hosts Bodies). Answered o start x commands replies state after) em a in
    let placed = subst (λ (x : SessionState). Answered o x (start_moment text.hosts text.bodies) commands replies state after) es new in
    record { state = state; after = after; answered = subst (λ (x : SessionObjects Hosts Bodies). Answered x (start_of h.natives text) (start_moment text.hosts text.bodies) commands replies state after) eo placed }

-- what a run of all commands answers where it begins with a new session of a text
pub all_answered : (h : Handed) (text : SessionText) (commands : List Command) (o : SessionObjects Hosts Bodies) (start : SessionState) (before : Moment Hosts Bodies) (r : Result (List Reply) Stopped) (state : SessionState) (after : Moment Hosts Bodies)
    → RunGives (record { objects = o; state = start }) before commands r state after
    → o ≡ h.objects → start ≡ start_of h.natives text → before ≡ start_moment text.hosts text.bodies
    → IfOk r (IsAnswered h text commands)
all_answered h text commands o start before (Ok replies) state after gives eo es em = begun_anew h text commands replies o start before state after eo es em gives.0
all_answered h text commands o start before (Err stopped) state after gives eo es em = tt

pub some_answered : (h : Handed) (text : SessionText) (commands : List Command) (o : SessionObjects Hosts Bodies) (start : SessionState) (before : Moment Hosts Bodies) (r : Result (List Reply) Stopped) (state : SessionState) (after : Moment Hosts Bodies)
    → RunGives (record { objects = o; state = start }) before commands r state after
    → o ≡ h.objects → start ≡ start_of h.natives text → before ≡ start_moment text.hosts text.bodies
    → IfErr r (λ stopped. IsAnswered h text (take (length stopped.replies) commands) stopped.replies)
some_answered h text commands o start before (Ok replies) state after gives eo es em = tt
some_answered h text commands o start before (Err stopped) state after gives eo es em = begun_anew h text (take (length stopped.replies) commands) stopped.replies o start before gives.last gives.mid eo es em gives.answered

-- all replies are as many as the commands
pub front_answered : (h : Handed) (text : SessionText) (commands : List Command) (replies now : List Reply) → now ≡ replies → length replies ≡ length commands
    → IsAnswered h text commands replies → IsAnswered h text (take (length now) commands) now
front_answered h text commands replies now e count a =
    let all : take (length now) commands ≡ commands = ap (λ (n : ℕ). take n commands) (ap length e ∙ count) ∙ take-length commands in
    rw all (subst (IsAnswered h text commands) (sym e) a)

-- the limits of a text that was read
pub limits_allowed : (o : Option Limits) → IfSome o (λ l. l.level ≤ 1000) → (unwrap_or o default_limits).level ≤ 1000
limits_allowed None fits = omega arith
limits_allowed (Some l) fits = fits
