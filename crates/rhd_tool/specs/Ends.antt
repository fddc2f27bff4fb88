-- How a run ends.
use Rattle.std.specs.Prelude.{◌⊎◌, ◌≡◌, ℕ, List, [], ◌∷◌, length, map, take, unwrap_or, codes, string_bytes}
use Rattle.std.specs.declared.string.String.{String}
use Rattle.std.specs.declared.option.Option.{Option}
use Rattle.std.specs.Io.KnownBytes.{Appends}
use Rattle.std.specs.Str.Lines.{lines}
use Rattle.rhd_func.specs.Natives.{NativeInfo}
use Rattle.rhd_call.specs.declared.command.Command.{Command}
use Rattle.rhd_call.specs.declared.reply.Reply.{Reply}
use Rattle.rhd_engine.specs.declared.limits.Limits.{Limits}
use Rattle.rhd_machine.specs.World.{Moment}
use Rattle.rhd_hash.specs.declared.mixer.Seeds.{Seeds}
use Rattle.rhd_session.specs.Start.{start_world, start_state, start_files, start_moment}
use Rattle.rhd_session.specs.State.{SessionState}
use Rattle.rhd_session.specs.Answered.{Answered}
use Rattle.rhd_plan.specs.declared.session.SessionText.{SessionText}
use Rattle.rhd_text.specs.Session.{IsSession, IsFirstBad}
use Rattle.rhd_print.specs.PrintedReplies.{all_printed}
use Rattle.rhd_tool.specs.Handed.{Handed, Hosts, Bodies}
use Rattle.rhd_streams.specs.Streams.{CameWhole, WrotePart}

-- the most bytes that a text may have
abbrev pub most_bytes : ℕ
most_bytes = 16777216

-- the one list of words that runs a text
abbrev pub run_words : List (List ℕ)
run_words = codes "run" ∷ []

-- these words are that list
abbrev pub AskForRun : {A : Type 0} → List (String A) → Type 0
AskForRun words = map (λ w. string_bytes w) words ≡ run_words

-- all bytes of the source were read, and this line is the first that is no line of a session text
pub record WasBad (natives : List NativeInfo) (old new : Option (List ℕ)) (line : ℕ) : Type 0 where
  pub bytes : List ℕ
  pub whole : CameWhole most_bytes old new bytes
  pub first : IsFirstBad natives line (lines bytes)

-- the limits where a text sets none
abbrev pub default_limits : Limits
default_limits = record { array = 65536; map = 65536; text = 1048576; level = 64; budget = 1000000 }

-- the limits that a text sets, or else the default ones
abbrev pub limits_of : SessionText → Limits
limits_of text = unwrap_or text.limits default_limits

-- the seeds where a text sets none
abbrev pub default_seeds : Seeds
default_seeds = record { seed0 = 0; seed1 = 0; mask = 18446744073709551615 }

-- the seeds that a text sets, or else the default ones
abbrev pub seeds_of : SessionText → Seeds
seeds_of text = unwrap_or text.seeds default_seeds

-- a new session with what the text sets
abbrev pub start_of : List NativeInfo → SessionText → SessionState
start_of natives text = start_state (start_world natives text.manifests (seeds_of text) (limits_of text) text.builtins text.printers) (start_files text.files 0)

-- the replies answer the commands, one after the other, in a new session with what the text sets, and with its host and bodies
pub record IsAnswered (h : Handed) (text : SessionText) (commands : List Command) (replies : List Reply) : Type 0 where
  pub state : SessionState
  pub after : Moment Hosts Bodies
  pub answered : Answered h.objects (start_of h.natives text) (start_moment text.hosts text.bodies) commands replies state after

-- these bytes are a session text, and the replies answer its commands
pub record Ran (h : Handed) (bytes : List ℕ) (replies : List Reply) : Type 0 where
  pub text : SessionText
  pub says : IsSession h.natives (lines bytes) text
  pub answers : IsAnswered h text text.commands replies

-- the sink is as it was, or it was asked to write after so many commands were answered by as many replies
abbrev pub AskedAfterAll : {K : Type 0} → K → K → ℕ → ℕ → Type 0
AskedAfterAll old new commands replies = (new ≡ old) ⊎ (replies ≡ commands)

-- they are one, and the replies answer as many of its first commands; the sink was asked to write where these are all
pub record RanFront {K : Type 0} (h : Handed) (bytes : List ℕ) (sink_old sink_new : K) (replies : List Reply) : Type 0 where
  pub text : SessionText
  pub says : IsSession h.natives (lines bytes) text
  pub answers : IsAnswered h text (take (length replies) text.commands) replies
  pub asked : AskedAfterAll sink_old sink_new (length text.commands) (length replies)

-- the same; or there are no replies, and the sink is as it was
abbrev pub RanPart : {K : Type 0} → Handed → List ℕ → K → K → List Reply → Type 0
RanPart h bytes sink_old sink_new replies = ((replies ≡ []) × (sink_new ≡ sink_old)) ⊎ RanFront h bytes sink_old sink_new replies

-- all bytes of the source are a session text, and the replies to it were written, printed
pub record WasDone (h : Handed) (left_old left_new written_old written_new : Option (List ℕ)) (replies : List Reply) : Type 0 where
  pub bytes : List ℕ
  pub whole : CameWhole most_bytes left_old left_new bytes
  pub ran : Ran h bytes replies
  pub wrote : Appends written_old written_new (all_printed replies)

-- the same, of which a front was written
pub record WasCut (h : Handed) (left_old left_new written_old written_new : Option (List ℕ)) (replies : List Reply) : Type 0 where
  pub bytes : List ℕ
  pub whole : CameWhole most_bytes left_old left_new bytes
  pub ran : Ran h bytes replies
  pub wrote : WrotePart written_old written_new (all_printed replies)

-- all bytes of the source are a session text, and the replies answer as many of its first commands; the sink was asked to write where these are all
pub record WasStopped {K : Type 0} (h : Handed) (left_old left_new : Option (List ℕ)) (sink_old sink_new : K) (replies : List Reply) : Type 0 where
  pub bytes : List ℕ
  pub whole : CameWhole most_bytes left_old left_new bytes
  pub ran : RanFront h bytes sink_old sink_new replies

-- memory ran out before a text was read, with nothing answered and nothing asked of the sink; or after that
abbrev pub WasStarved : {K : Type 0} → Handed → Option (List ℕ) → Option (List ℕ) → K → K → List Reply → Type 0
WasStarved h left_old left_new sink_old sink_new replies = ((replies ≡ []) × (sink_new ≡ sink_old)) ⊎ WasStopped h left_old left_new sink_old sink_new replies
