-- What is asked by one message, at which challenges, and by which numbers of a stream.
use Rattle.std.specs.Prelude.{ℕ, List}
use Rattle.sip_vector.specs.declared.query.Query.{Query}
use Rattle.sip_vector.specs.declared.query.Query.TheVariants.{F2}
use Rattle.sip_vector.specs.declared.update.Update.{Update}
use Rattle.sip_wire.specs.declared.message.Message.{Message}
use Rattle.sip_wire.specs.declared.message.Message.TheVariants as messages
use Rattle.sip_wire.specs.declared.version.Version.{Version}
use Rattle.sip_wire.specs.Versions.{Speaks}
use Rattle.sip_verifier.specs.declared.running.Running.{Running}
use Rattle.sip_verifier.specs.QuerySeats.{RunningNumbers, RunsOn}
use Rattle.sip_verifier.specs.Running.{block_of, numbers_of}
use Rattle.sip_verifier.specs.Tasks.{CanBeAsked}
use Rattle.sip_above.specs.Questions as larges
use Rattle.sip_above.specs.Questions.{CanAskLarge, query_of}
use Rattle.sip_moments.specs.Moments.{IsDegree}
use Rattle.sip_moments.specs.Questions.{ask_of}
use Rattle.sip_steps.specs.declared.opening.Opening.{Opening}
use Rattle.sip_steps.specs.declared.opening.Opening.TheVariants as openings

-- the message that asks it
abbrev pub message_of : Opening → Message
message_of (openings.Query query) = messages.Query query
message_of (openings.Moment moment) = ask_of moment
message_of (openings.Large large) = larges.ask_of large

-- the query whose running numbers it is judged by: a second moment's, where it is a moment, and its
-- own, where large entries are asked for
abbrev pub query_like : Opening → Query
query_like (openings.Query query) = query
query_like (openings.Moment moment) = F2 moment.side
query_like (openings.Large large) = query_of large

-- what is asked at a depth in a version, at these challenges, and by these numbers of a stream
pub record Subject : Type 0 where
  pub version : Version
  pub depth : ℕ
  pub opening : Opening
  pub block : List ℕ
  pub running : RunningNumbers

abbrev pub subject_at : Version → ℕ → Opening → List ℕ → RunningNumbers → Subject
subject_at version depth opening block running = record {
  version = version;
  depth = depth;
  opening = opening;
  block = block;
  running = running;
}

abbrev pub subject_of : Version → ℕ → Opening → Running → Subject
subject_of version depth opening running =
    subject_at version depth opening (block_of running) (numbers_of running)

-- the numbers are those of this stream
abbrev pub IsOf : Subject → List Update → Type 0
IsOf s stream = RunsOn s.depth stream (query_like s.opening) s.block s.running

-- it can be asked at this depth in this version
abbrev pub CanOpen : Version → ℕ → Opening → Type 0
CanOpen version depth (openings.Query query) = CanBeAsked depth query × Speaks version depth query
CanOpen version depth (openings.Moment moment) = IsDegree moment.degree
CanOpen version depth (openings.Large large) = CanAskLarge version depth large
