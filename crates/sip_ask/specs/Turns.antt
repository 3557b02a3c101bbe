-- In which order an ask uses the file of its sketch and its link.
--
-- What the other end holds is asked for first, and nothing that is sent up to there depends on a
-- challenge. Then each question has a turn: the sketch with its seat used is stored, and only when
-- no crash can undo that the question is sent. At last the link is told that this was all.
use Rattle.std.specs.Prelude.{◌≡◌, ℕ, zero, suc, ◌-◌, ◌<◌, false, nat_lt, ⊤, List, [], ◌∷◌, ◌++◌}
use Rattle.std.specs.Prelude.{length, flat_map, if◌then◌else◌}
use Rattle.sip_ports.specs.Desk.{IsOfLink, steps}
use Rattle.sip_ports.specs.Ports.{ins, outs, written}
use Rattle.sip_ports.specs.declared.port.TalkEvent.{TalkEvent}
use Rattle.sip_vector.specs.declared.tally.Tally.{Tally}
use Rattle.sip_wire.specs.Spelling.{spelling}
use Rattle.sip_wire.specs.Versions.{number_of}
use Rattle.sip_wire.specs.declared.message.Held.{Held}
use Rattle.sip_wire.specs.declared.message.Message.TheVariants as messages
use Rattle.sip_wire.specs.declared.version.Version.{Version}
use Rattle.sip_replies.specs.Talks.{IsPrefix}
use Rattle.sip_verifier.specs.Talks.{bye_sent}
use Rattle.sip_verifier.specs.runs.Manners.{Manner}
use Rattle.sip_questions.specs.Questions.{Answered, Posed}
use Rattle.sip_questions.specs.declared.question.Question.{Question}
use Rattle.sip_sketch.specs.Sketches.{SeatValues, SketchValues, spelled_file}
use Rattle.sip_ask.specs.Marking.{is_used_at, mark}

-- ---- a turn

-- What is done for a question: the seat that it takes, the file that is stored, and what is said
-- then.
pub record Turn : Type 0 where
  pub place : ℕ
  pub file : List ℕ
  pub said : List TalkEvent

abbrev pub turn_events : Turn → List TalkEvent
turn_events t = steps t.file ++ t.said

-- the challenges of the seat at a place
abbrev pub block_at : ℕ → List SeatValues → List ℕ
block_at place [] = []
block_at zero (seat ∷ seats) = seat.block
block_at (suc place) (seat ∷ seats) = block_at place seats

-- The turns of a sketch: each takes a seat that no question has used, stores the sketch with that
-- seat used and those of the turns before it, and then uses the link alone.
abbrev pub AreTurns : SketchValues → List Turn → Type 0
AreTurns s [] = ⊤
AreTurns s (t ∷ turns) = (t.place < length s.seats) × (is_used_at t.place s.seats ≡ false)
    × (t.file ≡ spelled_file (mark t.place s)) × IsOfLink t.said × AreTurns (mark t.place s) turns

-- ---- around the turns

-- what is sent first: the opening at a depth, and how many records the other end is to hear
abbrev pub recall_bytes : Version → ℕ → ℕ → List ℕ
recall_bytes version depth count = flat_map (spelling version)
    (messages.Open (number_of version) depth ∷ messages.Recall count ∷ [])

abbrev pub recall_sent : Version → ℕ → ℕ → List TalkEvent
recall_sent version depth count = outs (recall_bytes version depth count)

-- before the first turn nothing but that was sent, and nothing was done to the file
pub record IsOpening (version : Version) (s : SketchValues) (opened : List TalkEvent)
    : Type 0 where
  pub link : IsOfLink opened
  pub sent : IsPrefix (written opened) (recall_bytes version s.depth s.tally.count)

-- and behind the last one nothing but a farewell
pub record IsFarewell (version : Version) (behind : List TalkEvent) : Type 0 where
  pub link : IsOfLink behind
  pub sent : IsPrefix (written behind) (spelling version messages.Bye)

-- the seats of the turns in which something was said, where so many events came of them
abbrev pub places_said : ℕ → List Turn → List ℕ
places_said count [] = []
places_said count (t ∷ turns) =
    if nat_lt (length (steps t.file)) count
    then t.place ∷ places_said (count - length (turn_events t)) turns
    else []

-- ---- a talk

-- a question that takes the seat at this place, with the replies to it
pub record Seated : Type 0 where
  pub place : ℕ
  pub posed : Posed

-- the turns of these questions, in the manner of questions about a stream
abbrev pub turns_of : Manner Question Answered → SketchValues → List Seated → List Turn
turns_of m s [] = []
turns_of m s (q ∷ asked) = record {
  place = q.place;
  file = spelled_file (mark q.place s);
  said = m.said_for q.posed;
} ∷ turns_of m (mark q.place s) asked

-- what the other end holds of the stream that this is told of
abbrev pub held_by : Tally → Held
held_by t = record {
  records = t.count;
  first = t.first;
  second = t.second;
  fingerprint = t.fingerprint;
}

-- what is received behind the opening
abbrev pub held_heard : Version → Held → List TalkEvent
held_heard version held = ins (spelling version (messages.Held held))

-- the whole talk of these questions
abbrev pub whole_talk : Version → Manner Question Answered → SketchValues → List Seated
    → List TalkEvent
whole_talk version m s asked =
    (recall_sent version s.depth s.tally.count ++ held_heard version (held_by s.tally))
    ++ flat_map turn_events (turns_of m s asked) ++ bye_sent version
