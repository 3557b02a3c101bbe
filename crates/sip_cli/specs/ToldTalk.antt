-- What is told of a talk: which reply is waited for, by the frames that were sent. `now` is the
-- second that a clock says, which may be any.
use Rattle.std.specs.Prelude.{◌≡◌, ◌≢◌, ◌⊎◌, ℕ, ◌+◌, ◌-◌, ◌^◌, ◌==◌, ◌&&◌, ◌||◌, ◌≤◌, ◌<◌, min}
use Rattle.std.specs.Prelude.{nat_le, not, Bool, true, false, if◌then◌else◌, List, [], length}
use Rattle.std.specs.Prelude.{Result, Ok, MatchResult, Some}
use Rattle.std.specs.declared.option.Option.{Option}
use Rattle.std.specs.List.{slice_get}
use Rattle.sip_ports.specs.declared.port.TalkEvent.{TalkEvent}
use Rattle.sip_vector.specs.declared.query.Query.{Query}
use Rattle.sip_wire.specs.declared.kind.Place.TheVariants as places
use Rattle.sip_wire.specs.declared.message.Message.TheVariants as messages
use Rattle.sip_wire.specs.declared.version.Version.{Version}
use Rattle.sip_wire.specs.Reading.{read_frame}
use Rattle.sip_verifier.specs.Tasks.{version_of}
use Rattle.sip_words.specs.declared.command.Command.{Command}
use Rattle.sip_words.specs.declared.command.Command.TheVariants as command
use Rattle.sip_cli.specs.declared.told_link.Script.{Script}
use Rattle.sip_cli.specs.declared.told_link.Turn.{Turn}
use Rattle.sip_cli.specs.declared.told_link.TalkTeller.{TalkTeller}
use Rattle.sip_cli.specs.declared.told_link.ToldLink.{ToldLink}
use Rattle.sip_cli.specs.Telling.{Says, from_line, reply_line}

-- the queries that a command asks over its link; `verify` alone asks such, and a lookup or a moment
-- is no query
abbrev pub IsScript : Command → Script → Type 0
IsScript (command.Verify task) script =
    (script.version ≡ version_of task) × (script.queries.items ≡ task.queries.items)
IsScript _ script = script.queries.items ≡ []

-- nothing was said
abbrev pub unsaid : Turn
unsaid = record { query = 0; round = 0; is_due = false; rest = 0; heard = 0; next = 0; late = 0 }

-- these bytes are the frame of a query
abbrev pub IsFrameOf : Version → List ℕ → Query → Type 0
IsFrameOf version frame query =
    read_frame version places.ToHelper frame ≡ Ok (messages.Query query, [])

-- Query n, counted from 1, is the first one behind the first `before` that is the same as this one.
-- Queries are asked in their order, but for those whose answer is known without a reply; and where
-- one is asked, so is each that is the same. So this is the number of the query that is asked.
pub record IsNumber (queries : List Query) (before : ℕ) (query : Query) (n : ℕ) : Type 0 where
  pub later : before < n
  pub here : slice_get queries (n - 1) ≡ Some query
  pub first : (i : ℕ) → before ≤ i → i < n - 1 → slice_get queries i ≢ Some query

-- the bytes are the frame of a query that has this number
abbrev pub IsAsk : Script → ℕ → List ℕ → ℕ → Type 0
IsAsk script before frame n =
    (query : Query) × IsFrameOf script.version frame query
    × IsNumber script.queries.items before query n

-- the reply of a round to the query of a number comes next
abbrev pub awaits : ℕ → ℕ → Turn → Turn
awaits query round t = record {
  query = query;
  round = round;
  is_due = true;
  rest = t.rest;
  heard = t.heard;
  next = t.next;
  late = t.late;
}

-- A frame begins: behind a query its first reply comes next, behind the Ask of a lookup or of a
-- moment the first reply to one more than before, behind a challenge the reply after that which
-- came, and behind another frame what was to come.
pub record BeginsFrame (script : Script) (frame : List ℕ) (old new : Turn) : Type 0 where
  pub query : slice_get frame 0 ≡ Some 4
      → ((n : ℕ) × IsAsk script old.query frame n × (new ≡ awaits n 0 old))
      ⊎ (((n : ℕ) → IsAsk script old.query frame n → ⊥) × (new ≡ old))
  pub challenge : slice_get frame 0 ≡ Some 5
      → new ≡ awaits old.query (min (old.round + 1) 255) old
  pub lookup : slice_get frame 0 ≡ Some 33 → new ≡ awaits (min (old.query + 1) 255) 0 old
  pub moment : slice_get frame 0 ≡ Some 36 → new ≡ awaits (min (old.query + 1) 255) 0 old
  pub other : slice_get frame 0 ≢ Some 4 → slice_get frame 0 ≢ Some 5 → slice_get frame 0 ≢ Some 33
      → slice_get frame 0 ≢ Some 36 → new ≡ old

-- so many bytes of the frame under way are still to be sent
abbrev pub with_rest : ℕ → Turn → Turn
with_rest rest t = record {
  query = t.query;
  round = t.round;
  is_due = t.is_due;
  rest = rest;
  heard = t.heard;
  next = t.next;
  late = t.late;
}

-- So many bytes of the buffer were sent: of the frame under way, or of one that is all of it.
pub record SendsOn (script : Script) (buf : List ℕ) (count : ℕ) (old new : Turn) : Type 0 where
  pub begun : old.rest ≡ 0
      → (begun : Turn) × BeginsFrame script buf old begun
      × (new ≡ with_rest (length buf - count) begun)
  pub under_way : 0 < old.rest → new ≡ with_rest (old.rest - count) old

-- it answers, and a line is due by what it heard, or by the clock
abbrev pub hears_on : ℕ → Turn → Bool
hears_on now t = not t.is_due && (t.query == 0) && (nat_le t.next t.heard || nat_le t.late now)

-- the line before a receive, if one is due
abbrev pub line_before : ℕ → Turn → List ℕ
line_before now t =
    if t.is_due then reply_line t.query t.round
    else if hears_on now t then from_line t.heard else []

-- a reply has one line, and a side that answers the next one 64 MiB later, or three seconds
abbrev pub line_said : ℕ → Turn → Turn
line_said now t = record {
  query = t.query;
  round = t.round;
  is_due = false;
  rest = t.rest;
  heard = t.heard;
  next = if hears_on now t then min (t.heard + 2 ^ 26) (2 ^ 64 - 1) else t.next;
  late = if hears_on now t then min (now + 3) (2 ^ 64 - 1) else t.late;
}

-- so many bytes more were heard
abbrev pub heard_more : ℕ → Turn → Turn
heard_more count t = record {
  query = t.query;
  round = t.round;
  is_due = t.is_due;
  rest = t.rest;
  heard = min (t.heard + count) (2 ^ 64 - 1);
  next = t.next;
  late = t.late;
}

-- the link that is used
abbrev pub told_link : {L W C : Type 0} → ToldLink L W C → L
told_link told = told.link

-- what says the lines
abbrev pub talk_teller : {L W C : Type 0} → ToldLink L W C → Option (TalkTeller W C)
talk_teller told = told.teller

-- Nothing was written of a write, and what it sent is known.
pub record TellsWrite {E W C : Type 0} (result : Result ℕ E) (buf : List ℕ)
    (old new : TalkTeller W C) : Type 0 where
  pub lines : new.lines ≡ old.lines
  pub script : new.script ≡ old.script
  pub turn : MatchResult result (λ n. SendsOn old.script buf n old.turn new.turn)
      (λ _. new.turn ≡ old.turn)

-- The line that was due was written before the receive.
pub record TellsReceive {E W C : Type 0} (talk : W → Option (List TalkEvent))
    (faults wants : W → ℕ) (is_sure : W → Type 0) (now : ℕ) (result : Result ℕ E)
    (old new : TalkTeller W C) : Type 0 where
  pub said : Says talk faults wants is_sure old.lines.sink new.lines.sink
      (line_before now old.turn)
  pub script : new.script ≡ old.script
  pub turn : MatchResult result (λ n. new.turn ≡ heard_more n (line_said now old.turn))
      (λ _. new.turn ≡ line_said now old.turn)
