-- How far the writing of a transcript has come.
use Rattle.std.specs.Prelude.{◌≡◌, ℕ, ◌+◌, All, List, ◌++◌, length, Option, Some, None, Result, Ok}
use Rattle.std.specs.Prelude.{Err, IsSome}
use Rattle.std.specs.List.{flat_map}
use Rattle.sip_ports.specs.declared.port.TalkEvent.{TalkEvent}
use Rattle.sip_ports.specs.Ports.{GoesOn, Lasts, outs}
use Rattle.sip_wire.specs.declared.message.Message.{Message}
use Rattle.sip_wire.specs.declared.version.Version.{Version}
use Rattle.sip_wire.specs.Spelling.{spelling}
use Rattle.sip_wire.specs.Transcript.{transcript}
use Rattle.sip_verifier.specs.Snapshots.{Counts, counts}
use Rattle.sip_verifier.specs.declared.status.Status.{Status}
use Rattle.sip_verifier.specs.declared.status.Status.TheVariants as statuses
use Rattle.sip_transcript.specs.declared.head.Head.{Head}
use Rattle.sip_transcript.specs.declared.rendering.Rendering.{Rendering}
use Rattle.sip_transcript.specs.Fields.{head_fault}
use Rattle.sip_transcript.specs.Heads.{Ask, IsRun}
use Rattle.sip_transcript.specs.Renderings.{head_text, rendered, reply_text}
use Rattle.sip_transcript.specs.Tales.{IsReply, Tale, all_replies, tale_of}
use Rattle.sip_transcript.specs.Writing.{Writes}

-- what a transcript tells whose replies are these messages, and those that are read behind them
abbrev pub tale_with : Version → ℕ → List Ask → List Message → List Message × List ℕ → Tale
tale_with version depth asks done (more, rest) = record {
  version = version;
  depth = depth;
  asks = asks;
  replies = done ++ more;
  rest = rest;
}

-- The head was read off these bytes, and then some messages, and what there is of them was written.
-- What is left begins at this place.
pub record IsUnderway (to : Rendering) (bytes : List ℕ) (left : Option (List ℕ))
    (start now : Option (List TalkEvent)) (version : Version) (place : ℕ) : Type 0 where
  pub depth : ℕ
  pub asks : List Ask
  pub done : List Message
  pub rest : List ℕ
  pub is_run : IsRun version depth asks
  pub are_replies : All (IsReply version) done
  pub spelled : bytes ≡ transcript version depth asks (flat_map (spelling version) done ++ rest)
  pub no_fault : head_fault bytes ≡ None
  pub tells : tale_of bytes ≡ tale_with version depth asks done (all_replies version rest)
  pub is_left : left ≡ Some rest
  pub talk : GoesOn start now
      (outs (head_text to depth asks ++ flat_map (reply_text to version) done))
  pub is_place : place + length rest ≡ length bytes

-- a head was passed, or nothing more is written
abbrev pub Begins : Rendering → List ℕ → Option (List ℕ) → Option (List TalkEvent)
    → Option (List TalkEvent) → Result Head Status → Type 0
Begins to bytes left start now (Ok head) =
    IsUnderway to bytes left start now head.version head.length
Begins to bytes left start now (Err status) = Writes (rendered to) bytes left start now status

-- a message was passed, or there is none, or nothing more is written
abbrev pub PassesReply : Rendering → List ℕ → Option (List ℕ) → Option (List TalkEvent)
    → Option (List TalkEvent) → Version → Result (Option ℕ) Status → Type 0
PassesReply to bytes left start now version (Ok (Some place)) =
    IsUnderway to bytes left start now version place
PassesReply to bytes left start now version (Ok None) =
    Writes (rendered to) bytes left start now statuses.Wrote
PassesReply to bytes left start now version (Err status) =
    Writes (rendered to) bytes left start now status

-- the status of what was written to its end, or up to a stop
abbrev pub status_of : {T : Type 0} → Result T Status → Status
status_of (Ok x) = statuses.Wrote
status_of (Err status) = status

-- ---- the ports

-- What holds of the source and of the sink over a call that writes what a transcript tells: what
-- the source tells, it tells on; both keep what lasts of them; and `Faults` of the counts of faults
-- of all ports, whatever those of the others are.
pub record KeepsPorts {B K : Type 0} (left : B → Option (List ℕ)) (fails wants : B → ℕ)
    (is_sure : B → Type 0) (sink_fails sink_wants : K → ℕ) (sink_is_sure : K → Type 0)
    (second seconds : B) (report reports : K) (Faults : Counts → Counts → Type 0)
    : Type 0 where
  pub told : IsSome (left second) → IsSome (left seconds)
  pub fault : (first firsts peer peers keep keeps : ℕ)
      → Faults (counts first (fails second) peer (sink_fails report) keep)
      (counts firsts (fails seconds) peers (sink_fails reports) keeps)
  pub source : Lasts fails wants is_sure second seconds
  pub sink : Lasts sink_fails sink_wants sink_is_sure report reports
