-- What a call promises that writes what a transcript tells: its listing, or the transcript in
-- version 2.
--
-- All is written exactly where the bytes are a transcript to their end, and then they were read to
-- it, and are the transcript of a run whose replies are messages. Of bytes that stop being a
-- transcript what stands before that place is written, which is nothing where a field of the head
-- is not there; and the status has the place. Where a port stopped, or memory ran out, a front of
-- this is written.
use Rattle.std.specs.Prelude.{◌≡◌, ℕ, Bool, true, false, ◌||◌, IsTrue, List, [], take, Option, Some}
use Rattle.std.specs.Prelude.{None}
use Rattle.sip_ports.specs.declared.port.TalkEvent.{TalkEvent}
use Rattle.sip_ports.specs.Ports.{GoesOn, outs}
use Rattle.sip_verifier.specs.declared.status.Port.TheVariants as ports
use Rattle.sip_verifier.specs.declared.status.Status.{Status}
use Rattle.sip_verifier.specs.declared.status.Status.TheVariants as statuses
use Rattle.sip_transcript.specs.Tales.{IsOfRun, Tale, text_of, transcript_fault}

-- The source had these bytes to give, and has `left` still; the sink told `old`, and tells `new`.
module _ (text : Tale → List ℕ) (bytes : List ℕ) (left : Option (List ℕ))
    (old new : Option (List TalkEvent)) where
  -- all was written
  abbrev pub AllWritten : Type 0
  AllWritten = GoesOn old new (outs (text_of text bytes))

  -- a front of it was written
  abbrev pub FrontWritten : Type 0
  FrontWritten = (n : ℕ) × GoesOn old new (outs (take n (text_of text bytes)))

  abbrev pub Writes : Status → Type 0
  Writes statuses.Wrote =
      (transcript_fault bytes ≡ None) × IsOfRun bytes × (left ≡ Some []) × AllWritten
  Writes (statuses.BadTranscript at) = (transcript_fault bytes ≡ Some at) × AllWritten
  Writes (statuses.ReadFault ports.Second) = FrontWritten
  Writes (statuses.WriteFault ports.Report) = FrontWritten
  Writes statuses.OutOfMemory = FrontWritten
  Writes _ = ⊥

-- all was written
abbrev pub is_whole : Status → Bool
is_whole statuses.Wrote = true
is_whole _ = false

-- the call stopped before
abbrev pub stops_writing : Status → Bool
stops_writing (statuses.BadTranscript at) = true
stops_writing (statuses.ReadFault ports.Second) = true
stops_writing (statuses.WriteFault ports.Report) = true
stops_writing statuses.OutOfMemory = true
stops_writing _ = false

-- the statuses that such a call may answer
abbrev pub EndsWriting : Status → Type 0
EndsWriting status = IsTrue (is_whole status || stops_writing status)
