-- Two audits of one stream: over a transcript, and over the same in version 2.
use Rattle.std.specs.Prelude.{◌≡◌, ◌⊎◌, ◌||◌, IsTrue, None}
use Rattle.sip_wire.specs.Decoding.{IsBytes}
use Rattle.sip_verifier.specs.declared.status.Status.{Status}
use Rattle.sip_verifier.specs.declared.status.Status.TheVariants as statuses
use Rattle.sip_transcript.specs.Agreements.{stops_freely}
use Rattle.sip_transcript.specs.Auditing.{Audit}
use Rattle.sip_transcript.specs.Conversions.{in_version_2, run_in_version_2}
use Rattle.sip_transcript.specs.Tales.{IsOfRun, tale_of, transcript_fault}

-- the first audit has a transcript that is whole, and the other one has the same in version 2
pub record IsConverted (a b : Audit) : Type 0 where
  -- a number that is no byte would be spelled as others
  pub bytes : IsBytes a.stored
  pub whole : transcript_fault a.stored ≡ None
  pub converted : b.stored ≡ in_version_2 (tale_of a.stored)
  pub stream : b.stream ≡ a.stream

-- The first audit has the transcript of a run, and the other one has that of the same run in
-- version 2.
pub record TellSame (a b : Audit) : Type 0 where
  pub run : IsOfRun a.stored
  pub same : b.stored ≡ run_in_version_2 run
  pub stream : b.stream ≡ a.stream

-- a status, whatever the place in a transcript is
abbrev pub but_place : Status → Status
but_place (statuses.BadTranscript at) = statuses.BadTranscript 0
but_place status = status

-- they give the same status, but for the place, and wrote the same lines; or a port of one of them
-- failed, or memory ran out there
abbrev pub ConvertAgrees : Audit → Audit → Status → Status → Type 0
ConvertAgrees a b given other = ((but_place other ≡ but_place given) × (b.report ≡ a.report))
    ⊎ IsTrue (stops_freely given || stops_freely other)
