-- The record of the talk.
--
-- What is kept is the transcript of the run: its head, with the queries and their challenges, and
-- then the bytes that were received. It is whole where every query was accepted, where one was
-- rejected, and where the report failed; and where the run stopped before its first query, with a
-- head behind which nothing was received. Where the link failed its head is whole, and each frame
-- that was received whole is kept, and nothing of one that was not. Where keeping it failed, it is
-- a front of the transcript. Where the seed gave no challenges, nothing is kept. Where memory ran
-- out, it is the one or the other. Of a port that does not tell what it has, nothing is said.
use Rattle.std.specs.Prelude.{◌≡◌, ◌⊎◌, ℕ, List, [], ◌++◌, Some, Err, IfSome}
use Rattle.sip_ports.specs.Ports.{heard}
use Rattle.sip_wire.specs.declared.kind.Place.{Place}
use Rattle.sip_wire.specs.declared.message.WireFault.TheVariants as faults
use Rattle.sip_wire.specs.Reading.{read_frame}
use Rattle.sip_replies.specs.Asking.{AreFrames}
use Rattle.sip_replies.specs.Talks.{IsPrefix}
use Rattle.sip_verifier.specs.declared.status.Port.TheVariants as ports
use Rattle.sip_verifier.specs.declared.status.Status.{Status}
use Rattle.sip_verifier.specs.declared.status.Status.TheVariants as statuses
use Rattle.sip_verifier.specs.declared.task.Task.{Task}
use Rattle.sip_verifier.specs.Draws.{drawn}
use Rattle.sip_verifier.specs.Exchanges.{Exchange}
use Rattle.sip_verifier.specs.Tasks.{version_of}
use Rattle.sip_verifier.specs.Transcripts.{transcript_of}

module _ (task : Task) (x : Exchange) where
  -- these bytes are the transcript of all that was received
  pub record IsTranscript (bytes : List ℕ) : Type 0 where
    pub challenges : List ℕ
    pub drawn : drawn task x.seed ≡ Some challenges
    pub all : bytes ≡ transcript_of task challenges (heard x.talk)

  -- they are the transcript of the whole frames that were received, behind which came less than one
  pub record HasFrames (bytes : List ℕ) : Type 0 where
    pub challenges : List ℕ
    pub drawn : drawn task x.seed ≡ Some challenges
    pub whole : List ℕ
    pub part : List ℕ
    pub split : heard x.talk ≡ whole ++ part
    pub frames : AreFrames (version_of task) whole
    pub cut : (place : Place) × (read_frame (version_of task) place part ≡ Err faults.Closed)
    pub all : bytes ≡ transcript_of task challenges whole

  -- they are a front of the transcript, which may end in its head
  pub record IsCutTranscript (bytes : List ℕ) : Type 0 where
    pub challenges : List ℕ
    pub drawn : drawn task x.seed ≡ Some challenges
    pub front : IsPrefix bytes (transcript_of task challenges (heard x.talk))

  -- what is kept where a run ends so
  abbrev pub Keeps : Status → List ℕ → Type 0
  Keeps statuses.Accepted bytes = IsTranscript bytes
  Keeps (statuses.Rejected query round reason) bytes = IsTranscript bytes
  Keeps (statuses.Usage word) bytes = bytes ≡ []
  Keeps (statuses.BadStream at why) bytes = IsTranscript bytes
  Keeps statuses.BadSeed bytes = bytes ≡ []
  Keeps statuses.SeedSpent bytes = bytes ≡ []
  Keeps (statuses.TooWide query) bytes = IsTranscript bytes
  Keeps (statuses.ReadFault ports.First) bytes = IsTranscript bytes
  Keeps (statuses.ReadFault ports.Second) bytes = bytes ≡ []
  Keeps (statuses.WriteFault ports.Report) bytes = IsTranscript bytes
  Keeps (statuses.WriteFault ports.Keep) bytes = IsCutTranscript bytes
  Keeps statuses.PeerFault bytes = HasFrames bytes
  Keeps statuses.OutOfMemory bytes = (bytes ≡ []) ⊎ IsCutTranscript bytes
  Keeps _ bytes = ⊥

  abbrev pub KeepClause : Status → Type 0
  KeepClause status = IfSome x.kept (Keeps status)
