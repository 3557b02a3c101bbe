-- What is kept of a talk while it is led.
use Rattle.std.specs.Prelude.{◌≡◌, ◌⊎◌, ℕ, List, Option, Some, Result, Ok, Err}
use Rattle.sip_ports.specs.declared.port.TalkEvent.{TalkEvent}
use Rattle.sip_ports.specs.Desk.{IsOfLink}
use Rattle.sip_ports.specs.Ports.{GoesOn, heard, outs}
use Rattle.sip_replies.specs.Asking.{AreFrames, KeepsFrames, KeepsPart}
use Rattle.sip_wire.specs.declared.version.Version.{Version}
use Rattle.sip_verifier.specs.declared.status.Port.TheVariants as ports
use Rattle.sip_verifier.specs.declared.status.Status.{Status}
use Rattle.sip_verifier.specs.declared.status.Status.TheVariants as statuses
use Rattle.sip_verifier.specs.declared.task.Task.{Task}
use Rattle.sip_verifier.specs.Draws.{drawn}
use Rattle.sip_verifier.specs.Seats.{Seating}
use Rattle.sip_verifier.specs.Tasks.{version_of}
use Rattle.sip_verifier.specs.Transcripts.{asks_of, head_of}

-- ---- the head, behind the draw

module _ (task : Task) (seed : List ℕ) (before now : Option (List TalkEvent)) where
  -- the head was written
  pub record HeadIsKept : Type 0 where
    pub challenges : List ℕ
    pub draws : drawn task seed ≡ Some challenges
    pub wrote : GoesOn before now
        (outs (head_of (version_of task) task.depth (asks_of task challenges)))

  -- a front of it was written
  pub record HeadIsCut : Type 0 where
    pub challenges : List ℕ
    pub draws : drawn task seed ≡ Some challenges
    pub wrote : KeepsPart before now
        (head_of (version_of task) task.depth (asks_of task challenges))

  -- what a call wrote that gathers: nothing where the seed gives no challenges, and all of the head
  -- where it went on
  abbrev pub KeepsHead : Result Seating Status → Type 0
  KeepsHead (Ok seats) = HeadIsKept
  KeepsHead (Err statuses.BadSeed) = now ≡ before
  KeepsHead (Err statuses.SeedSpent) = now ≡ before
  KeepsHead (Err (statuses.ReadFault ports.Second)) = now ≡ before
  KeepsHead (Err (statuses.WriteFault ports.Keep)) = HeadIsCut
  KeepsHead (Err statuses.OutOfMemory) = (now ≡ before) ⊎ HeadIsCut
  KeepsHead (Err _) = HeadIsKept

-- ---- what was received for a query, and for all of them: where the link is that of a desk,
-- nothing was done to its file

module _ (old new before now : Option (List TalkEvent)) where
  -- all was kept that was heard
  pub record AllIsKept : Type 0 where
    pub said : List TalkEvent
    pub link : IsOfLink said
    pub talk : GoesOn old new said
    pub wrote : GoesOn before now (outs (heard said))

  -- a front of it was kept
  pub record FrontIsKept : Type 0 where
    pub said : List TalkEvent
    pub link : IsOfLink said
    pub talk : GoesOn old new said
    pub wrote : KeepsPart before now (heard said)

  module _ (version : Version) where
    -- all was kept that was heard, and it was whole frames
    pub record WholeIsKept : Type 0 where
      pub said : List TalkEvent
      pub link : IsOfLink said
      pub talk : GoesOn old new said
      pub frames : AreFrames version (heard said)
      pub wrote : GoesOn before now (outs (heard said))

    -- the frames were kept that were heard whole, and nothing of one that was not
    pub record FramesAreKept : Type 0 where
      pub said : List TalkEvent
      pub link : IsOfLink said
      pub talk : GoesOn old new said
      pub wrote : KeepsFrames version before now (heard said)

    -- what a call kept that asks all queries
    abbrev pub KeepsTalk : Result (Unit {0}) Status → Type 0
    KeepsTalk (Ok _) = WholeIsKept
    KeepsTalk (Err (statuses.Rejected query round reason)) = AllIsKept
    KeepsTalk (Err (statuses.WriteFault ports.Report)) = AllIsKept
    KeepsTalk (Err statuses.PeerFault) = FramesAreKept
    KeepsTalk (Err _) = FrontIsKept
