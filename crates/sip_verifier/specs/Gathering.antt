-- What a call did that reads the stream and sends it, and one that draws the challenges before, by
-- the bytes that their ports had.
use Rattle.std.specs.Prelude.{◌≡◌, ◌⊎◌, ◌<◌, ◌≤◌, ℕ, List, [], length, Option, Some, None, Result}
use Rattle.std.specs.Prelude.{Ok, Err}
use Rattle.sip_ports.specs.declared.port.TalkEvent.{TalkEvent}
use Rattle.sip_ports.specs.Ports.{GoesOn}
use Rattle.sip_vector.specs.declared.update.Update.{Update}
use Rattle.sip_stream.specs.Records.{records}
use Rattle.sip_verifier.specs.declared.status.Port.TheVariants as ports
use Rattle.sip_verifier.specs.declared.status.Status.{Status}
use Rattle.sip_verifier.specs.declared.status.Status.TheVariants as statuses
use Rattle.sip_verifier.specs.declared.task.Task.{Task}
use Rattle.sip_verifier.specs.Tasks.{version_of}
use Rattle.sip_verifier.specs.Draws.{drawn, blocks}
use Rattle.sip_replies.specs.Talks.{IsPrefix}
use Rattle.sip_verifier.specs.Seats.{AreSeats, Seating}
use Rattle.sip_verifier.specs.Talks.{whole_frames, opening_sent, stream_sent}

-- the seats have the task's queries, each with some block of challenges, and stand for this stream
pub record AreOf (task : Task) (stream : List Update) (seats : Seating) : Type 0 where
  pub at_blocks : List (List ℕ)
  pub stand : AreSeats task.depth task.queries.items at_blocks stream seats

-- ---- the stream

module _ (task : Task) (bytes : List ℕ) where
  -- the legal records of the stream
  abbrev pub legal : List Update
  legal = (records task.depth task.form bytes).legal

  abbrev pub EndsLegally : Type 0
  EndsLegally = (records task.depth task.form bytes).fault ≡ None

  -- the opening, and a frame for each 512 legal records
  abbrev pub before_end : List TalkEvent
  before_end = opening_sent (version_of task) task.depth (whole_frames legal)

  -- the stream was legal and was read to its end, all of it was sent, and the seats stand for it at
  -- these challenges
  pub record IsPassedOn (at_blocks : List (List ℕ)) (left : Option (List ℕ))
      (old new : Option (List TalkEvent)) (seats : Seating) : Type 0 where
    pub to_end : EndsLegally
    pub read : left ≡ Some []
    pub talk : GoesOn old new (stream_sent (version_of task) task.depth legal)
    pub stand : AreSeats task.depth task.queries.items at_blocks legal seats

  -- a front was sent of what a legal stream sends, and not the end of the stream whole; with one
  -- that isn't legal it ends before the end of the stream
  pub record IsCut (old new : Option (List TalkEvent)) : Type 0 where
    pub said : List TalkEvent
    pub talk : GoesOn old new said
    pub order : IsPrefix said (stream_sent (version_of task) task.depth legal)
    pub short : length said < length (stream_sent (version_of task) task.depth legal)
    pub illegal : ¬ EndsLegally → IsPrefix said before_end

  -- the same, before the stream was read to its end
  pub record IsCutBefore (old new : Option (List TalkEvent)) : Type 0 where
    pub said : List TalkEvent
    pub talk : GoesOn old new said
    pub order : IsPrefix said before_end

  -- why the stream was not passed on, and what was sent
  abbrev pub Breaks : Option (List TalkEvent) → Option (List TalkEvent) → Status → Type 0
  Breaks old new (statuses.BadStream at why) =
      (at ≡ length legal) × ((records task.depth task.form bytes).fault ≡ Some why)
      × GoesOn old new before_end
  Breaks old new (statuses.ReadFault ports.First) = IsCutBefore old new
  Breaks old new statuses.PeerFault = IsCut old new
  Breaks old new statuses.OutOfMemory = IsCut old new
  Breaks old new _ = ⊥

  -- what a call answers that leaves the seats so
  abbrev pub PassesOn : {T : Type 0} → List (List ℕ) → Option (List ℕ) → Option (List TalkEvent)
      → Option (List TalkEvent) → Seating → Result T Status → Type 0
  PassesOn at_blocks left old new seats (Ok _) = IsPassedOn at_blocks left old new seats
  PassesOn at_blocks left old new seats (Err status) = Breaks old new status

-- ---- the challenges, and then the stream

module _ (task : Task) (bytes seed : List ℕ) where
  -- the seed gives these challenges, the stream was legal and was read to its end, all of it was
  -- sent, and the seats stand for it
  pub record IsGathered (left : Option (List ℕ)) (old new : Option (List TalkEvent))
      (seats : Seating) : Type 0 where
    pub challenges : List ℕ
    pub draws : drawn task seed ≡ Some challenges
    pub passed : IsPassedOn task bytes (blocks task challenges) left old new seats

  -- the seed gives challenges
  abbrev pub HasSeed : Type 0
  HasSeed = (challenges : List ℕ) × (drawn task seed ≡ Some challenges)

  -- why there are no seats, and what was sent; where anything was sent the seed gives challenges
  abbrev pub Refuses : Option (List TalkEvent) → Option (List TalkEvent) → Status → Type 0
  Refuses old new statuses.BadSeed = (length seed < 32) × (new ≡ old)
  Refuses old new statuses.SeedSpent = (32 ≤ length seed) × (drawn task seed ≡ None) × (new ≡ old)
  Refuses old new (statuses.BadStream at why) =
      HasSeed × Breaks task bytes old new (statuses.BadStream at why)
  Refuses old new (statuses.ReadFault ports.First) =
      HasSeed × Breaks task bytes old new (statuses.ReadFault ports.First)
  Refuses old new (statuses.ReadFault ports.Second) = new ≡ old
  Refuses old new (statuses.WriteFault ports.Keep) = HasSeed × (new ≡ old)
  Refuses old new statuses.PeerFault = HasSeed × Breaks task bytes old new statuses.PeerFault
  Refuses old new statuses.OutOfMemory =
      (new ≡ old) ⊎ (HasSeed × Breaks task bytes old new statuses.OutOfMemory)
  Refuses old new _ = ⊥

  abbrev pub Gathers : Option (List ℕ) → Option (List TalkEvent) → Option (List TalkEvent)
      → Result Seating Status → Type 0
  Gathers left old new (Ok seats) = IsGathered left old new seats
  Gathers left old new (Err status) = Refuses old new status
