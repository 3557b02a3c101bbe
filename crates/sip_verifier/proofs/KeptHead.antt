-- The head of a run's transcript, behind the draw.
use Rattle.std.proofs.Common.{◌≡◌, Option, Result, Ok, Err, List, ℕ, refl, sym, inl, inr, append-nil, take, drop, take-append-drop, []}
use Rattle.std.specs.Prelude.{IsTrue}
use Rattle.std.specs.List.{zip}
use Rattle.sip_ports.specs.declared.port.PortStop.{PortStop}
use Rattle.sip_ports.specs.declared.port.PortStop.TheVariants as port_stops
use Rattle.sip_ports.specs.declared.port.TalkEvent.{TalkEvent}
use Rattle.sip_ports.specs.Ports.{Rose, SendsWhole}
use Rattle.sip_vector.specs.declared.query.Query.{Query}
use Rattle.sip_vector.specs.declared.update.Update.{Update}
use Rattle.sip_wire.specs.Versions.{needed}
use Rattle.sip_verifier.specs.declared.status.Port.TheVariants as ports
use Rattle.sip_verifier.specs.declared.status.Status.{Status}
use Rattle.sip_verifier.specs.declared.status.Status.TheVariants as statuses
use Rattle.sip_verifier.specs.declared.task.Task.{Task}
use Rattle.sip_verifier.specs.Draws.{blocks}
use Rattle.sip_verifier.specs.Gathering.{Refuses}
use Rattle.sip_verifier.specs.inside.Drawing.{Draws, HasDrawn}
use Rattle.sip_verifier.specs.inside.Ending.{status_of_keep}
use Rattle.sip_verifier.specs.Keeping.{HeadIsKept, HeadIsCut, KeepsHead}
use Rattle.sip_verifier.specs.Seats.{AreSeats, Seating}
use Rattle.sip_verifier.specs.Snapshots.{Counts}
use Rattle.sip_verifier.specs.Statuses.{FaultClause, stops_following, stops_gathering}
use Rattle.sip_verifier.specs.Tasks.{version_of}
use Rattle.sip_verifier.specs.Transcripts.{asks_of, head_of}

-- what stops a run while its stream is read stops it before its first query
pub following_gathers : (status : Status) → IsTrue (stops_following status) → IsTrue (stops_gathering status)
following_gathers (statuses.BadStream at why) is = is
following_gathers (statuses.ReadFault ports.First) is = is
following_gathers (statuses.ReadFault ports.Second) is = absurd (let no = is in cc)
following_gathers (statuses.ReadFault ports.Report) is = is
following_gathers (statuses.ReadFault ports.Keep) is = is
following_gathers statuses.PeerFault is = is
following_gathers statuses.OutOfMemory is = is
following_gathers _ is = absurd (let no = is in cc)

-- where no challenges were drawn nothing is written
pub undrawn_head : (task : Task) (seed : List ℕ) (talk : Option (List TalkEvent)) (status : Status) → Draws task seed (Err status) → KeepsHead task seed talk talk (Err status)
undrawn_head task seed talk statuses.BadSeed is = refl
undrawn_head task seed talk statuses.SeedSpent is = refl
undrawn_head task seed talk (statuses.ReadFault ports.First) is = absurd is
undrawn_head task seed talk (statuses.ReadFault ports.Second) is = refl
undrawn_head task seed talk (statuses.ReadFault ports.Report) is = absurd is
undrawn_head task seed talk (statuses.ReadFault ports.Keep) is = absurd is
undrawn_head task seed talk (statuses.WriteFault port) is = absurd is
undrawn_head task seed talk statuses.OutOfMemory is = inl refl
undrawn_head task seed talk _ is = absurd is

-- what the seats wrote, whatever they stand for
abbrev pub WritesHead : Seating → Option (List TalkEvent) → Option (List TalkEvent) → Result (Unit {0}) PortStop → Type 0
WritesHead seats before now written = (depth : ℕ) (queries : List Query) (blocks : List (List ℕ)) (stream : List Update) → AreSeats depth queries blocks stream seats
    → SendsWhole before now written (head_of (needed depth queries) depth (zip queries blocks))

module _ (task : Task) (seed : List ℕ) (seats : Seating) (before now : Option (List TalkEvent)) (drawn : HasDrawn task seed seats) where
  abbrev head : List ℕ
  head = head_of (version_of task) task.depth (asks_of task drawn.challenges)

  abbrev Wrote : Result (Unit {0}) PortStop → Type 0
  Wrote written = SendsWhole before now written head

  head_written : (written : Result (Unit {0}) PortStop) → WritesHead seats before now written → Wrote written
  head_written written wrote = wrote task.depth task.queries.items (blocks task drawn.challenges) [] drawn.stand

  -- it was written whole
  pub head_kept : WritesHead seats before now (Ok tt) → HeadIsKept task seed before now
  head_kept wrote = record { challenges = drawn.challenges; draws = drawn.draws; wrote = head_written (Ok tt) wrote }

  -- and so a front of it
  whole_cut : HeadIsKept task seed before now → HeadIsCut task seed before now
  whole_cut k =
      let whole = head_of (version_of task) task.depth (asks_of task k.challenges) in
      record { challenges = k.challenges; draws = k.draws; wrote = (whole, ([], sym (append-nil whole)), k.wrote) }

  -- it was not written whole
  cut : (stop : PortStop) → Wrote (Err stop) → HeadIsCut task seed before now
  cut stop (n, less, went) = record { challenges = drawn.challenges; draws = drawn.draws; wrote = (take n head, (drop n head, sym (take-append-drop n head)), went) }

  pub head_stopped : (written : Result (Unit {0}) PortStop) (port : PortStop) (status : Status) → WritesHead seats before now written → written ≡ Err port → status ≡ status_of_keep port → KeepsHead task seed before now (Err status)
  head_stopped (Ok u) port status wrote is so = absurd cc
  head_stopped (Err stop) port_stops.Failed status wrote is so = rw so (cut stop (head_written (Err stop) wrote))
  head_stopped (Err stop) port_stops.OutOfMemory status wrote is so = rw so (inr (cut stop (head_written (Err stop) wrote)))

  -- the run stopped while its stream was read
  pub head_followed : (status : Status) → HeadIsKept task seed before now → IsTrue (stops_following status) → KeepsHead task seed before now (Err status)
  head_followed (statuses.BadStream at why) k is = k
  head_followed (statuses.ReadFault ports.First) k is = k
  head_followed (statuses.ReadFault ports.Second) k is = absurd (let no = is in cc)
  head_followed (statuses.ReadFault ports.Report) k is = absurd (let no = is in cc)
  head_followed (statuses.ReadFault ports.Keep) k is = absurd (let no = is in cc)
  head_followed statuses.PeerFault k is = k
  head_followed statuses.OutOfMemory k is = inr (whole_cut k)
  head_followed _ k is = absurd (let no = is in cc)

-- ---- the head was not written whole

-- nothing is said then
pub unheaded : (task : Task) (bytes seed : List ℕ) (seats : Seating) (talk : Option (List TalkEvent)) (stop : PortStop) → HasDrawn task seed seats → Refuses task bytes seed talk talk (status_of_keep stop)
unheaded task bytes seed seats talk port_stops.Failed drawn = ((drawn.challenges, drawn.draws), refl)
unheaded task bytes seed seats talk port_stops.OutOfMemory drawn = inl refl

-- and it has its cause
pub keep_stops : (before now : Counts) (stop : PortStop) → (stop ≡ port_stops.Failed → Rose before.keep now.keep) → IsTrue (stops_gathering (status_of_keep stop)) × FaultClause before now (status_of_keep stop)
keep_stops before now port_stops.Failed rose = (cc, rose refl)
keep_stops before now port_stops.OutOfMemory rose = (cc, tt)

pub keep_wanted : {S R : Type 0} (r : Result S Status) (stop : PortStop) → r ≡ Err (status_of_keep stop) → (stop ≡ port_stops.OutOfMemory → R) → r ≡ Err statuses.OutOfMemory → R
keep_wanted r port_stops.Failed of_stop rose is = absurd cc
keep_wanted r port_stops.OutOfMemory of_stop rose is = rose refl
