-- Causes.
--
-- A verdict comes only where the seed gives challenges, the stream is legal to its end and the
-- queries may be asked; the queries are refused only where the input is good and they may not be
-- asked; a bad stream only where the seed gives challenges and the stream is not legal to its end,
-- with the number and the fault of the first record that is not legal; a bad seed only where the
-- seed has fewer than 32 bytes, and a spent one only where its 32 bytes do not give the challenges.
-- One of these five holds, so its answer comes, unless a port failed or memory ran out. A fault
-- comes only where the count of faults of that very port rose in this call, and where the steps
-- before it had passed: faults of the link and of the stream only where the seed gives challenges,
-- and so those of the record of the talk; faults of the report only where the stream is legal to
-- its end and the queries may be asked, and so those of the record once anything was said. Want of
-- memory is free. No other answer comes.
use Rattle.std.specs.Prelude.{◌≡◌, ◌≢◌, ◌<◌, ◌≤◌, [], length, Some, None}
use Rattle.sip_stream.specs.Records.{records}
use Rattle.sip_verifier.specs.declared.status.Port.TheVariants as ports
use Rattle.sip_verifier.specs.declared.status.Status.{Status}
use Rattle.sip_verifier.specs.declared.status.Status.TheVariants as statuses
use Rattle.sip_verifier.specs.Exchanges.{Exchange}
use Rattle.sip_verifier.specs.Snapshots.{Counts}
use Rattle.sip_verifier.specs.runs.Manners.{Asking}
use Rattle.sip_verifier.specs.runs.Runs.{Run, manner, updates, IsLegalToEnd}
use Rattle.sip_verifier.specs.Statuses.{FaultClause}

module _ {Q A : Type 0} (asking : Asking Q A) (r : Run Q) (x : Exchange) where
  -- the seed gives challenges, and the stream is legal to its end
  abbrev pub HasGoodInput : Type 0
  HasGoodInput = (r.challenges ≢ None) × IsLegalToEnd r x

  -- that, and the queries may be asked of the stream
  abbrev pub CanBeJudged : Type 0
  CanBeJudged = HasGoodInput × (manner asking r x).MayAsk r.queries

  abbrev pub CauseClause : Counts → Counts → Status → Type 0
  CauseClause before now statuses.Accepted = CanBeJudged
  CauseClause before now (statuses.Rejected query round reason) = CanBeJudged
  CauseClause before now (statuses.BadStream at why) =
      (r.challenges ≢ None) × (at ≡ length (updates r x))
      × ((records r.depth r.form x.stream).fault ≡ Some why)
  CauseClause before now (statuses.TooWide query) =
      HasGoodInput × (manner asking r x).Refuses r.queries (statuses.TooWide query)
  CauseClause before now (statuses.TooHigh query) =
      HasGoodInput × (manner asking r x).Refuses r.queries (statuses.TooHigh query)
  CauseClause before now statuses.BadSeed = length x.seed < 32
  CauseClause before now statuses.SeedSpent = (32 ≤ length x.seed) × (r.challenges ≡ None)
  CauseClause before now (statuses.ReadFault ports.First) =
      (r.challenges ≢ None) × FaultClause before now (statuses.ReadFault ports.First)
  CauseClause before now (statuses.ReadFault port) =
      FaultClause before now (statuses.ReadFault port)
  CauseClause before now (statuses.WriteFault ports.Keep) =
      (r.challenges ≢ None) × (x.talk ≢ [] → CanBeJudged)
      × FaultClause before now (statuses.WriteFault ports.Keep)
  CauseClause before now (statuses.WriteFault port) =
      CanBeJudged × FaultClause before now (statuses.WriteFault port)
  CauseClause before now statuses.PeerFault =
      (r.challenges ≢ None) × FaultClause before now statuses.PeerFault
  CauseClause before now statuses.OutOfMemory = Unit {0}
  CauseClause before now _ = ⊥
