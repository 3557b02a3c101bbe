-- The statuses of a run of `verify`: which are faults of a port, and which of them each part of a
-- run may answer.
use Rattle.std.specs.Prelude.{Bool, true, false, ◌||◌, IsTrue, IfErr, Result}
use Rattle.sip_ports.specs.Ports.{Rose}
use Rattle.sip_verifier.specs.declared.status.Port.TheVariants as ports
use Rattle.sip_verifier.specs.declared.status.Status.{Status}
use Rattle.sip_verifier.specs.declared.status.Status.TheVariants as statuses
use Rattle.sip_verifier.specs.Snapshots.{Counts}

-- Which count of faults rose where this status is answered, whatever the ports tell. A status that
-- is no fault needs none.
abbrev pub FaultClause : Counts → Counts → Status → Type 0
FaultClause before now (statuses.ReadFault ports.First) = Rose before.first now.first
FaultClause before now (statuses.ReadFault ports.Second) = Rose before.second now.second
FaultClause before now (statuses.ReadFault _) = ⊥
FaultClause before now (statuses.WriteFault ports.Report) = Rose before.report now.report
FaultClause before now (statuses.WriteFault ports.Keep) = Rose before.keep now.keep
FaultClause before now (statuses.WriteFault _) = ⊥
FaultClause before now statuses.PeerFault = Rose before.peer now.peer
FaultClause before now _ = Unit {0}

abbrev pub is_accepted : Status → Bool
is_accepted statuses.Accepted = true
is_accepted _ = false

-- the run stopped before its first query
abbrev pub stops_gathering : Status → Bool
stops_gathering statuses.BadSeed = true
stops_gathering statuses.SeedSpent = true
stops_gathering (statuses.BadStream _ _) = true
stops_gathering (statuses.ReadFault ports.First) = true
stops_gathering (statuses.ReadFault ports.Second) = true
stops_gathering (statuses.WriteFault ports.Keep) = true
stops_gathering statuses.PeerFault = true
stops_gathering statuses.OutOfMemory = true
stops_gathering _ = false

-- the run stopped while its stream was read and sent
abbrev pub stops_following : Status → Bool
stops_following (statuses.BadStream _ _) = true
stops_following (statuses.ReadFault ports.First) = true
stops_following statuses.PeerFault = true
stops_following statuses.OutOfMemory = true
stops_following _ = false

-- the run stopped between its stream and its first query
abbrev pub stops_starting : Status → Bool
stops_starting (statuses.TooWide _) = true
stops_starting statuses.OutOfMemory = true
stops_starting _ = false

-- the run stopped at a query
abbrev pub stops_asking : Status → Bool
stops_asking (statuses.Rejected _ _ _) = true
stops_asking (statuses.WriteFault ports.Report) = true
stops_asking (statuses.WriteFault ports.Keep) = true
stops_asking statuses.PeerFault = true
stops_asking statuses.OutOfMemory = true
stops_asking _ = false

-- the statuses that a run may answer
abbrev pub IsListed : Status → Type 0
IsListed status =
    IsTrue (is_accepted status || stops_gathering status || stops_starting status
    || stops_asking status)

-- a call that stops does so with one of these statuses, and a fault of a port has its cause between
-- these counts
abbrev pub Stops : (Status → Bool) → Counts → Counts → {T : Type 0} → Result T Status → Type 0
Stops listed before now result =
    IfErr result (λ status. IsTrue (listed status) × FaultClause before now status)
