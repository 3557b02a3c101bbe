-- What is enough for the questions of seats, and what comes of one of them.
use Rattle.std.specs.Prelude.{ℕ, min, nat_le, Bool, false, List, Option, Some, None}
use Rattle.std.specs.Prelude.{Result, Ok, Err}
use Rattle.std.specs.List.{list_all}
use Rattle.sip_vector.specs.declared.query.Query.{Query}
use Rattle.sip_replies.specs.declared.asking.AskStop.{AskStop}
use Rattle.sip_replies.specs.declared.asking.AskStop.TheVariants as stops
use Rattle.sip_replies.specs.declared.check.Said.{Said}
use Rattle.sip_replies.specs.declared.check.Said.TheVariants as saids
use Rattle.sip_heavy.specs.Checking.{Space}
use Rattle.sip_verifier.specs.QuerySeats.{RunningNumbers, Seated}
use Rattle.sip_verifier.specs.Rooms.{most_nodes}
use Rattle.sip_verifier.specs.declared.session.SessionFault.{SessionFault}
use Rattle.sip_verifier.specs.declared.session.SessionFault.TheVariants as faults
use Rattle.sip_verifier.specs.declared.session.Verdict.{Verdict}
use Rattle.sip_verifier.specs.declared.session.Verdict.TheVariants as verdicts

-- so many are enough for each seat
abbrev pub are_enough : (Query → RunningNumbers → ℕ) → ℕ → List Seated → Bool
are_enough need room seats = list_all (λ s. nat_le (need s.query s.running) room) seats

-- what is lent is enough for each seat
abbrev pub lends_enough : Option Space → List Seated → Bool
lends_enough None seats = false
lends_enough (Some space) seats = are_enough most_nodes space.nodes seats

-- how many of so many places have pairs of the answer
abbrev pub found_in : ℕ → Result Said AskStop → ℕ
found_in places (Ok (saids.Pairs found)) = min found places
found_in places _ = 0

-- what a session answers then
abbrev pub verdict_of : Result Said AskStop → Result Verdict SessionFault
verdict_of (Ok (saids.Number n)) = Ok (verdicts.Number n)
verdict_of (Ok (saids.Pairs found)) = Ok verdicts.Pairs
verdict_of (Err (stops.Rejected round reason)) = Ok (verdicts.Rejected round reason)
verdict_of (Err stops.PeerFault) = Err faults.PeerFault
verdict_of (Err stops.KeepFault) = Err faults.KeepFault
verdict_of (Err stops.OutOfMemory) = Err faults.OutOfMemory
verdict_of (Err stops.KeepOutOfMemory) = Err faults.OutOfMemory
