-- How a panel begins, and why it may not.
use Rattle.std.proofs.Common.{◌≡◌, ◌⊎◌, ℕ, ◌*◌, ◌<◌, ◌≤◌, true, Option, Result, Ok, Err, List, [], length, map, inl, inr, refl, sym, ap, ◌∙◌, subst, arith, append-nil, le-mul_of_pos_right, true≢false}
use Rattle.std.proofs.Math.Nat.{mul-pos, mul_comm}
use Rattle.std.specs.Prelude.{IfErr, IsTrue}
use Rattle.sip_ports.specs.Ports.{Rose}
use Rattle.sip_ports.proofs.FaultLemmas.{Rose-positive}
use Rattle.sip_vector.specs.declared.tally.Negatives.{Negatives}
use Rattle.sip_vector.specs.Limits.{most_depth}
use Rattle.sip_verifier.specs.declared.session.SessionStart.{SessionStart}
use Rattle.sip_verifier.specs.declared.session.SessionStart.TheVariants as starts
use Rattle.sip_verifier.specs.declared.status.Port.TheVariants as ports
use Rattle.sip_verifier.specs.declared.status.Status.{Status}
use Rattle.sip_verifier.specs.declared.status.Status.TheVariants as statuses
use Rattle.sip_verifier.specs.declared.task.Task.{Task}
use Rattle.sip_verifier.specs.Gathering.{legal}
use Rattle.sip_verifier.specs.inside.Ending.{status_of_start}
use Rattle.sip_verifier.specs.Negatives.{NegativesClause, gathered_negatives}
use Rattle.sip_verifier.specs.Snapshots.{Counts, counts}
use Rattle.sip_verifier.specs.QuerySeats.{Seated}
use Rattle.sip_verifier.specs.Seats.{Seating}
use Rattle.sip_verifier.specs.Sittings.{Starts}
use Rattle.sip_verifier.specs.Statuses.{FaultClause, IsListed, Stops, stops_following, stops_gathering}
use Rattle.sip_verifier.specs.Talks.{stream_sent}
use Rattle.sip_verifier.specs.Tasks.{CanBeAsked, CanBeDone, version_of}
use Rattle.sip_verifier.specs.Widths.{is_wide_seat}
use Rattle.sip_wire.specs.declared.version.Version.{Version}
use Rattle.sip_wire.specs.Table.{most_queries}
use Rattle.sip_verifier.proofs.KeptHead.{following_gathers}
use Rattle.sip_verifier.proofs.RunNegatives.{of_gathered, of_stopped}
use Rattle.sip_verifier.proofs.RunPromises.{gathering_listed}
use Rattle.sip_session.specs.inside.Beginning.{Begins, GathersAll, IsHeard, by_query, task_of_seats}
use Rattle.sip_session.specs.inside.Hearing.{AllTalks, Each, IsPassedInPart}
use Rattle.sip_session.proofs.Seats.{All-seats, first_some, length-seats}

-- ---- the task of all seats

pub wide_done : (helpers : ℕ) (task : Task) → 0 < helpers → CanBeDone task
    → CanBeDone (task_of_seats helpers task)
wide_done helpers task some can = record {
  some = (let size = length-seats helpers task.queries.items in
      let least : 0 < length task.queries.items * helpers = mul-pos can.some some in
      omega (arith, size, least));
  asked = All-seats (CanBeAsked task.depth) helpers task.queries.items can.asked;
}

-- there are no more helpers than seats
pub helpers_few : (helpers queries most : ℕ) → 0 < queries → helpers * queries ≤ most
    → helpers ≤ most
helpers_few helpers queries most some few = let more : helpers ≤ helpers * queries =
    le-mul_of_pos_right helpers some in omega (arith, more, few)

-- nor more queries
pub queries_few : (helpers queries most : ℕ) → 0 < helpers → helpers * queries ≤ most
    → queries ≤ most
queries_few helpers queries most some few =
    helpers_few queries helpers most some (omega (arith, few, mul_comm helpers queries))

-- the levels of a panel's task, and its queries, are in their bounds
pub task_bounds : (helpers : ℕ) (task : Task) (levels : ℕ) → levels ≡ task.depth → 1 ≤ levels
    → levels ≤ most_depth → 0 < helpers → helpers * length task.queries.items ≤ most_queries
    → (1 ≤ task.depth) × (task.depth ≤ most_depth) × (length task.queries.items ≤ most_queries)
task_bounds helpers task levels is deep most some few = (
  omega (arith, is, deep),
  omega (arith, is, most),
  queries_few helpers (length task.queries.items) most_queries some few,
)

-- ---- statuses

-- a count that stays 0 has not risen
pub never_rose : {P : Type 0} → Rose 0 0 → P
never_rose rose = absurd (Rose-positive 0 0 rose refl)

-- the cause of a status by other counts, where each that rose by the one pair rose by the other
module _ (before now since until : Counts)
    (first : Rose before.first now.first → Rose since.first until.first)
    (second : Rose before.second now.second → Rose since.second until.second)
    (peer : Rose before.peer now.peer → Rose since.peer until.peer)
    (report : Rose before.report now.report → Rose since.report until.report)
    (keep : Rose before.keep now.keep → Rose since.keep until.keep) where
  pub caused_by : (status : Status) → FaultClause before now status → FaultClause since until status
  caused_by (statuses.ReadFault ports.First) fault = first fault
  caused_by (statuses.ReadFault ports.Second) fault = second fault
  caused_by (statuses.ReadFault ports.Report) fault = absurd fault
  caused_by (statuses.ReadFault ports.Keep) fault = absurd fault
  caused_by (statuses.WriteFault ports.First) fault = absurd fault
  caused_by (statuses.WriteFault ports.Second) fault = absurd fault
  caused_by (statuses.WriteFault ports.Report) fault = report fault
  caused_by (statuses.WriteFault ports.Keep) fault = keep fault
  caused_by statuses.PeerFault fault = peer fault
  caused_by _ fault = tt

-- what stops a panel while its stream is sent stops it before its first query, by the counts since
-- before the draw
pub sending_stops : (first firsts second seconds : ℕ) (status : Status)
    → Stops stops_following (counts first 0 0 0 0) (counts firsts 0 0 0 0) {T = Unit {0}}
    (Err status)
    → IsTrue (stops_gathering status)
    × FaultClause (counts first second 0 0 0) (counts firsts seconds 0 0 0) status
sending_stops first firsts second seconds status stops = (
  following_gathers status stops.0,
  caused_by (counts first 0 0 0 0) (counts firsts 0 0 0 0) (counts first second 0 0 0)
      (counts firsts seconds 0 0 0) (λ r. r) never_rose never_rose never_rose never_rose
      status stops.1,
)

-- what stopped a gathering is one of its statuses
pub stops_listed : (first firsts second seconds : ℕ) (gathered : Result Seating Status)
    → Stops stops_gathering (counts first second 0 0 0) (counts firsts seconds 0 0 0) gathered
    → IfErr gathered (λ s. IsTrue (stops_gathering s))
stops_listed first firsts second seconds (Ok seats) stops = tt
stops_listed first firsts second seconds (Err status) stops = stops.0

-- ---- no session

-- why there is no session of what was gathered
abbrev pub NoSession : Version → Result Seating Status → Status → Type 0
NoSession version gathered status =
    (gathered ≡ Err status) ⊎ (seats : Seating) × (start : SessionStart) × (gathered ≡ Ok seats)
    × Starts version seats (Err start) × (status ≡ status_of_start start)

-- no gathering stops by a query that is too wide, so what it answered keeps its name
same_named : (helpers : ℕ) (status : Status) → stops_gathering status ≡ true
    → by_query helpers status ≡ status
same_named helpers (statuses.TooWide seat) listed = absurd (true≢false (sym listed))
same_named helpers (statuses.BadStream at why) listed = refl
same_named helpers statuses.BadSeed listed = refl
same_named helpers statuses.SeedSpent listed = refl
same_named helpers (statuses.ReadFault port) listed = refl
same_named helpers (statuses.WriteFault port) listed = refl
same_named helpers statuses.PeerFault listed = refl
same_named helpers statuses.OutOfMemory listed = refl
same_named helpers _ listed = absurd (true≢false (sym listed))

module _ (wide : Task) (bytes seed : List ℕ) (left : Option (List ℕ)) (old new : AllTalks)
    (helpers : ℕ) where
  -- no gathering stops by a query that is too wide, so what it answered stays
  pub gathers_begins : (status : Status) → stops_gathering status ≡ true
      → GathersAll wide bytes seed left old new (Err status)
      → Begins wide bytes seed left old new helpers (Err status)
  gathers_begins (statuses.TooWide seat) listed stops = absurd (true≢false (sym listed))
  gathers_begins (statuses.BadStream at why) listed stops = stops
  gathers_begins statuses.BadSeed listed stops = stops
  gathers_begins statuses.SeedSpent listed stops = stops
  gathers_begins (statuses.ReadFault port) listed stops = stops
  gathers_begins (statuses.WriteFault port) listed stops = stops
  gathers_begins statuses.PeerFault listed stops = stops
  gathers_begins statuses.OutOfMemory listed stops = stops
  gathers_begins _ listed stops = absurd (true≢false (sym listed))

  -- all was sent, and memory ran out then
  all_in_part : (seats : Seating) → IsHeard wide bytes seed left old new seats
      → Each (λ _ o n. IsPassedInPart wide bytes o n) old new
  all_in_part seats heard = λ k less. let all = heard.each k less in
      record {
        said = stream_sent (version_of wide) wide.depth (legal wide bytes);
        talk = all.talk;
        order = ([], sym (append-nil _));
        illegal = λ no. absurd (no all.to_end);
      }

  begun_stop : (version : Version) (gathered : Result Seating Status) (status : Status)
      → NoSession version gathered status → GathersAll wide bytes seed left old new gathered
      → IfErr gathered (λ s. IsTrue (stops_gathering s))
      → Begins wide bytes seed left old new helpers (Err (by_query helpers status))
  begun_stop version gathered status (inl is) gathers listed =
      let stops = subst (GathersAll wide bytes seed left old new) is gathers in
      let known =
      subst (λ (r : Result Seating Status). IfErr r (λ s. IsTrue (stops_gathering s))) is
      listed in
      subst (λ (s : Status). Begins wide bytes seed left old new helpers (Err s))
      (sym (same_named helpers status known)) (gathers_begins status known stops)
  begun_stop version gathered status (inr (seats, starts.TooWide seat, is, wide_seat, same))
      gathers listed =
      let heard = subst (GathersAll wide bytes seed left old new) is gathers in
      subst (λ (s : Status). Begins wide bytes seed left old new helpers
      (Err (by_query helpers s))) (sym same) (seats, heard, seat, wide_seat, refl)
  begun_stop version gathered status (inr (seats, starts.OutOfMemory, is, none, same)) gathers
      listed =
      let heard = subst (GathersAll wide bytes seed left old new) is gathers in
      subst (λ (s : Status). Begins wide bytes seed left old new helpers
      (Err (by_query helpers s))) (sym same) (all_in_part seats heard)

  -- named by the query of its seat, by a number that is that of the helpers
  pub begun_named : (version : Version) (gathered : Result Seating Status) (status : Status)
      (count : ℕ) (named : Status) → count ≡ helpers → named ≡ by_query count status
      → NoSession version gathered status
      → GathersAll wide bytes seed left old new gathered
      → IfErr gathered (λ s. IsTrue (stops_gathering s))
      → Begins wide bytes seed left old new helpers (Err named)
  begun_named version gathered status count named same is none gathers listed =
      subst (λ (s : Status). Begins wide bytes seed left old new helpers (Err s))
      (sym (is ∙ ap (λ n. by_query n status) same))
      (begun_stop version gathered status none gathers listed)

-- its status is one of a run's, and a fault has its cause
pub begun_listed : (helpers : ℕ) (version : Version) (gathered : Result Seating Status)
    (status : Status) (before now : Counts) → NoSession version gathered status
    → Stops stops_gathering before now gathered
    → IsListed (by_query helpers status) × FaultClause before now (by_query helpers status)
begun_listed helpers version gathered status before now (inl is) stops =
    let known =
    subst (λ (r : Result Seating Status). Stops stops_gathering before now r) is stops in
    subst (λ (s : Status). IsListed s × FaultClause before now s)
    (sym (same_named helpers status known.0)) (gathering_listed status known.0, known.1)
begun_listed helpers version gathered status before now
    (inr (seats, starts.TooWide seat, is, wide_seat, same)) stops =
    subst (λ (s : Status). IsListed (by_query helpers s)
    × FaultClause before now (by_query helpers s)) (sym same) (refl, tt)
begun_listed helpers version gathered status before now
    (inr (seats, starts.OutOfMemory, is, none, same)) stops =
    subst (λ (s : Status). IsListed (by_query helpers s)
    × FaultClause before now (by_query helpers s)) (sym same) (refl, tt)

-- what it tells of deltas below 0 is what was gathered
pub begun_negatives : (helpers : ℕ) (wide : Task) (bytes : List ℕ) (version : Version)
    (gathered : Result Seating Status) (status : Status) (negatives : Negatives)
    → NoSession version gathered status → IfErr gathered (λ s. IsTrue (stops_gathering s))
    → negatives ≡ gathered_negatives wide bytes gathered
    → NegativesClause wide bytes (by_query helpers status) negatives
begun_negatives helpers wide bytes version gathered status negatives (inl is) listed are =
    let known =
    subst (λ (r : Result Seating Status). IfErr r (λ s. IsTrue (stops_gathering s))) is listed in
    let none =
    subst (λ (r : Result Seating Status). negatives ≡ gathered_negatives wide bytes r) is are in
    subst (λ (s : Status). NegativesClause wide bytes s negatives)
    (sym (same_named helpers status known)) (of_stopped wide bytes status negatives known none)
begun_negatives helpers wide bytes version gathered status negatives
    (inr (seats, start, is, starts, same)) listed are =
    of_gathered wide bytes (by_query helpers status) negatives
    (subst (λ (r : Result Seating Status). negatives ≡ gathered_negatives wide bytes r) is are)

-- seats are counted from 1
pub begun_counted : (version : Version) (gathered : Result Seating Status) (status : Status)
    → NoSession version gathered status → IfErr gathered (λ s. IsTrue (stops_gathering s))
    → (seat : ℕ) → status ≡ statuses.TooWide seat → 0 < seat
begun_counted version gathered status (inl is) listed seat so =
    let known =
    subst (λ (r : Result Seating Status). IfErr r (λ s. IsTrue (stops_gathering s)))
    (is ∙ ap Err so) listed in absurd (true≢false (sym known))
begun_counted version gathered status (inr (seats, starts.TooWide n, is, wide_seat, same)) listed
    seat so =
    let one : n ≡ seat = (let both = sym same ∙ so in cc) in
    let least : 1 ≤ n =
    first_some (map (λ (s : Seated). is_wide_seat s.query s.running) seats.seats) n wide_seat in
    omega (arith, one, least)
begun_counted version gathered status (inr (seats, starts.OutOfMemory, is, none, same)) listed seat
    so = absurd (let both = sym same ∙ so in cc)
