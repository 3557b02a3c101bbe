-- The head of a transcript as a task with its challenges, and the session that begins with it.
use Rattle.std.proofs.Common.{◌≡◌, ◌≤◌, ◌<◌, ◌*◌, ℕ, List, [], ◌∷◌, get_or, length, refl, sym, ap, subst, ◌∙◌, arith, Option, Some, Result, Ok, Err, inl, inr}
use Rattle.std.specs.Prelude.{All, IsTrue, MatchResult, map}
use Rattle.std.specs.List.{flat_map}
use Rattle.std.proofs.Math.Nat.{mul_comm}
use Rattle.std.proofs.lemmas.List.{get_or-map, length-map}
use Rattle.std.proofs.lemmas.Nat.{mul-le}
use Rattle.std.proofs.lemmas.List.Elements.{All-append, All-head, All-map, All-nil, All-tail, All-weaker}
use Rattle.sip_ports.specs.declared.port.TalkEvent.{TalkEvent}
use Rattle.sip_stream.specs.Records.{records}
use Rattle.sip_stream.proofs.LegalRecords.{records_legal}
use Rattle.sip_vector.specs.Pieces.{cut}
use Rattle.sip_vector.specs.declared.update.Update.{Update}
use Rattle.sip_wire.specs.declared.version.Version.{Version}
use Rattle.sip_wire.specs.Table.{is_element, most_queries}
use Rattle.sip_wire.specs.Versions.{Speaks}
use Rattle.sip_replies.proofs.Passing.{same_ok}
use Rattle.sip_verifier.specs.declared.session.SessionStart.{SessionStart}
use Rattle.sip_verifier.specs.declared.session.SessionStart.TheVariants as starts
use Rattle.sip_verifier.specs.declared.status.Port.TheVariants as ports
use Rattle.sip_verifier.specs.declared.status.Status.{Status}
use Rattle.sip_verifier.specs.declared.status.Status.TheVariants as statuses
use Rattle.sip_verifier.specs.declared.task.Task.{Task}
use Rattle.sip_verifier.specs.Concluding.{Reports}
use Rattle.sip_verifier.specs.QuerySeats.{Seated, StandsFor}
use Rattle.sip_verifier.specs.Gathering.{AreOf, Breaks, IsPassedOn}
use Rattle.sip_verifier.specs.inside.Ending.{status_of_start}
use Rattle.sip_verifier.specs.inside.Opening.{IsOpened, IsUnopened}
use Rattle.sip_verifier.specs.Snapshots.{counts}
use Rattle.sip_verifier.specs.Seats.{AreSeats, Seating}
use Rattle.sip_verifier.specs.Sittings.{Sitting, Starts}
use Rattle.sip_verifier.specs.Statuses.{FaultClause, stops_following}
use Rattle.sip_verifier.specs.Widths.{first_wide_seat}
use Rattle.sip_verifier.proofs.SeatedBehind.{seats_left}
use Rattle.sip_verifier.proofs.WideSeats.{first_is}
use Rattle.sip_verifier.specs.Tasks.{CanBeAsked}
use Rattle.sip_transcript.specs.Auditing.{stops_auditing}
use Rattle.sip_transcript.specs.Heads.{Ask, IsAsk}
use Rattle.sip_transcript.specs.Replayed.{AreAsked, Begins, IsBegun}
use Rattle.sip_transcript.proofs.Asks.{blocks-long, deepest-most}

-- ---- the head as a task

abbrev IsEl : ℕ → Type 0
IsEl x = IsTrue (is_element x)

elements_of : (version : Version) (depth : ℕ) (asks : List Ask) → All (IsAsk version depth) asks → All IsEl (flat_map (λ ask. ask.1) asks)
elements_of version depth [] are = All-nil IsEl
elements_of version depth (ask ∷ asks) are =
    All-append IsEl ask.1 (flat_map (λ (x : Ask). x.1) asks) (All-head (IsAsk version depth) ask asks are).elements
    (elements_of version depth asks (All-tail (IsAsk version depth) ask asks are))

module _ (version : Version) (task : Task) (challenges : List ℕ) (asks : List Ask) (is : AreAsked version task challenges asks) where
  count : length task.queries.items ≡ length asks
  count = ap length is.queries ∙ length-map asks (λ (ask : Ask). ask.0)

  pub some_asked : 0 < length task.queries.items
  some_asked = omega (arith, is.is_run.some, count)

  pub few_asked : length task.queries.items ≤ most_queries
  few_asked = omega (arith, is.is_run.most, count)

  pub can_be_asked : All (CanBeAsked task.depth) task.queries.items
  can_be_asked =
      subst (All (CanBeAsked task.depth)) (sym is.queries) (All-map (CanBeAsked task.depth) (λ (ask : Ask). ask.0) asks
      (All-weaker (IsAsk version task.depth) (λ (ask : Ask). CanBeAsked task.depth ask.0) (λ ask one. one.fits) asks is.is_run.each))

  speak : All (Speaks version task.depth) task.queries.items
  speak =
      subst (All (Speaks version task.depth)) (sym is.queries) (All-map (Speaks version task.depth) (λ (ask : Ask). ask.0) asks
      (All-weaker (IsAsk version task.depth) (λ (ask : Ask). Speaks version task.depth ask.0) (λ ask one. one.speaks) asks is.is_run.each))

  -- the seats of its queries can be asked in the head's version
  pub seats_speak : (seats : Seating) → seats.depth ≡ task.depth → map (λ (s : Seated). s.query) seats.seats ≡ task.queries.items → All (λ (s : Seated). Speaks version seats.depth s.query) seats.seats
  seats_speak seats deep same = λ i other less.
      let query = λ (s : Seated). s.query in
      let all : All (Speaks version task.depth) (map query seats.seats) = subst (All (Speaks version task.depth)) (sym same) speak in
      subst (λ (d : ℕ). Speaks version d (query (get_or seats.seats i other))) (sym deep)
      (subst (Speaks version task.depth) (get_or-map query seats.seats i other (query other) less) (all i (query other) (omega (arith, less, length-map seats.seats query))))

  pub are_elements : All IsEl challenges
  are_elements = subst (All IsEl) (sym is.challenges) (elements_of version task.depth asks is.is_run.each)

  long : length challenges ≡ length asks * task.depth
  long = ap length is.challenges ∙ blocks-long version task.depth asks is.is_run.each

  -- there is room for them
  pub few_elements : length challenges ≤ 768
  few_elements =
      let most : length asks * task.depth ≤ 16 * 48 = mul-le (length asks) task.depth 16 48 is.is_run.most (omega (arith, is.is_run.shallow, deepest-most version)) in
      omega (arith, long, most)

  -- a challenge for each level of each query
  pub blocks_asked : length challenges ≡ task.depth * length task.queries.items
  blocks_asked = long ∙ mul_comm (length asks) task.depth ∙ ap (λ (n : ℕ). task.depth * n) (sym count)

-- ---- the stream

module _ (version : Version) (task : Task) (challenges bytes : List ℕ) (left : Option (List ℕ)) where
  -- it was not read to its end; what is sent nowhere never fails
  pub not_passed_on : (first firsts second seconds report reports keep keeps : ℕ) (old new : Option (List TalkEvent)) (status : Status) → Breaks task bytes old new status
      → FaultClause (counts first second 0 report keep) (counts firsts seconds 0 reports keeps) status → Begins version task challenges bytes left (Err status)
  not_passed_on first firsts second seconds report reports keep keeps old new (statuses.BadStream at why) breaks fault = (breaks.0, breaks.1)
  not_passed_on first firsts second seconds report reports keep keeps old new (statuses.ReadFault ports.First) breaks fault = tt
  not_passed_on first firsts second seconds report reports keep keeps old new (statuses.ReadFault ports.Second) breaks fault = absurd breaks
  not_passed_on first firsts second seconds report reports keep keeps old new (statuses.ReadFault ports.Report) breaks fault = absurd breaks
  not_passed_on first firsts second seconds report reports keep keeps old new (statuses.ReadFault ports.Keep) breaks fault = absurd breaks
  not_passed_on first firsts second seconds report reports keep keeps old new statuses.PeerFault breaks fault = absurd (omega (arith, fault))
  not_passed_on first firsts second seconds report reports keep keeps old new statuses.OutOfMemory breaks fault = tt
  not_passed_on first firsts second seconds report reports keep keeps old new _ breaks fault = absurd breaks

  -- the seats took it, and there is a session
  pub begun : (seats : Seating) (s : Sitting) (old new : Option (List TalkEvent)) → IsPassedOn task bytes (cut task.depth challenges) left old new seats
      → Starts version seats (Ok s) → IsBegun version task challenges bytes left s
  begun seats s old new passed starts = record {
    seats = seats;
    stand = passed.stand;
    starts = starts;
    legal = passed.to_end;
    read = passed.read;
  }

  -- or the answer of a query may be too wide
  pub wide : (blocks : List (List ℕ)) (seats : Seating) (query : ℕ) (old new : Option (List TalkEvent)) → IsPassedOn task bytes blocks left old new seats → first_wide_seat seats.seats ≡ Some query
      → Begins version task challenges bytes left (Err (statuses.TooWide query))
  wide blocks seats query old new passed is =
      (passed.to_end, sym (first_is task.depth task.queries.items blocks (records task.depth task.form bytes).legal seats passed.stand (records_legal task.depth task.form bytes).items) ∙ is)

  -- or there was no memory for it
  pub not_begun : (blocks : List (List ℕ)) (seats : Seating) (start : SessionStart) (old new : Option (List TalkEvent)) → IsPassedOn task bytes blocks left old new seats → Starts version seats (Err start)
      → Begins version task challenges bytes left (Err (status_of_start start))
  not_begun blocks seats (starts.TooWide query) old new passed is = wide blocks seats query old new passed is
  not_begun blocks seats starts.OutOfMemory old new passed is = tt

-- what stops a run while its stream is read stops an audit, with the same cause
pub following_audits : (first firsts second seconds peer peers report reports keep keeps : ℕ) (status : Status) → IsTrue (stops_following status) × FaultClause (counts first second 0 report keep) (counts firsts seconds 0 reports keeps) status
    → IsTrue (stops_auditing status) × FaultClause (counts first second peer report keep) (counts firsts seconds peers reports keeps) status
following_audits first firsts second seconds peer peers report reports keep keeps (statuses.BadStream at why) stops = (refl, tt)
following_audits first firsts second seconds peer peers report reports keep keeps (statuses.ReadFault ports.First) stops = (refl, stops.1)
following_audits first firsts second seconds peer peers report reports keep keeps (statuses.ReadFault ports.Second) stops = absurd (let no = stops.0 in cc)
following_audits first firsts second seconds peer peers report reports keep keeps (statuses.ReadFault ports.Report) stops = absurd (let no = stops.0 in cc)
following_audits first firsts second seconds peer peers report reports keep keeps (statuses.ReadFault ports.Keep) stops = absurd (let no = stops.0 in cc)
following_audits first firsts second seconds peer peers report reports keep keeps statuses.PeerFault stops = absurd (omega (arith, stops.1))
following_audits first firsts second seconds peer peers report reports keep keeps statuses.OutOfMemory stops = (refl, tt)
following_audits first firsts second seconds peer peers report reports keep keeps _ stops = absurd (let no = stops.0 in cc)

-- ---- the session

-- seats that were found where they were left stand as they did, and so do they with tables
pub stand_kept : (task : Task) (challenges : List ℕ) (gathered : Result Seating Status) (found kept : Seating)
    → (seats : Seating) × (gathered ≡ Ok seats) × AreSeats task.depth task.queries.items (cut task.depth challenges) [] seats
    → gathered ≡ Ok found → kept ≡ found → AreSeats task.depth task.queries.items (cut task.depth challenges) [] kept
stand_kept task challenges gathered found kept (seats, was, stand) is same =
    let found_is : seats ≡ found = same_ok {E = Status} seats found (sym was ∙ is) in
    subst (AreSeats task.depth task.queries.items (cut task.depth challenges) []) (found_is ∙ sym same) stand

-- it is over the seats that were gathered, or could not be opened over them
abbrev pub IsUnstarted : Version → Seating → Status → Type 0
IsUnstarted version seats status = (start : SessionStart) × Starts version seats (Err start) × (status ≡ status_of_start start)

pub over_seats : {X : Type 0} (result : Result X Status) (view : X → Sitting) (version : Version) (gathered : Result Seating Status) (seats : Seating) → gathered ≡ Ok seats
    → MatchResult result (λ x. IsOpened version gathered (view x)) (λ status. IsUnopened version gathered status)
    → MatchResult result (λ x. Starts version seats (Ok (view x))) (λ status. IsUnstarted version seats status)
over_seats (Ok x) view version gathered seats was (other, is, starts) =
    subst (λ (s : Seating). Starts version s (Ok (view x))) (same_ok {E = Status} other seats (sym is ∙ was)) starts
over_seats (Err status) view version gathered seats was (inl is) = absurd (let no = sym is ∙ was in cc)
over_seats (Err status) view version gathered seats was (inr (other, start, is, starts, why)) =
    (start, subst (λ (s : Seating). Starts version s (Err start)) (same_ok {E = Status} other seats (sym is ∙ was)) starts, why)

-- what is reported behind a session, where its seats stand for a stream
pub its_lines : (version : Version) (task : Task) (challenges bytes : List ℕ) (left : Option (List ℕ)) (s now : Sitting) (blank full : Option (List TalkEvent)) → IsBegun version task challenges bytes left s → now ≡ s
    → ((stream : List Update) → All (StandsFor now.depth stream) now.left → Reports blank full) → Reports blank full
its_lines version task challenges bytes left s now blank full begun same wrote =
    let stand = seats_left _ _ _ _ begun.seats _ s begun.stand begun.starts in
    wrote (records task.depth task.form bytes).legal (rw same stand.1)

-- a session has as many queries to ask as its seats
pub as_many : (task : Task) (stream : List Update) (version : Version) (seats : Seating) (s : Sitting) → AreOf task stream seats → Starts version seats (Ok s) → length s.left ≡ length task.queries.items
as_many task stream version seats s are starts =
    ap length starts.2 ∙ sym (length-map seats.seats (λ (x : Seated). x.query)) ∙ ap length are.stand.asked
