-- All that a panel keeps, from what its parts did.
use Rattle.std.proofs.Common.{◌≡◌, ◌≢◌, ℕ, ◌<◌, ◌≤◌, Option, Some, Result, Ok, Err, IsSome, List, [], ◌∷◌, length, map, get_or, All, inl, inr, refl, sym, ap, ◌∙◌, subst, arith}
use Rattle.std.proofs.lemmas.List.{get_or-map, length-map}
use Rattle.sip_ports.specs.declared.port.PortStop.{PortStop}
use Rattle.sip_ports.specs.declared.port.PortStop.TheVariants as port_stops
use Rattle.sip_ports.specs.declared.port.TalkEvent.{TalkEvent}
use Rattle.sip_ports.specs.Ports.{GoesOn, Rose, outs}
use Rattle.sip_vector.specs.declared.query.Query.{Query}
use Rattle.sip_vector.specs.declared.update.Update.{Update}
use Rattle.sip_vector.specs.Limits.{most_depth}
use Rattle.sip_wire.specs.declared.message.Message.TheVariants as messages
use Rattle.sip_wire.specs.declared.version.Version.{Version}
use Rattle.sip_wire.specs.Spelling.{spelling}
use Rattle.sip_wire.specs.Table.{most_queries}
use Rattle.sip_verifier.specs.declared.status.Port.TheVariants as ports
use Rattle.sip_verifier.specs.declared.status.Status.{Status}
use Rattle.sip_verifier.specs.declared.status.Status.TheVariants as statuses
use Rattle.sip_verifier.specs.declared.task.Task.{Task}
use Rattle.sip_verifier.specs.Concluding.{status_of}
use Rattle.sip_verifier.specs.Gathering.{legal}
use Rattle.sip_verifier.specs.inside.Ending.{status_of_link}
use Rattle.sip_verifier.specs.Snapshots.{Counts, counts}
use Rattle.sip_verifier.specs.runs.Concluding.{Reports}
use Rattle.sip_verifier.specs.Seats.{Seating}
use Rattle.sip_verifier.specs.QuerySeats.{StandsFor}
use Rattle.sip_verifier.specs.Sittings.{Sitting, Starts, asks_left}
use Rattle.sip_verifier.specs.Statuses.{FaultClause, IsListed, Stops, stops_asking}
use Rattle.sip_verifier.specs.Tasks.{CanBeDone, version_of}
use Rattle.sip_verifier.proofs.QueriesChecked.{OnLink}
use Rattle.sip_verifier.proofs.RunPromises.{asking_listed}
use Rattle.sip_verifier.proofs.RunTalks.{goes_to, some_value}
use Rattle.sip_verifier.proofs.SeatedBehind.{seats_left}
use Rattle.sip_session.specs.inside.Beginning.{Begins, IsHeard, task_of_seats}
use Rattle.sip_session.specs.inside.Hearing.{AllTalks, SaysBehind}
use Rattle.sip_session.specs.inside.Trying.{Halts, Trails}
use Rattle.sip_session.specs.PanelClause.{PanelClause}
use Rattle.sip_session.specs.PanelExchanges.{PanelExchange, PanelIsTold, PanelSnapshot, PanelTells}
use Rattle.sip_session.proofs.Begun.{caused_by, never_rose}
use Rattle.sip_session.proofs.PanelEndings.{all_answered, cut_in_farewell, depth_is, halted, in_part, refused, too_wide, version_is}
use Rattle.sip_session.proofs.Places.{told_length}

-- ports that tell go on telling
pub panel_tells : (old new : PanelSnapshot) → PanelIsTold old → (IsSome old.first → IsSome new.first)
    → (bytes : List ℕ) → GoesOn old.report new.report (outs bytes)
    → (x : PanelExchange) × PanelTells old new x
panel_tells old new is still bytes wrote =
    let first = some_value old.first is.first in
    let left = some_value new.first (still is.first) in
    let second = some_value old.second is.second in (
      record {
        stream = first.0;
        unread = left.0;
        seed = second.0;
        talks = new.talks;
        report = bytes;
      },
      record {
        stream = first.1;
        unread = left.1;
        seed = second.1;
        talks = refl;
        report = goes_to old.report new.report (outs bytes) is.report wrote;
      },
    )

-- each of some links told nothing yet
pub told_nothing : {L : Type 0} (talk : L → List TalkEvent) (links : List L)
    → All (λ l. talk l ≡ []) links → (k : ℕ) → k < length (map talk links)
    → get_or (map talk links) k [] ≡ []
told_nothing talk [] all k less = absurd (omega (arith, less))
told_nothing talk (l ∷ links) all k less =
    let inside : k < length (l ∷ links) = omega (arith, less, length-map links talk) in
    get_or-map talk (l ∷ links) k l [] inside ∙ all k l inside

-- the version of a session is that of its task
pub halts_wrote : (version : Version) (depth : ℕ) (stream : List Update) (helpers queries : ℕ)
    (asks : List (Query × List ℕ)) (old new : AllTalks) (blank full : Option (List TalkEvent))
    (status : Status)
    → Halts version depth stream helpers queries asks old new blank full status → Reports blank full
halts_wrote version depth stream helpers queries asks old new blank full
    (statuses.Rejected query round reason) h = (_, h.trail.report)
halts_wrote version depth stream helpers queries asks old new blank full
    (statuses.WriteFault ports.Report) h = (_, h.trail.report)
halts_wrote version depth stream helpers queries asks old new blank full statuses.OutOfMemory
    (inl h) = (_, h.trail.report)
halts_wrote version depth stream helpers queries asks old new blank full statuses.OutOfMemory
    (inr (inl h)) = (_, h.trail.report)
halts_wrote version depth stream helpers queries asks old new blank full statuses.OutOfMemory
    (inr (inr h)) = (_, h.trail.report)
halts_wrote version depth stream helpers queries asks old new blank full
    (statuses.WriteFault ports.First) h = absurd h
halts_wrote version depth stream helpers queries asks old new blank full
    (statuses.WriteFault ports.Second) h = absurd h
halts_wrote version depth stream helpers queries asks old new blank full
    (statuses.WriteFault ports.Keep) h = absurd h
halts_wrote version depth stream helpers queries asks old new blank full _ h = absurd h

module _ (helpers : ℕ) (task : Task) (some : 0 < helpers) (can : CanBeDone task)
    (deep : 1 ≤ task.depth) (most : task.depth ≤ most_depth)
    (room : length task.queries.items ≤ most_queries) (x : PanelExchange) (before now : Counts)
    (no_peer : ¬ Rose before.peer now.peer) (no_keep : ¬ Rose before.keep now.keep)
    (left : Option (List ℕ)) (old : AllTalks) (size : length old ≡ helpers)
    (fresh : (k : ℕ) → k < length old → get_or old k [] ≡ []) where
  -- the panel did not begin
  pub not_begun : (new : AllTalks) → new ≡ x.talks → length new ≡ length old → x.report ≡ []
      → (status : Status)
      → Begins (task_of_seats helpers task) x.stream x.seed left old new helpers (Err status)
      → FaultClause before now status
      → PanelClause helpers task x before now status
  not_begun new told count blank (statuses.TooWide query) (seats, heard, seat, wide_seat, is)
      fault =
      too_wide helpers task x some can deep most room before now old new told size count fresh blank left
      seats heard seat query wide_seat is
  not_begun new told count blank statuses.OutOfMemory begins fault =
      in_part helpers task x some can deep most room before now old new told size count fresh blank begins
  not_begun new told count blank (statuses.BadStream at why) begins fault =
      refused helpers task x some can deep most room before now old new told size count fresh blank
      (statuses.BadStream at why) begins (λ e. cc) fault no_peer no_keep
  not_begun new told count blank statuses.BadSeed begins fault =
      refused helpers task x some can deep most room before now old new told size count fresh blank
      statuses.BadSeed begins (λ e. cc) fault no_peer no_keep
  not_begun new told count blank statuses.SeedSpent begins fault =
      refused helpers task x some can deep most room before now old new told size count fresh blank
      statuses.SeedSpent begins (λ e. cc) fault no_peer no_keep
  not_begun new told count blank (statuses.ReadFault port) begins fault =
      refused helpers task x some can deep most room before now old new told size count fresh blank
      (statuses.ReadFault port) begins (λ e. cc) fault no_peer no_keep
  not_begun new told count blank (statuses.WriteFault port) begins fault =
      refused helpers task x some can deep most room before now old new told size count fresh blank
      (statuses.WriteFault port) begins (λ e. cc) fault no_peer no_keep
  not_begun new told count blank statuses.PeerFault begins fault = absurd (no_peer fault)
  not_begun new told count blank _ begins fault =
      absurd (begins 0 (let first : 0 < length old = omega (arith, size, some) in first))

-- ---- behind the stream

-- The seats that are left to ask stand for the stream: one helper heard it.
pub left_stand : (wide : Task) (bytes seed : List ℕ) (left : Option (List ℕ)) (old mid : AllTalks)
    (seats : Seating) (session : Sitting) → 0 < length old
    → IsHeard wide bytes seed left old mid seats → Starts (version_of wide) seats (Ok session)
    → All (StandsFor session.depth (legal wide bytes)) session.left
left_stand wide bytes seed left old mid seats session some heard starts =
    (seats_left _ _ _ (legal wide bytes) seats _ _ (heard.each 0 some).stand starts).1

module _ {L : Type 0} (talk : L → List TalkEvent) (links begun : List L)
    (kept : length begun ≡ length links) (none : All (λ l. talk l ≡ []) links)
    (task : Task) (some : 0 < length links) (can : CanBeDone task)
    (deep : 1 ≤ task.depth) (most : task.depth ≤ most_depth)
    (room : length task.queries.items ≤ most_queries) (x : PanelExchange) (before now : Counts)
    (left : Option (List ℕ)) (unread : left ≡ Some x.unread)
    (seats : Seating) (heard : IsHeard (task_of_seats (length links) task) x.stream x.seed left
    (map talk links) (map talk begun) seats) (session : Sitting)
    (starts : Starts (version_of (task_of_seats (length links) task)) seats (Ok session))
    (blank full : Option (List TalkEvent))
    (wrote : (bytes : List ℕ) → GoesOn blank full (outs bytes) → x.report ≡ bytes)
    (queries : ℕ) (number : queries ≡ length task.queries.items) where
  abbrev helpers : ℕ
  helpers = length links

  abbrev old : AllTalks
  old = map talk links

  abbrev mid : AllTalks
  mid = map talk begun

  size : length old ≡ helpers
  size = length-map links talk

  count : length mid ≡ length old
  count = told_length talk links begun kept

  fresh : (k : ℕ) → k < length old → get_or old k [] ≡ []
  fresh = told_nothing talk links none

  abbrev OfSession : AllTalks → Result ℕ Status → Type 0
  OfSession new r =
      Trails session.version session.depth (legal task x.stream) helpers queries
      (asks_left session.left) mid new blank full r

  -- said in the task's own terms
  abbrev OfTask : AllTalks → Result ℕ Status → Type 0
  OfTask new r =
      Trails (version_of task) task.depth (legal task x.stream) helpers (length task.queries.items)
      (asks_left session.left) mid new blank full r

  in_terms : (new : AllTalks) (r : Result ℕ Status) → OfSession new r → OfTask new r
  in_terms new r trails =
      let v : session.version ≡ version_of task =
      version_is helpers task x some can deep most room before now left unread old mid size count fresh
      seats heard session starts in
      let d : session.depth ≡ task.depth =
      depth_is helpers task x some can deep most room before now left unread old mid size count fresh
      seats heard session starts in
      subst (λ (n : ℕ). Trails (version_of task) task.depth (legal task x.stream) helpers n
      (asks_left session.left) mid new blank full r) number
      (subst (λ (n : ℕ). Trails (version_of task) n (legal task x.stream) helpers queries
      (asks_left session.left) mid new blank full r) d
      (subst (λ (w : Version). Trails w session.depth (legal task x.stream) helpers queries
      (asks_left session.left) mid new blank full r) v trails))

  -- a helper could not be asked any more
  pub stopped_asking : (asked : List L) → length asked ≡ length begun → map talk asked ≡ x.talks
      → (status : Status) → OfSession (map talk asked) (Err status) → FaultClause before now status
      → PanelClause helpers task x before now status
  stopped_asking asked still told status trails fault =
      halted helpers task x some can deep most room before now left unread old mid size count fresh seats
      heard session starts blank full wrote (map talk asked) told (told_length talk begun asked still)
      status (in_terms (map talk asked) (Err status) trails) fault

  -- all were answered, and the farewell was said, or cut short
  pub said_farewell : (asked ended : List L) → length asked ≡ length begun
      → length ended ≡ length asked → map talk ended ≡ x.talks
      → (gone : ℕ) → OfSession (map talk asked) (Ok gone)
      → (sent : Result (Unit {0}) PortStop) (r : Result (Unit {0}) Status) → OnLink sent r
      → sent ≢ Err port_stops.Failed
      → SaysBehind gone (map talk asked) (map talk ended)
      (spelling (version_of task) messages.Bye) sent
      → PanelClause helpers task x before now (status_of r)
  said_farewell asked ended still kept_on told gone trails (Ok u) (Ok v) on never each =
      all_answered helpers task x some can deep most room before now left unread old mid size count fresh
      seats heard session starts blank full wrote (map talk asked) (map talk ended) told
      (told_length talk begun asked still) (told_length talk asked ended kept_on) gone
      (in_terms (map talk asked) (Ok gone) trails) u each
  said_farewell asked ended still kept_on told gone trails (Ok u) (Err status) (port, is, same)
      never each = absurd cc
  said_farewell asked ended still kept_on told gone trails (Err e) (Ok v) on never each = absurd cc
  said_farewell asked ended still kept_on told gone trails (Err port_stops.Failed) (Err status) on
      never each = absurd (never refl)
  said_farewell asked ended still kept_on told gone trails (Err port_stops.OutOfMemory) (Err status)
      (port, is, same) never each =
      let stop : port_stops.OutOfMemory ≡ port = err_same port is in
      subst (λ (s : Status). PanelClause helpers task x before now s)
      (sym (same ∙ ap status_of_link (sym stop)))
      (cut_in_farewell helpers task x some can deep most room before now left unread old mid size count fresh
      seats heard session starts blank full wrote (map talk asked) (map talk ended) told
      (told_length talk begun asked still) (told_length talk asked ended kept_on) gone
      (in_terms (map talk asked) (Ok gone) trails) port_stops.OutOfMemory each)
    where
      err_same : (port : PortStop)
          → ◌≡◌ {A = Result (Unit {0}) PortStop} (Err port_stops.OutOfMemory) (Err port)
          → port_stops.OutOfMemory ≡ port
      err_same port is = cc

-- the statuses of the farewell
pub farewell_listed : (before now : Counts) (sent : Result (Unit {0}) PortStop)
    (r : Result (Unit {0}) Status) → OnLink sent r → sent ≢ Err port_stops.Failed
    → FaultClause before now (status_of r) × IsListed (status_of r)
farewell_listed before now (Ok u) (Ok v) on never = (tt, refl)
farewell_listed before now (Ok u) (Err status) (port, is, same) never = absurd cc
farewell_listed before now (Err e) (Ok v) on never = absurd cc
farewell_listed before now (Err e) (Err status) (port_stops.Failed, is, same) never =
    absurd (never is)
farewell_listed before now (Err e) (Err status) (port_stops.OutOfMemory, is, same) never =
    subst (λ (s : Status). FaultClause before now s × IsListed s) (sym same) (tt, refl)

-- a helper that stopped asking, by counts since the beginning
pub asking_stops : (first firsts second seconds report reports : ℕ) (status : Status)
    → Stops stops_asking (counts 0 0 0 report 0) (counts 0 0 0 reports 0) {T = ℕ} (Err status)
    → FaultClause (counts first second 0 report 0) (counts firsts seconds 0 reports 0) status
    × IsListed status
asking_stops first firsts second seconds report reports status stops = (
  caused_by (counts 0 0 0 report 0) (counts 0 0 0 reports 0) (counts first second 0 report 0)
      (counts firsts seconds 0 reports 0) never_rose never_rose never_rose (λ r. r) never_rose
      status stops.1,
  asking_listed status stops.0,
)

-- a panel that did not begin, by the counts of its report too
pub beginning_stops : (first firsts second seconds report reports : ℕ) (status : Status)
    → FaultClause (counts first second 0 0 0) (counts firsts seconds 0 0 0) status
    → FaultClause (counts first second 0 report 0) (counts firsts seconds 0 reports 0) status
beginning_stops first firsts second seconds report reports status fault =
    caused_by (counts first second 0 0 0) (counts firsts seconds 0 0 0)
    (counts first second 0 report 0) (counts firsts seconds 0 reports 0) (λ r. r) (λ r. r)
    never_rose never_rose never_rose status fault

-- whatever the ports tell, no link has a fault, and no record of the talk
module _ (first firsts second seconds report reports : ℕ) (status : Status)
    (fault : FaultClause (counts first second 0 report 0) (counts firsts seconds 0 reports 0)
    status) where
  pub no_peer_fault : status ≢ statuses.PeerFault
  no_peer_fault is =
      never_rose (subst (λ (s : Status).
      FaultClause (counts first second 0 report 0) (counts firsts seconds 0 reports 0) s) is
      fault)

  pub no_keep_fault : status ≢ statuses.WriteFault ports.Keep
  no_keep_fault is =
      never_rose (subst (λ (s : Status).
      FaultClause (counts first second 0 report 0) (counts firsts seconds 0 reports 0) s) is
      fault)
