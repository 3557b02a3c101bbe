-- What one helper heard of a stream that is sent to several: of what a call did on all links, this
-- is
-- what it did on one.
use Rattle.std.proofs.Common.{◌≡◌, ◌≢◌, ℕ, ◌+◌, ◌<◌, ◌⊎◌, List, [], ◌∷◌, ◌++◌, length, take, get_or, Option, Some, None, Result, Ok, Err, inl, inr, refl, sym, ap, ◌∙◌, subst, arith, take_all, take_at, append-nil, append_assoc, length-append, true}
use Rattle.std.specs.Prelude.{IsTrue, if◌then◌else◌}
use Rattle.std.proofs.Math.Seq.{take-append-add}
use Rattle.std.proofs.lemmas.Bool.{cases_lt, eq-eqb, ne_eqb}
use Rattle.std.proofs.lemmas.List.{take-append-le}
use Rattle.sip_ports.proofs.TalkLemmas.{outs-append}
use Rattle.std.specs.Io.KnownBytes.{Consumes}
use Rattle.sip_ports.specs.declared.port.PortStop.{PortStop}
use Rattle.sip_ports.specs.declared.port.PortStop.TheVariants as port_stops
use Rattle.sip_ports.specs.declared.port.TalkEvent.{TalkEvent}
use Rattle.sip_ports.specs.Ports.{SendsWhole, outs}
use Rattle.sip_stream.specs.declared.fault.StreamFault.{StreamFault}
use Rattle.sip_stream.specs.declared.fault.StreamFault.TheVariants as faults
use Rattle.sip_stream.specs.declared.form.Form.{Form}
use Rattle.sip_stream.specs.Reading.{HasRead, IsAfter, Reading, Reads}
use Rattle.sip_vector.specs.declared.query.Query.{Query}
use Rattle.sip_vector.specs.declared.update.Update.{Update}
use Rattle.sip_wire.specs.declared.version.Version.{Version}
use Rattle.sip_wire.specs.declared.message.Message.TheVariants as messages
use Rattle.sip_wire.specs.Spelling.{spelling}
use Rattle.sip_wire.specs.Table.{most_rows}
use Rattle.sip_wire.specs.Versions.{number_of}
use Rattle.sip_verifier.specs.declared.status.Port.TheVariants as ports
use Rattle.sip_verifier.specs.declared.status.Status.{Status}
use Rattle.sip_verifier.specs.declared.status.Status.TheVariants as statuses
use Rattle.sip_verifier.specs.declared.task.Task.{Task}
use Rattle.sip_verifier.specs.declared.weights.Weights.{Weights}
use Rattle.sip_verifier.specs.Draws.{blocks}
use Rattle.sip_verifier.specs.Feeding.{due_at_end, due_with, fills, waiting_with}
use Rattle.sip_verifier.specs.Gathering.{IsCut, IsPassedOn}
use Rattle.sip_verifier.specs.inside.Drawing.{Draws, HasDrawn}
use Rattle.sip_verifier.specs.inside.Ending.{status_of_link, status_of_stream}
use Rattle.sip_verifier.specs.inside.Passing.{taken_with}
use Rattle.sip_verifier.specs.inside.Sending.{IsSentBut, IsStopped}
use Rattle.sip_verifier.specs.Snapshots.{counts}
use Rattle.sip_verifier.specs.Seats.{AreSeats, Seating}
use Rattle.sip_verifier.specs.Statuses.{FaultClause, stops_following}
use Rattle.sip_verifier.specs.Tasks.{version_of}
use Rattle.sip_verifier.specs.Talks.{stream_sent}
use Rattle.sip_verifier.proofs.Gathered.{IsUnderway, begins, goes_on, goes_on_many, passed_on, reading_stops, refuses, stops_after, stops_at_end, stops_first}
use Rattle.sip_verifier.proofs.StreamSending as sending
use Rattle.sip_verifier.proofs.StreamSending.{at_end, one_more, opened, stopped, stopped_in_opening}
use Rattle.sip_session.specs.inside.Beginning.{GathersAll, IsHeard}
use Rattle.sip_session.specs.inside.Hearing.{AllTalks, Each, HearsStream, IsPassedInPart, Says, SaysAll}

-- What one more update brings. Where it fills the frame, the frame goes out, and the seats take it.
module _ (waiting : List Update) (u : Update) where
  fills_then : length (waiting ++ u ∷ []) ≡ 512 → fills waiting ≡ true
  fills_then is = eq-eqb (length waiting + 1) 512 (sym (length-append waiting (u ∷ [])) ∙ is)

  pub due_full : (version : Version) → length (waiting ++ u ∷ []) ≡ 512
      → due_with version waiting u ≡ spelling version
      (messages.Updates (record { items = waiting ++ u ∷ [] }))
  due_full version is =
      ap (λ b. if b then spelling version (messages.Updates (record { items = waiting ++ u ∷ [] }))
      else []) (fills_then is)

  taken_full : length (waiting ++ u ∷ []) ≡ 512 → taken_with waiting u ≡ waiting ++ u ∷ []
  taken_full is = ap (λ b. if b then waiting ++ u ∷ [] else []) (fills_then is)

  -- the seats took a block that is the whole frame
  pub seats_took : (pushed block : List Update) (depth : ℕ) (queries : List Query)
      (blocks_of : List (List ℕ)) (stream : List Update) (seats : Seating)
      → pushed ≡ waiting ++ u ∷ [] → length pushed ≡ 512 → block ≡ waiting ++ u ∷ []
      → AreSeats depth queries blocks_of (stream ++ block) seats
      → AreSeats depth queries blocks_of (stream ++ taken_with waiting u) seats
  seats_took pushed block depth queries blocks_of stream seats is full all are =
      subst (λ l. AreSeats depth queries blocks_of (stream ++ l) seats)
      (all ∙ sym (taken_full (sym (ap length is) ∙ full))) are

  -- where it does not, nothing goes out
  pub due_nothing : (version : Version) → length (waiting ++ u ∷ []) ≢ 512
      → due_with version waiting u ≡ []
  due_nothing version other =
      ap (λ b. if b then spelling version (messages.Updates (record { items = waiting ++ u ∷ [] }))
      else [])
      (ne_eqb (length waiting + 1) 512 (λ e. other (length-append waiting (u ∷ []) ∙ e)))

-- ---- one send

-- a whole write on a link that tells
pub sends_says : (old new : List TalkEvent) (bytes : List ℕ) (r : Result (Unit {0}) PortStop)
    → SendsWhole (Some old) (Some new) r bytes → Says old new bytes r
sends_says old new bytes (Ok x) went = went
sends_says old new bytes (Err e) went = (went.0, went.2)

-- a part of it may be all of it
whole_or_cut : (old new : List TalkEvent) (bytes : List ℕ) (e : PortStop)
    → Says old new bytes (Err e)
    → SendsWhole {T = Unit {0}} {E = PortStop} (Some old) (Some new) (Ok tt) bytes
    ⊎ SendsWhole {T = Unit {0}} (Some old) (Some new) (Err e) bytes
whole_or_cut old new bytes e (n, went) = elim (cases_lt n (length bytes)) [
  | inl less ↦ inr (n, less, went)
  | inr all ↦ inl (went ∙ ap (λ l. old ++ outs l) (take_all n bytes all))
]

-- two sends in turn, the first of which sent all
pub says_then : (old mid new : List TalkEvent) (xs ys : List ℕ) (r : Result (Unit {0}) PortStop)
    → mid ≡ old ++ outs xs → Says mid new ys r → Says old new (xs ++ ys) r
says_then old mid new xs ys (Ok x) front went =
    went ∙ ap (λ l. l ++ outs ys) front ∙ append_assoc old (outs xs) (outs ys)
    ∙ ap (λ l. old ++ l) (sym (outs-append xs ys))
says_then old mid new xs ys (Err e) front (n, went) = (
  length xs + n,
  went ∙ ap (λ l. l ++ outs (take n ys)) front ∙ append_assoc old (outs xs) (outs (take n ys))
      ∙ ap (λ l. old ++ l) (sym (outs-append xs (take n ys)))
      ∙ ap (λ l. old ++ outs l) (sym (take-append-add xs ys n)),
)

-- the first one stopped
pub says_short : (old new : List TalkEvent) (xs ys : List ℕ) (e : PortStop)
    → Says old new xs (Err e) → Says old new (xs ++ ys) (Err e)
says_short old new xs ys e (n, went) = elim (cases_lt n (length xs)) [
  | inl less ↦ (n, went ∙ ap (λ l. old ++ outs l) (sym (take-append-le n xs ys (omega arith))))
  | inr all ↦ (
    length xs,
    went ∙ ap (λ l. old ++ outs l) (take_all n xs all
        ∙ sym (take_at xs ys (length xs) refl)),
  )
]

-- nothing was sent
pub says_nothing : (talk : List TalkEvent) → Says talk talk [] (Ok tt)
says_nothing talk = sym (append-nil talk)

-- ---- on all links

-- two sends in turn, the first of which sent all on each
pub all_then : (old mid new : AllTalks) (xs ys : List ℕ) (r : Result (Unit {0}) PortStop)
    → length mid ≡ length old → SaysAll old mid xs (Ok tt) → SaysAll mid new ys r
    → SaysAll old new (xs ++ ys) r
all_then old mid new xs ys r count front went =
    λ k less. says_then (get_or old k []) (get_or mid k []) (get_or new k []) xs ys r (front k less)
    (went k (omega (arith, count, less)))

-- the first one stopped on some link
pub all_short : (old new : AllTalks) (xs ys : List ℕ) (e other : PortStop)
    → SaysAll old new xs (Err e) → SaysAll old new (xs ++ ys) (Err other)
all_short old new xs ys e other went =
    λ k less. says_short (get_or old k []) (get_or new k []) xs ys e (went k less)

-- bytes that are the same
pub all_same : (old new : AllTalks) (xs ys : List ℕ) (r : Result (Unit {0}) PortStop) → xs ≡ ys
    → SaysAll old new xs r → SaysAll old new ys r
all_same old new xs ys r same went = subst (λ bytes. SaysAll old new bytes r) same went

-- nothing was sent on any
pub all_nothing : (talks : AllTalks) → SaysAll talks talks [] (Ok tt)
all_nothing talks = λ k less. says_nothing (get_or talks k [])

-- ---- the stream, on one link

-- what a call read behind a stream that is under way, by the depth and the form of the task
pub reads_on : (task : Task) (bytes : List ℕ) (at_blocks : List (List ℕ))
    (left left' : Option (List ℕ)) (start now : Option (List TalkEvent)) (reader : Reading)
    (seats : Seating) (waiting : List Update)
    (so : IsUnderway task bytes at_blocks left start now reader seats waiting)
    (r s : Result (Option Update) StreamFault)
    → reader.depth ≡ task.depth → reader.form ≡ task.form → r ≡ s
    → ((before : List Update) (rest : List ℕ) → IsAfter reader before → left ≡ Some rest
    → Reads reader.depth reader.form before rest left' r)
    → Reads task.depth task.form so.stream so.rest left' s
reads_on task bytes at_blocks left left' start now reader seats waiting so r s depth form is reads =
    subst (λ (d : ℕ). Reads d task.form so.stream so.rest left' s) depth
    (subst (λ (f : Form). Reads reader.depth f so.stream so.rest left' s) form
    (subst (λ (x : Result (Option Update) StreamFault).
    Reads reader.depth reader.form so.stream so.rest left' x) is
    (reads so.stream so.rest so.after so.to_come)))

module _ (task : Task) (bytes : List ℕ) (start : List TalkEvent) (first : Seating)
    (at_blocks : List (List ℕ))
    (has : AreSeats task.depth task.queries.items at_blocks [] first) where
  -- a talk that was cut went on in part
  pub in_part : (now : List TalkEvent) → IsCut task bytes (Some start) (Some now)
      → IsPassedInPart task bytes start now
  in_part now cut = record {
    said = cut.said;
    talk = cut.talk;
    order = cut.order;
    illegal = cut.illegal;
  }

  -- the opening
  pub part_first : (now : List TalkEvent) (e : PortStop)
      → Says start now (spelling (version_of task)
      (messages.Open (number_of (version_of task)) task.depth)) (Err e)
      → IsPassedInPart task bytes start now
  part_first now e (n, went) = in_part now (stops_first task bytes (Some start) first at_blocks has
      (Some now) (stopped_in_opening (version_of task) task.depth (Some start) (Some now) n went))

  module _ (left left' : Option (List ℕ)) (now new : List TalkEvent) (reader : Reading)
      (seats : Seating) (waiting : List Update)
      (so : IsUnderway task bytes at_blocks left (Some start) (Some now) reader seats waiting) where
    -- one more update came, and was sent
    pub on_said : (u : Update) → Says now new (due_with (version_of task) waiting u) (Ok tt)
        → sending.IsPassedOn (version_of task) task.depth (Some start) (Some now)
        (Some new) so.stream waiting u so.said (taken_with waiting u) (waiting_with waiting u)
    on_said u went = one_more (version_of task) task.depth (Some start) (Some now)
        (Some new) so.stream waiting u so.said (Ok tt) went

    -- it was cut short on some link
    pub part_after : (u : Update) (e : PortStop)
        → Reads task.depth task.form so.stream so.rest left' (Ok (Some u))
        → Says now new (due_with (version_of task) waiting u) (Err e)
        → IsPassedInPart task bytes start new
    part_after u e reads said =
        let stop : IsStopped (version_of task) task.depth (Some start) (Some new)
        (so.stream ++ u ∷ []) =
        elim (whole_or_cut now new (due_with (version_of task) waiting u) e said) [
          | inl went ↦ stopped (version_of task) task.depth (Some start) (Some new)
              (so.stream ++ u ∷ []) (waiting_with waiting u) (on_said u went).said
          | inr went ↦ one_more (version_of task) task.depth (Some start) (Some now)
              (Some new) so.stream waiting u so.said (Err e) went
        ] in
        in_part new (stops_after task bytes (Some start) first at_blocks has left left' (Some now)
        (Some new) reader seats waiting u so reads stop)

    -- the rest and the end were sent
    pub on_end : (seats' : Seating) → Reads task.depth task.form so.stream so.rest left' (Ok None)
        → Says now new (due_at_end (version_of task) waiting) (Ok tt)
        → AreSeats task.depth task.queries.items at_blocks (so.said.sent ++ waiting) seats'
        → IsPassedOn task bytes at_blocks left' (Some start) (Some new) seats'
    on_end seats' reads went stand =
        passed_on task bytes (Some start) first at_blocks has left left' (Some now)
        (Some new) reader seats seats' waiting so reads
        (at_end (version_of task) task.depth (Some start) (Some now) (Some new) so.stream waiting
        (Ok tt) so.said went) stand

    -- they were cut short on some link
    pub part_at_end : (seats' : Seating) (e : PortStop)
        → Reads task.depth task.form so.stream so.rest left' (Ok None)
        → Says now new (due_at_end (version_of task) waiting) (Err e)
        → AreSeats task.depth task.queries.items at_blocks (so.said.sent ++ waiting) seats'
        → IsPassedInPart task bytes start new
    part_at_end seats' e reads said stand =
        elim (whole_or_cut now new (due_at_end (version_of task) waiting) e said) [
          | inl went ↦
              let all = on_end seats' reads went stand in
              record {
                said = stream_sent (version_of task) task.depth _;
                talk = all.talk;
                order = ([], sym (append-nil _));
                illegal = λ no. absurd (no all.to_end);
              }
          | inr went ↦
              let stop = at_end (version_of task) task.depth (Some start) (Some now)
              (Some new) so.stream waiting (Err e) so.said went in
              in_part new (stops_at_end task bytes (Some start) first at_blocks has left left'
              (Some now) (Some new) reader seats waiting so reads stop)
        ]

  -- before the first record
  pub heard_first : (left : Option (List ℕ)) (now : List TalkEvent) (reader : Reading)
      (waiting : List Update) → left ≡ Some bytes → IsAfter reader [] → waiting ≡ []
      → Says start now (spelling (version_of task)
      (messages.Open (number_of (version_of task)) task.depth)) (Ok tt)
      → IsUnderway task bytes at_blocks left (Some start) (Some now) reader first waiting
  heard_first left now reader waiting all after none went =
      begins task bytes (Some start) first at_blocks has left (Some now) reader waiting all after
      (subst (IsSentBut (version_of task) task.depth (Some start) (Some now) []) (sym none)
      (opened (version_of task) task.depth (Some start) (Some now) went))

  -- after one more record was passed on, and those that the source held were read
  pub heard_more : (left left' last : Option (List ℕ)) (now new : List TalkEvent)
      (reader reader' later : Reading) (seats seats' : Seating)
      (waiting waiting' more us : List Update) (u : Update) (taken : List ℕ)
      (so : IsUnderway task bytes at_blocks left (Some start) (Some now) reader seats waiting)
      → Reads task.depth task.form so.stream so.rest left' (Ok (Some u))
      → IsAfter reader' (so.stream ++ u ∷ [])
      → Says now new (due_with (version_of task) waiting u) (Ok tt)
      → AreSeats task.depth task.queries.items at_blocks (so.said.sent ++ taken_with waiting u)
      seats' → waiting' ≡ waiting_with waiting u
      → reader'.depth ≡ task.depth → reader'.form ≡ task.form → HasRead reader' later taken us
      → Consumes left' last taken → more ≡ waiting' ++ us → length more < most_rows
      → IsUnderway task bytes at_blocks last (Some start) (Some new) later seats' more
  heard_more left left' last now new reader reader' later seats seats' waiting waiting' more us u
      taken so reads after went stand same depth form had took grown few =
      let moved = on_said left left' now new reader seats waiting so u went in
      let placed = subst (λ l. AreSeats task.depth task.queries.items at_blocks l seats')
      (sym moved.longer) stand in
      let next = subst (IsUnderway task bytes at_blocks left' (Some start)
      (Some new) reader' seats') (sym same)
      (goes_on task bytes (Some start) first at_blocks has left left' (Some now)
      (Some new) reader reader' seats seats' waiting (waiting_with waiting u) u so reads after
      moved.said placed) in
      goes_on_many task bytes (Some start) first at_blocks has left' last
      (Some new) reader' later seats' waiting' more us taken next depth form had took grown few

  -- no record was read
  pub stream_stops : (left left' : Option (List ℕ)) (now : List TalkEvent) (reader : Reading)
      (seats last : Seating) (waiting : List Update) (fault : StreamFault)
      (so : IsUnderway task bytes at_blocks left (Some start) (Some now) reader seats waiting)
      → Reads task.depth task.form so.stream so.rest left' (Err fault)
      → HearsStream task bytes at_blocks left' last {T = Weights} (Err (status_of_stream fault))
      start now
  stream_stops left left' now reader seats last waiting (faults.Bad at why) so reads =
      reading_stops task bytes (Some start) first at_blocks has left left'
      (Some now) reader seats waiting (faults.Bad at why) so reads
  stream_stops left left' now reader seats last waiting faults.ReadFault so reads =
      reading_stops task bytes (Some start) first at_blocks has left left'
      (Some now) reader seats waiting faults.ReadFault so reads
  stream_stops left left' now reader seats last waiting faults.OutOfMemory so reads =
      in_part now (reading_stops task bytes (Some start) first at_blocks has left left'
      (Some now) reader seats waiting faults.OutOfMemory so reads)

-- a link stops for want of memory alone
pub link_stops : (task : Task) (bytes : List ℕ) (at_blocks : List (List ℕ)) (left : Option (List ℕ))
    (seats : Seating) (start now : List TalkEvent) (r : Result (Unit {0}) PortStop)
    (port : PortStop) → r ≡ Err port → r ≢ Err port_stops.Failed
    → IsPassedInPart task bytes start now
    → HearsStream task bytes at_blocks left seats {T = Weights} (Err (status_of_link port)) start
    now
link_stops task bytes at_blocks left seats start now r port_stops.Failed is never part =
    absurd (never is)
link_stops task bytes at_blocks left seats start now r port_stops.OutOfMemory is never part = part

-- so its stop is one that the stream may have, and no port failed
pub link_listed : (first firsts : ℕ) (sent : Result (Unit {0}) PortStop) (port : PortStop)
    → sent ≡ Err port → sent ≢ Err port_stops.Failed
    → IsTrue (stops_following (status_of_link port)) × FaultClause (counts first 0 0 0 0)
    (counts firsts 0 0 0 0) (status_of_link port)
link_listed first firsts sent port_stops.Failed is never = absurd (never is)
link_listed first firsts sent port_stops.OutOfMemory is never = (refl, tt)

-- ---- behind the draw

module _ (wide : Task) (bytes seed : List ℕ) (left : Option (List ℕ)) where
  -- there are no challenges, and nothing was said
  nothing_said : (talk : List TalkEvent) → IsPassedInPart wide bytes talk talk
  nothing_said talk = record {
    said = [];
    talk = sym (append-nil talk);
    order = (_, refl);
    illegal = λ no. (_, refl);
  }

  pub draw_stops : (old : AllTalks) (status : Status) → Draws wide seed (Err status)
      → GathersAll wide bytes seed left old old (Err status)
  draw_stops old statuses.BadSeed draws = λ k less. (draws, refl)
  draw_stops old statuses.SeedSpent draws = λ k less. (draws.0, draws.1, refl)
  draw_stops old (statuses.ReadFault ports.Second) draws = λ k less. refl
  draw_stops old (statuses.ReadFault ports.First) draws = absurd draws
  draw_stops old (statuses.ReadFault ports.Report) draws = absurd draws
  draw_stops old (statuses.ReadFault ports.Keep) draws = absurd draws
  draw_stops old statuses.OutOfMemory draws = λ k less. nothing_said _
  draw_stops old _ draws = absurd draws

  module _ (first : Seating) (has : HasDrawn wide seed first) (old new : AllTalks) where
    -- the stream was not passed on
    pub follow_stops : (seats : Seating) (status : Status)
        → Each (λ _ o n. HearsStream wide bytes (blocks wide has.challenges) left seats
        {T = Weights} (Err status) o n) old new
        → GathersAll wide bytes seed left old new (Err status)
    follow_stops seats (statuses.BadStream at why) stops =
        λ k less. refuses wide bytes seed first has (Some _) (Some _) (statuses.BadStream at why)
        (stops k less)
    follow_stops seats (statuses.ReadFault ports.First) stops =
        λ k less. refuses wide bytes seed first has (Some _) (Some _)
        (statuses.ReadFault ports.First) (stops k less)
    follow_stops seats statuses.PeerFault stops =
        λ k less. refuses wide bytes seed first has (Some _) (Some _) statuses.PeerFault
        (stops k less)
    follow_stops seats statuses.OutOfMemory stops = stops
    follow_stops seats (statuses.ReadFault ports.Second) stops = λ k less. absurd (stops k less)
    follow_stops seats (statuses.ReadFault ports.Report) stops = λ k less. absurd (stops k less)
    follow_stops seats (statuses.ReadFault ports.Keep) stops = λ k less. absurd (stops k less)
    follow_stops seats _ stops = λ k less. absurd (stops k less)

    -- it was
    pub all_heard : (seats : Seating)
        → Each (λ _ o n. IsPassedOn wide bytes (blocks wide has.challenges) left (Some o)
        (Some n) seats) old new → IsHeard wide bytes seed left old new seats
    all_heard seats each = record { challenges = has.challenges; draws = has.draws; each = each }
