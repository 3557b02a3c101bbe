-- What a panel promises at each of its ends.
use Rattle.std.proofs.Common.{◌≡◌, ◌≢◌, ℕ, suc, ◌-◌, ◌<◌, ◌≤◌, ◌==◌, Bool, true, false, ◌&&◌, Option, Some, None, Ok, Err, List, [], ◌∷◌, ◌++◌, length, map, take, drop, get_or, if◌then◌else◌, inl, inr, refl, sym, ap, ◌∙◌, subst, arith, append-nil, take-append-drop}
use Rattle.std.specs.Prelude.{option_map, slice_get}
use Rattle.std.proofs.lemmas.Bool.{cases_lt, le-leb, lt-ltb, lt-leb}
use Rattle.std.proofs.lemmas.List.Elements.{All-nil, All-weaker}
use Rattle.std.proofs.lemmas.Option.{slice_get-map, same_Some}
use Rattle.sip_ports.specs.declared.port.PortStop.{PortStop}
use Rattle.sip_ports.specs.declared.port.TalkEvent.{TalkEvent}
use Rattle.sip_ports.specs.Ports.{GoesOn, Rose, outs}
use Rattle.sip_ports.proofs.TalkLemmas.{outs-append}
use Rattle.sip_replies.specs.Talks.{IsPrefix}
use Rattle.sip_stream.specs.declared.why.Why.{Why}
use Rattle.sip_stream.specs.Records.{records}
use Rattle.sip_stream.proofs.LegalRecords.{records_legal}
use Rattle.sip_vector.specs.declared.query.Query.{Query}
use Rattle.sip_vector.specs.declared.update.Update.{Update}
use Rattle.sip_vector.specs.Limits.{most_depth}
use Rattle.sip_vector.specs.Pieces.{cut}
use Rattle.sip_wire.specs.declared.version.Version.{Version}
use Rattle.sip_wire.specs.declared.message.Message.TheVariants as messages
use Rattle.sip_wire.specs.Spelling.{spelling}
use Rattle.sip_wire.specs.Table.{most_queries}
use Rattle.sip_verifier.specs.declared.status.Port.TheVariants as ports
use Rattle.sip_verifier.specs.declared.status.Status.{Status}
use Rattle.sip_verifier.specs.declared.status.Status.TheVariants as statuses
use Rattle.sip_verifier.specs.declared.task.Task.{Task}
use Rattle.sip_verifier.specs.Draws.{blocks}
use Rattle.sip_verifier.specs.Gathering.{EndsLegally, HasSeed, IsPassedOn, Refuses, before_end, legal}
use Rattle.sip_verifier.specs.Snapshots.{Counts}
use Rattle.sip_verifier.specs.Questions.{Question, asking}
use Rattle.sip_verifier.specs.QuerySeats.{Seated}
use Rattle.sip_verifier.specs.runs.CauseClause.{CanBeJudged, CauseClause}
use Rattle.sip_verifier.specs.Seats.{Seating}
use Rattle.sip_verifier.specs.Sittings.{Sitting, Starts, asks_left}
use Rattle.sip_verifier.specs.Statuses.{FaultClause}
use Rattle.sip_verifier.specs.Talks.{bye_sent, opening_sent, stream_sent, whole_frames}
use Rattle.sip_verifier.specs.Tasks.{CanBeDone, version_of}
use Rattle.sip_verifier.specs.Widths.{first_wide_seat}
use Rattle.sip_verifier.proofs.RunTalks.{front_before}
use Rattle.sip_verifier.proofs.WideSeats.{first_is}
use Rattle.sip_session.specs.inside.Beginning.{IsHeard, query_of_seat, task_of_seats}
use Rattle.sip_session.specs.inside.Hearing.{AllTalks, Each, IsPassedInPart, SaysBehind}
use Rattle.sip_session.specs.inside.Trying.{Halts, IsSeated, Trail, TrailsInLine, TrailsTo, turn_at}
use Rattle.sip_session.specs.PanelClause.{PanelClause}
use Rattle.sip_session.specs.PanelEnds.{CutInLine, Ends, MayHear, NoneAsked, OfEach, Went, all_sent, due, said_to}
use Rattle.sip_session.specs.PanelExchanges.{PanelExchange, without_links}
use Rattle.sip_session.specs.Panels.{Attempt, AreAttempts, IsJudged, IsOfTurn, Turn, are_answered, first_turn, inquiry_of_panel, is_left, seat_at, seat_queries, turn_behind}
use Rattle.sip_session.proofs.Asked.{ask_of}
use Rattle.sip_session.proofs.HonestAnswers.{answers_are_own}
use Rattle.sip_session.proofs.HonestAttempts.{none_or_said}
use Rattle.sip_session.proofs.HonestCarried.{carried}
use Rattle.sip_session.proofs.HonestDropped.{dropped_rightly}
use Rattle.sip_session.proofs.JointPanels.{joint_counted}
use Rattle.sip_session.proofs.Seats.{first_query, get_seat, needed-seats, no_query}

-- none was asked
no_attempts : (helpers : ℕ) (task : Task) (seed bytes : List ℕ)
    → AreAttempts helpers task seed bytes []
no_attempts helpers task seed bytes = record {
  in_turn = tt;
  of_turn = All-nil (λ (a : Attempt). IsOfTurn helpers task seed bytes a.turn a.question);
  judged =
      All-nil (λ (a : Attempt). IsJudged (version_of task) task.depth (legal task bytes) a.question
      a.outcome);
}

abbrev no_events : List TalkEvent
no_events = []

none_either : (b : Bool) → (if b then no_events else no_events) ≡ no_events
none_either true = refl
none_either false = refl

module _ (helpers : ℕ) (task : Task) (x : PanelExchange) (some : 0 < helpers)
    (can : CanBeDone task) (deep : 1 ≤ task.depth) (most : task.depth ≤ most_depth)
    (room : length task.queries.items ≤ most_queries) (before now : Counts) where
  abbrev wide : Task
  wide = task_of_seats helpers task

  abbrev stream : List Update
  stream = legal task x.stream

  same_version : version_of wide ≡ version_of task
  same_version = needed-seats task.depth helpers task.queries.items some

  same_sent : stream_sent (version_of wide) task.depth stream ≡ all_sent helpers task x
  same_sent = ap (λ (v : Version). stream_sent v task.depth stream) same_version

  same_before : before_end wide x.stream ≡ before_end task x.stream
  same_before = ap (λ (v : Version). opening_sent v task.depth (whole_frames stream)) same_version

  abbrev Cause : Status → Type 0
  Cause status =
      CauseClause asking (inquiry_of_panel helpers task x.seed) (without_links x) before now status

  abbrev Clause : Status → Type 0
  Clause status = PanelClause helpers task x before now status

  -- the queries may be asked
  abbrev Judged : Type 0
  Judged = CanBeJudged asking (inquiry_of_panel helpers task x.seed) (without_links x)

  pub clause : (attempts : List Attempt) (status : Status)
      → AreAttempts helpers task x.seed x.stream attempts → Ends helpers task x attempts status
      → Cause status → (attempts ≢ [] → Judged) → Clause status
  clause attempts status are ends cause asked =
      record {
        attempts = attempts;
        are = are;
        ends = ends;
        cause = cause;
        asked = asked;
        joint = joint_counted helpers task x some can deep attempts are;
        rightly =
            dropped_rightly helpers task x deep most room can attempts are asked
            (none_or_said helpers task x attempts status ends);
        carried = λ one good none.
            carried helpers task x deep most room can attempts are good before now status ends
            cause none;
        own = answers_are_own helpers task x deep most room can attempts status are asked ends;
      }

  -- no helper was asked
  unasked : (status : Status) → Ends helpers task x [] status → Cause status → Clause status
  unasked status ends cause =
      clause [] status (no_attempts helpers task x.seed x.stream) ends cause
      (λ any. absurd (any refl))

  is_drawn : HasSeed wide x.stream x.seed → (inquiry_of_panel helpers task x.seed).challenges ≢ None
  is_drawn seed none = let drawn_is = seed.1 in cc

  -- ---- before the first attempt

  module _ (old new : AllTalks) (told : new ≡ x.talks) (size : length old ≡ helpers)
      (count : length new ≡ length old) (fresh : (k : ℕ) → k < length old → get_or old k [] ≡ [])
      (blank : x.report ≡ []) where
    -- this holds of each helper's talk
    each_talk : (holds : ℕ → List TalkEvent → Type 0)
        → ((k : ℕ) → k < length old → holds (suc k) (get_or new k [])) → OfEach helpers task x holds
    each_talk holds each = (
      ap (λ (l : AllTalks). length l) (sym told) ∙ count ∙ size,
      λ place less. subst (λ (l : AllTalks). holds (suc place) (get_or l place [])) told
          (each place (omega (arith, size, less))),
    )

    -- nothing moved on a link
    still : (k : ℕ) → k < length old → Some (get_or new k []) ≡ Some (get_or old k [])
        → get_or new k [] ≡ []
    still k less same = same_Some _ _ same ∙ fresh k less

    -- this was said on a link
    said_on : (k : ℕ) → k < length old → (said : List TalkEvent)
        → get_or new k [] ≡ get_or old k [] ++ said → get_or new k [] ≡ said
    said_on k less said is = is ∙ ap (λ l. l ++ said) (fresh k less)

    first : 0 < length old
    first = omega (arith, size, some)

    pub refused : (status : Status)
        → Each (λ _ o n. Refuses wide x.stream x.seed (Some o) (Some n) status) old new
        → status ≢ statuses.OutOfMemory
        → FaultClause before now status → ¬ Rose before.peer now.peer → ¬ Rose before.keep now.keep
        → Clause status
    refused statuses.BadSeed each not_memory fault no_peer no_keep =
        unasked statuses.BadSeed (record {
          none = refl;
          talks = each_talk (λ _ talk. talk ≡ []) (λ k less. still k less (each k less).1);
          report = blank;
        }) (each 0 first).0
    refused statuses.SeedSpent each not_memory fault no_peer no_keep =
        unasked statuses.SeedSpent (record {
          none = refl;
          talks = each_talk (λ _ talk. talk ≡ []) (λ k less. still k less (each k less).2);
          report = blank;
        })
        ((each 0 first).0, (each 0 first).1)
    refused (statuses.BadStream at why) each not_memory fault no_peer no_keep =
        unasked (statuses.BadStream at why)
        (record {
          none = refl;
          talks =
              each_talk (λ _ talk. talk ≡ before_end task x.stream)
              (λ k less. said_on k less _ (each k less).1.2 ∙ same_before);
          report = blank;
        })
        (is_drawn (each 0 first).0, (each 0 first).1.0, (each 0 first).1.1)
    refused (statuses.ReadFault ports.First) each not_memory fault no_peer no_keep =
        unasked (statuses.ReadFault ports.First)
        (record {
          none = refl;
          talks = each_talk (λ _ talk. IsPrefix talk (before_end task x.stream)) (λ k less.
              let cut = (each k less).1 in
              subst (λ l. IsPrefix l (before_end task x.stream))
              (sym (said_on k less cut.said cut.talk))
              (subst (IsPrefix cut.said) same_before cut.order));
          report = blank;
        })
        (is_drawn (each 0 first).0, fault)
    refused (statuses.ReadFault ports.Second) each not_memory fault no_peer no_keep =
        unasked (statuses.ReadFault ports.Second)
        (record {
          none = refl;
          talks = each_talk (λ _ talk. talk ≡ []) (λ k less. still k less (each k less));
          report = blank;
        }) fault
    refused statuses.PeerFault each not_memory fault no_peer no_keep = absurd (no_peer fault)
    refused (statuses.WriteFault ports.Keep) each not_memory fault no_peer no_keep =
        absurd (no_keep fault)
    refused statuses.OutOfMemory each not_memory fault no_peer no_keep = absurd (not_memory refl)
    refused (statuses.ReadFault ports.Report) each not_memory fault no_peer no_keep =
        absurd (each 0 first)
    refused (statuses.ReadFault ports.Keep) each not_memory fault no_peer no_keep =
        absurd (each 0 first)
    refused (statuses.WriteFault ports.First) each not_memory fault no_peer no_keep =
        absurd (each 0 first)
    refused (statuses.WriteFault ports.Second) each not_memory fault no_peer no_keep =
        absurd (each 0 first)
    refused (statuses.WriteFault ports.Report) each not_memory fault no_peer no_keep =
        absurd (each 0 first)
    refused _ each not_memory fault no_peer no_keep = absurd (each 0 first)

    -- memory ran out while the stream was sent, or before or just after
    pub in_part : Each (λ _ o n. IsPassedInPart wide x.stream o n) old new
        → Clause statuses.OutOfMemory
    in_part each =
        unasked statuses.OutOfMemory (inl
        (by_fault (records task.depth task.form x.stream).fault refl)) tt
      where
        front : (most : List TalkEvent)
            → ((k : ℕ) (less : k < length old) → IsPrefix (each k less).said most)
            → NoneAsked helpers task x [] most
        front most fronts = record {
          none = refl;
          talks = each_talk (λ _ talk. IsPrefix talk most)
              (λ k less. subst (λ l. IsPrefix l most)
              (sym (said_on k less (each k less).said (each k less).talk)) (fronts k less));
          report = blank;
        }

        by_fault : (f : Option Why) → (records task.depth task.form x.stream).fault ≡ f
            → (most : List TalkEvent) × MayHear helpers task x most
            × NoneAsked helpers task x [] most
        by_fault None is = (
          all_sent helpers task x,
          (λ whole. refl, λ not. absurd (not is)),
          front (all_sent helpers task x)
              (λ k less. subst (IsPrefix (each k less).said) same_sent (each k less).order),
        )
        by_fault (Some why) is =
            let illegal : ¬ EndsLegally task x.stream = λ whole. absurd cc in (
              before_end task x.stream,
              (λ whole. absurd (illegal whole), λ not. refl),
              front (before_end task x.stream)
                  (λ k less. subst (IsPrefix (each k less).said) same_before
                  ((each k less).illegal illegal)),
            )

    -- a query may be too wide
    pub too_wide : (left : Option (List ℕ)) (seats : Seating)
        → IsHeard wide x.stream x.seed left old new seats → (seat query : ℕ)
        → first_wide_seat seats.seats ≡ Some seat → query ≡ query_of_seat helpers seat
        → Clause (statuses.TooWide query)
    too_wide left seats heard seat query wide_seat is =
        let passed = heard.each 0 first in
        let legal_items = (records_legal task.depth task.form x.stream).items in
        let narrow =
        sym (first_is task.depth (seat_queries helpers task.queries.items)
        (blocks wide heard.challenges) stream seats passed.stand legal_items) ∙ wide_seat in
        unasked (statuses.TooWide query)
        (record {
          none = refl;
          talks =
              each_talk (λ _ talk. talk ≡ all_sent helpers task x)
              (λ k less. said_on k less _ (heard.each k less).talk ∙ same_sent);
          report = blank;
        }) (
          (is_drawn (heard.challenges, heard.draws), passed.to_end),
          first_query stream helpers some task.queries.items seat narrow ∙ ap Some (sym is),
        )

-- ---- behind the stream

module _ (helpers : ℕ) (task : Task) (x : PanelExchange) (some : 0 < helpers)
    (can : CanBeDone task) (deep : 1 ≤ task.depth) (most : task.depth ≤ most_depth)
    (room : length task.queries.items ≤ most_queries) (before now : Counts)
    (left : Option (List ℕ)) (unread : left ≡ Some x.unread) (old mid : AllTalks)
    (size : length old ≡ helpers) (count : length mid ≡ length old)
    (fresh : (k : ℕ) → k < length old → get_or old k [] ≡ [])
    (seats : Seating) (heard : IsHeard (task_of_seats helpers task) x.stream x.seed left old mid
    seats) (session : Sitting) (starts : Starts (version_of (task_of_seats helpers task)) seats
    (Ok session)) where
  abbrev all_seats : Task
  all_seats = task_of_seats helpers task

  abbrev U : List Update
  U = legal task x.stream

  abbrev asks : List (Query × List ℕ)
  asks = asks_left session.left

  zero_less : 0 < length old
  zero_less = omega (arith, size, some)

  passed : IsPassedOn all_seats x.stream (blocks all_seats heard.challenges) left
      (Some (get_or old 0 [])) (Some (get_or mid 0 [])) seats
  passed = heard.each 0 zero_less

  -- what the session has to ask
  asked_queries : map (λ (s : Seated). s.query) session.left ≡ seat_queries helpers
      task.queries.items
  asked_queries =
      ap (λ (l : List Seated). map (λ (s : Seated). s.query) l) starts.2 ∙ passed.stand.asked

  asked_blocks : map (λ (s : Seated). s.block) session.left ≡ cut task.depth heard.challenges
  asked_blocks =
      ap (λ (l : List Seated). map (λ (s : Seated). s.block) l) starts.2 ∙ passed.stand.at_blocks

  pub version_is : session.version ≡ version_of task
  version_is = starts.0 ∙ needed-seats task.depth helpers task.queries.items some

  pub depth_is : session.depth ≡ task.depth
  depth_is = starts.1 ∙ passed.stand.levels

  -- what each helper heard
  mid_is : (k : ℕ) → k < length old → get_or mid k [] ≡ all_sent helpers task x
  mid_is k less =
      (heard.each k less).talk ∙ ap (λ l. l ++ stream_sent (version_of all_seats) task.depth U)
      (fresh k less)
      ∙ ap (λ (v : Version). stream_sent v task.depth U)
      (needed-seats task.depth helpers task.queries.items some)

  -- the seed and the stream are good, and no answer may be too wide
  can_be_judged : CanBeJudged asking (inquiry_of_panel helpers task x.seed) (without_links x)
  can_be_judged =
      let items = (records_legal task.depth task.form x.stream).items in
      let narrow =
      sym (first_is task.depth (seat_queries helpers task.queries.items)
      (blocks all_seats heard.challenges) U seats passed.stand items) ∙ starts.5 in (
        ((λ none. let drawn_is = heard.draws in cc), passed.to_end),
        no_query U helpers some task.queries.items narrow,
      )

  -- the question of a turn
  of_turn : (turn : Turn) (q : Question) → IsSeated helpers (length task.queries.items) asks turn q
      → IsOfTurn helpers task x.seed x.stream turn q
  of_turn turn q s =
      let k : ℕ = seat_at helpers turn in
      let query : slice_get (seat_queries helpers task.queries.items) k ≡ Some q.query =
      ap (λ (l : List Query). slice_get l k) (sym asked_queries)
      ∙ slice_get-map (λ (s : Seated). s.query) session.left k
      ∙ first_of (slice_get session.left k)
      (sym (slice_get-map ask_of session.left k) ∙ s.seat) in
      let block : slice_get (cut task.depth heard.challenges) k ≡ Some q.block =
      ap (λ (l : List (List ℕ)). slice_get l k) (sym asked_blocks)
      ∙ slice_get-map (λ (s : Seated). s.block) session.left k
      ∙ second_of (slice_get session.left k)
      (sym (slice_get-map ask_of session.left k) ∙ s.seat) in
      record {
        helper = s.helper;
        number = s.number;
        query = sym (get_seat helpers (turn.helper - 1) task.queries.items (turn.number - 1)
            (let within = s.helper in omega (arith, within))) ∙ query;
        block = ap (λ (o : Option (List ℕ)).
            slice_get (elim o [ Some challenges ↦ cut task.depth challenges | None ↦ [] ]) k)
            heard.draws ∙ block;
      }
    where
      first_of : (o : Option Seated) → option_map ask_of o ≡ Some (q.query, q.block)
          → option_map (λ (s : Seated). s.query) o ≡ Some q.query
      first_of None e = absurd cc
      first_of (Some s) e =
          ap (λ (o : Option (Query × List ℕ)). option_map (λ (p : Query × List ℕ). p.0) o) e

      second_of : (o : Option Seated) → option_map ask_of o ≡ Some (q.query, q.block)
          → option_map (λ (s : Seated). s.block) o ≡ Some q.block
      second_of None e = absurd cc
      second_of (Some s) e =
          ap (λ (o : Option (Query × List ℕ)). option_map (λ (p : Query × List ℕ). p.1) o) e

  -- ---- attempts

  module _ (new : AllTalks) (blank full : Option (List TalkEvent)) where
    abbrev Trailed : List Attempt → (ℕ → List TalkEvent → Type 0) → List ℕ → Type 0
    Trailed attempts rest written =
        Trail (version_of task) task.depth U helpers (length task.queries.items) asks mid new blank
        full attempts rest written

    are_attempts : (attempts : List Attempt) (rest : ℕ → List TalkEvent → Type 0)
        (written : List ℕ) → Trailed attempts rest written
        → AreAttempts helpers task x.seed x.stream attempts
    are_attempts attempts rest written t = record {
      in_turn = t.in_turn;
      of_turn =
          All-weaker (λ (a : Attempt). IsSeated helpers (length task.queries.items) asks a.turn
          a.question) (λ (a : Attempt).
          IsOfTurn helpers task x.seed x.stream a.turn a.question)
          (λ a s. of_turn a.turn a.question s) attempts t.seats;
      judged = t.judged;
    }

    module _ (last : AllTalks) (told : last ≡ x.talks) (sized : length new ≡ length mid)
        (long : length last ≡ length new) where
      -- what one helper heard since the stream was sent, from the opening on
      from_opening : (k : ℕ) → k < length mid → (said more : List TalkEvent)
          → get_or last k [] ≡ get_or mid k [] ++ said ++ more
          → get_or last k [] ≡ all_sent helpers task x ++ said ++ more
      from_opening k inside said more is =
          is ∙ ap (λ l. l ++ said ++ more) (mid_is k (omega (arith, count, inside)))

      -- what each helper heard at the end, behind this
      went : (attempts : List Attempt) (rest after : ℕ → List TalkEvent → Type 0)
          (written : List ℕ) → Trailed attempts rest written
          → ((k : ℕ) (more : List TalkEvent) → k < length new → rest (suc k) more
          → (all : List TalkEvent) × after (suc k) all
          × (get_or new k [] ≡ get_or mid k [] ++ said_to (version_of task) task.depth U
          (suc k) attempts ++ more
          → get_or last k [] ≡ get_or mid k [] ++ said_to (version_of task)
          task.depth U (suc k) attempts ++ all))
          → Went helpers task x attempts after
      went attempts rest after written t behind = record {
        to_end = passed.to_end;
        read = same_Some x.unread [] (sym unread ∙ passed.read);
        talks = (
          ap (λ (l : AllTalks). length l) (sym told) ∙ long ∙ sized ∙ count ∙ size,
          λ place less. subst (λ (l : AllTalks). (more : List TalkEvent)
              × (get_or l place [] ≡ all_sent helpers task x ++ said_to (version_of task)
              task.depth U (suc place) attempts ++ more) × after (suc place) more) told
              (let inside : place < length mid = omega (arith, size, count, less) in
              let had = t.talks place inside in
              let all = behind place had.0 (omega (arith, inside, sized)) had.1 in
              let said = said_to (version_of task) task.depth U (suc place) attempts in
              (all.0, from_opening place inside said all.0 (all.2 had.2), all.1)),
        );
      }

  -- ---- how the attempts end

  module _ (blank full : Option (List TalkEvent))
      (wrote : (bytes : List ℕ) → GoesOn blank full (outs bytes) → x.report ≡ bytes) where
    abbrev Promise : Status → Type 0
    Promise status = PanelClause helpers task x before now status

    module _ (new : AllTalks) (told : new ≡ x.talks) (sized : length new ≡ length mid) where
      abbrev To : List Attempt → (ℕ → List TalkEvent → Type 0) → List ℕ → Type 0
      To attempts rest written =
          Trail (version_of task) task.depth U helpers (length task.queries.items) asks mid new
          blank full attempts rest written

      to_went : (attempts : List Attempt) (rest : ℕ → List TalkEvent → Type 0) (written : List ℕ)
          → To attempts rest written → Went helpers task x attempts rest
      to_went attempts rest written t =
          went new blank full new told sized refl attempts rest rest written t
          (λ k more less is. (more, is, λ e. e))

      promise : (attempts : List Attempt) (rest : ℕ → List TalkEvent → Type 0) (written : List ℕ)
          (status : Status) → To attempts rest written → Ends helpers task x attempts status
          → CauseClause asking (inquiry_of_panel helpers task x.seed) (without_links x) before now
          status → Promise status
      promise attempts rest written status t ends cause =
          clause helpers task x some can deep most room before now attempts status
          (are_attempts new blank full attempts rest written t) ends cause
          (λ any. can_be_judged)

      -- a front of the last line was written
      line_cut : (h : TrailsInLine (version_of task) task.depth U helpers
          (length task.queries.items) asks mid new blank full)
          → CutInLine helpers task x (h.before ++ h.last ∷ [])
      line_cut h = record {
        before = h.before;
        last = h.last;
        are = refl;
        went = to_went _ _ _ h.trail;
        part = h.part;
        front = h.front;
        report = wrote _ h.trail.report;
      }

      pub halted : (status : Status)
          → Halts (version_of task) task.depth U helpers (length task.queries.items) asks mid new
          blank full status → FaultClause before now status → Promise status
      halted (statuses.Rejected query round reason) h fault =
          promise (h.before ++ h.last ∷ []) (λ helper more. more ≡ []) _
          (statuses.Rejected query round reason) h.trail
          (record {
            before = h.before;
            last = h.last;
            are = refl;
            turn = h.turn;
            outcome = h.outcome;
            went = to_went _ _ _ h.trail;
            report = wrote _ h.trail.report;
          })
          can_be_judged
      halted (statuses.WriteFault ports.Report) h fault =
          promise (h.before ++ h.last ∷ []) (λ helper more. more ≡ []) _
          (statuses.WriteFault ports.Report) h.trail (line_cut h) (can_be_judged, fault)
      halted statuses.OutOfMemory (inl h) fault =
          promise (h.before ++ h.last ∷ []) (λ helper more. more ≡ []) _ statuses.OutOfMemory
          h.trail (inr (inr (inl (line_cut h)))) tt
      halted statuses.OutOfMemory (inr (inl h)) fault =
          promise h.attempts _ _ statuses.OutOfMemory h.trail
          (inr (inl (record {
            current = Some h.current;
            of_turn = of_turn (turn_behind first_turn h.attempts) h.current h.seat;
            waits = h.waits;
            went = went new blank full new told sized refl h.attempts _
                (λ helper more. IsPrefix more
                (due helpers task x (turn_behind first_turn h.attempts) (Some h.current)
                helper)) _ h.trail
                (λ k more less is. (more, front_before more _ _ is, λ e. e));
            report = wrote _ h.trail.report;
          }))) tt
      halted statuses.OutOfMemory (inr (inr h)) fault =
          promise h.attempts _ _ statuses.OutOfMemory h.trail
          (inr (inr (inr (record {
            last = h.last;
            ended = h.ended;
            of_turn = of_turn (turn_behind first_turn h.attempts) h.last h.seat;
            unjudged = h.unjudged;
            went = to_went _ _ _ h.trail;
            report = wrote _ h.trail.report;
          })))) tt
      halted (statuses.WriteFault ports.First) h fault = absurd h
      halted (statuses.WriteFault ports.Second) h fault = absurd h
      halted (statuses.WriteFault ports.Keep) h fault = absurd h
      halted _ h fault = absurd h

    -- all queries were answered, and the farewell was said to those that are left, or a front of it
    module _ (new last : AllTalks) (told : last ≡ x.talks) (sized : length new ≡ length mid)
        (long : length last ≡ length new) (gone : ℕ)
        (to : TrailsTo (version_of task) task.depth U helpers (length task.queries.items) asks mid
        new blank full (turn_at gone (length task.queries.items))) where
      abbrev turn : Turn
      turn = turn_behind first_turn to.attempts

      answered : are_answered turn task.queries.items ≡ true
      answered =
          ap (λ (t : Turn). are_answered t task.queries.items) to.behind
          ∙ lt-ltb (length task.queries.items) (suc (length task.queries.items)) (omega arith)

      left_is : (k : ℕ) → gone ≤ k → is_left turn (suc k) ≡ true
      left_is k least =
          ap (λ (t : Turn). is_left t (suc k)) to.behind ∙ le-leb (suc gone) (suc k) (omega arith)

      left_not : (k : ℕ) → k < gone → is_left turn (suc k) ≡ false
      left_not k less =
          ap (λ (t : Turn). is_left t (suc k)) to.behind ∙ lt-leb (suc gone) (suc k) (omega arith)

      -- what was said on a link up to the end of the attempts, and more
      abbrev behind_attempts : ℕ → List TalkEvent → List TalkEvent
      behind_attempts k more =
          get_or mid k [] ++ said_to (version_of task) task.depth U (suc k) to.attempts ++ more

      -- this is what each helper heard behind its attempts
      abbrev Parts : (ℕ → List TalkEvent → Type 0) → Type 0
      Parts after = (k : ℕ) → k < length new → (more : List TalkEvent) → more ≡ []
          → (all : List TalkEvent) × after (suc k) all
          × (get_or new k [] ≡ behind_attempts k more → get_or last k [] ≡ behind_attempts k all)

      -- a helper that was dropped heard nothing
      dropped_hears : (k : ℕ) (more : List TalkEvent) → more ≡ [] → get_or last k [] ≡ get_or new k []
          → get_or new k [] ≡ behind_attempts k more → get_or last k [] ≡ behind_attempts k []
      dropped_hears k more none same e = same ∙ e ∙ ap (behind_attempts k) none

      -- one that is left heard these bytes
      left_hears : (k : ℕ) (more : List TalkEvent) (bytes : List ℕ) → more ≡ []
          → get_or last k [] ≡ get_or new k [] ++ outs bytes
          → get_or new k [] ≡ behind_attempts k more
          → get_or last k [] ≡ behind_attempts k (outs bytes)
      left_hears k more bytes none said e =
          said ∙ ap (λ l. l ++ outs bytes) (e ∙ ap (behind_attempts k) none ∙ append-nil _)

      -- what a helper that is left hears in the farewell, and another one does not
      abbrev farewell : Bool → List TalkEvent
      farewell b = if b then bye_sent (version_of task) else []

      abbrev bye : List ℕ
      bye = spelling (version_of task) messages.Bye

      pub all_answered : (u : Unit {0}) → SaysBehind gone new last bye (Ok u)
          → Promise statuses.Accepted
      all_answered u each =
          clause helpers task x some can deep most room before now to.attempts statuses.Accepted
          (are_attempts new blank full to.attempts _ _ to.trail)
          (record {
            all = ap (λ (t : Turn). t.number) to.behind;
            went = went new blank full last told sized long to.attempts _
                (λ helper more. more ≡ farewell (is_left turn helper)) _ to.trail
                (λ k more less none. parts k less more none);
            report = wrote _ to.trail.report;
          }) can_be_judged (λ any. can_be_judged)
        where
          parts : Parts (λ helper more. more ≡ farewell (is_left turn helper))
          parts k less more none = elim (cases_lt k gone) [
            | inl before ↦ (
              [],
              ap farewell (sym (left_not k before)),
              dropped_hears k more none ((each k less).0 before),
            )
            | inr behind ↦ (
              bye_sent (version_of task),
              ap farewell (sym (left_is k behind)),
              λ e. left_hears k more bye none ((each k less).1 behind) e
                  ∙ ap (λ l. behind_attempts k (outs l)) (sym (append-nil bye)),
            )
          ]

      pub cut_in_farewell : (stop : PortStop) → SaysBehind gone new last bye (Err stop)
          → Promise statuses.OutOfMemory
      cut_in_farewell stop each =
          clause helpers task x some can deep most room before now to.attempts statuses.OutOfMemory
          (are_attempts new blank full to.attempts _ _ to.trail)
          (inr (inl (record {
            current = None;
            of_turn = tt;
            waits = tt;
            went = went new blank full last told sized long to.attempts _
                (λ helper more. IsPrefix more (due helpers task x turn None helper)) _ to.trail
                (λ k more less none. parts k less more none);
            report = wrote _ to.trail.report;
          }))) tt (λ any. can_be_judged)
        where
          parts : Parts (λ helper more. IsPrefix more (due helpers task x turn None helper))
          parts k less more none = elim (cases_lt k gone) [
            | inl before ↦ ([], (_, refl), dropped_hears k more none ((each k less).0 before))
            | inr behind ↦
                let said = (each k less).1 behind in
                let whole : due helpers task x turn None (suc k) ≡ bye_sent (version_of task) =
                ap (λ (b : Bool). (if turn.helper == suc k then [] else []) ++ farewell b)
                (ap (λ (b : Bool). b && is_left turn (suc k)) answered ∙ left_is k behind)
                ∙ ap (λ l. l ++ bye_sent (version_of task))
                (none_either (turn.helper == suc k)) in (
                  outs (take said.0 bye),
                  (
                    outs (drop said.0 bye),
                    whole ∙ ap outs (append-nil bye)
                        ∙ ap outs (sym (take-append-drop said.0 bye))
                        ∙ outs-append (take said.0 bye) (drop said.0 bye),
                  ),
                  left_hears k more (take said.0 bye) none said.1,
                )
          ]
