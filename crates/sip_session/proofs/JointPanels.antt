-- The joint count of a panel's seats: where the line of an attempt has a wrong answer, the
-- challenges of all seats are among the vectors that are counted.
use Rattle.std.proofs.Common.{◌≡◌, ℕ, suc, ◌+◌, ◌-◌, ◌*◌, ◌^◌, ◌<◌, ◌≤◌, ◌==◌, Bool, true, false, Option, List, [], ◌∷◌, length, map, All, Some, None, inl, inr, if◌then◌else◌, refl, sym, ap, subst, ◌∙◌, arith}
use Rattle.std.specs.Prelude.{slice_get, slice_index_or}
use Rattle.std.specs.List.{enumerate_from, zip}
use Rattle.std.proofs.lemmas.Bool.{eqb-true}
use Rattle.std.proofs.lemmas.Option.{same_Some}
use Rattle.std.proofs.lemmas.List.Elements.{All-head, All-tail}
use Rattle.sip_field.specs.Moduli.{m61_modulus}
use Rattle.sip_stream.proofs.LegalRecords.{records_legal}
use Rattle.sip_vector.specs.declared.query.Query.{Query}
use Rattle.sip_vector.specs.declared.update.Update.{Update}
use Rattle.sip_vector.specs.Answers.{Fits}
use Rattle.sip_vector.specs.Pieces.{cut}
use Rattle.sip_vector.specs.Streams.{IsLegal}
use Rattle.sip_counts.specs.Joint.{misled, bounds}
use Rattle.sip_counts.specs.Strategies.{Strategy, IsOfBytes}
use Rattle.sip_wire.specs.declared.version.Version.{Version}
use Rattle.sip_verifier.specs.CountClause.{Written}
use Rattle.sip_verifier.specs.Draws.{drawn}
use Rattle.sip_verifier.specs.Exchanges.{Exchange}
use Rattle.sip_verifier.specs.Gathering.{legal}
use Rattle.sip_verifier.specs.Inquiries.{Inquiry}
use Rattle.sip_verifier.specs.JointClause.{all_asked, JointClause}
use Rattle.sip_verifier.specs.Kinds.{OfKind}
use Rattle.sip_verifier.specs.Tasks.{CanBeDone, version_of}
use Rattle.sip_verifier.specs.declared.status.Status.TheVariants as statuses
use Rattle.sip_verifier.specs.declared.task.Task.{Task}
use Rattle.sip_verifier.proofs.JointReports.{Fine, Right, misled_by, task_counted}
use Rattle.sip_session.specs.inside.Beginning.{task_of_seats}
use Rattle.sip_session.specs.PanelCounts.{JointCountOnPanel, seats_written, unwritten, written_at, written_or}
use Rattle.sip_session.specs.PanelExchanges.{PanelExchange}
use Rattle.sip_session.specs.Panels as panels
use Rattle.sip_session.specs.Panels.{Attempt, AreAttempts, IsJudged, Outcome, inquiry_of_seats, seat_at, seat_blocks, seat_queries}
use Rattle.sip_session.proofs.Begun.{wide_done}
use Rattle.sip_session.proofs.Seats.{All-seats, get_seat, needed-seats}

-- ---- the lines of seats

module _ (version : Version) (depth : ℕ) (stream : List Update) (legal : IsLegal depth stream) where
  module _ (helpers : ℕ) where
    -- the line of a seat
    abbrev At : List Attempt → ℕ → Query → List ℕ → Type 0
    At attempts n q b =
        let w : Written = written_at helpers n (unwritten depth stream (q, b)) attempts in
        (w.question.query ≡ q) × (w.question.block ≡ b) × Right version depth stream legal w

    -- an attempt at this seat asks its query at its block
    abbrev Asks : ℕ → Query → List ℕ → Attempt → Type 0
    Asks n q b a = seat_at helpers a.turn ≡ n → (a.question.query ≡ q) × (a.question.block ≡ b)

    abbrev Line : Query → List ℕ → Written → Type 0
    Line q b w =
        (w.question.query ≡ q) × (w.question.block ≡ b) × Right version depth stream legal w

    by_outcome : (n : ℕ) (q : Query) (b : List ℕ) (a : Attempt) → Asks n q b a
        → seat_at helpers a.turn ≡ n → (o : Outcome) → IsJudged version depth stream a.question o
        → Line q b (written_or (unwritten depth stream (q, b)) a.question o)
    by_outcome n q b a asks is (panels.accepted given) judged = let asked = asks is in
        (asked.0, asked.1, inl judged)
    by_outcome n q b a asks is (panels.rejected fault) judged = (refl, refl, inr refl)

    by_test : (n : ℕ) (q : Query) (b : List ℕ) (a : Attempt) (rest : Written) (t : Bool)
        → (seat_at helpers a.turn == n) ≡ t → Asks n q b a
        → IsJudged version depth stream a.question a.outcome → Line q b rest
        → Line q b (if t then written_or (unwritten depth stream (q, b)) a.question a.outcome
        else rest)
    by_test n q b a rest true is asks judged line =
        by_outcome n q b a asks (eqb-true (seat_at helpers a.turn) n is) a.outcome judged
    by_test n q b a rest false is asks judged line = line

    written_right : (n : ℕ) (q : Query) (b : List ℕ) (attempts : List Attempt)
        → All (Asks n q b) attempts
        → All (λ (a : Attempt). IsJudged version depth stream a.question a.outcome) attempts
        → At attempts n q b
    written_right n q b [] asks judged = (refl, refl, inr refl)
    written_right n q b (a ∷ attempts) asks judged =
        by_test n q b a (written_at helpers n (unwritten depth stream (q, b)) attempts)
        (seat_at helpers a.turn == n) refl (All-head (Asks n q b) a attempts asks)
        (All-head (λ (a : Attempt). IsJudged version depth stream a.question a.outcome) a attempts
        judged)
        (written_right n q b attempts (All-tail (Asks n q b) a attempts asks)
        (All-tail (λ (a : Attempt). IsJudged version depth stream a.question a.outcome) a
        attempts judged))

    -- so are the lines of all seats from one on
    lines_fine : (attempts : List Attempt) (from : ℕ) (queries : List Query)
        (blocks : List (List ℕ))
        → ((k : ℕ) (q : Query) (b : List ℕ) → slice_get queries k ≡ Some q
        → slice_get blocks k ≡ Some b → At attempts (from + k) q b)
        → Fine version depth stream legal
        (map (λ s. written_at helpers s.0 (unwritten depth stream s.1) attempts)
        (enumerate_from from (zip queries blocks))) queries blocks
    lines_fine attempts from [] blocks at = tt
    lines_fine attempts from (q ∷ queries) [] at = tt
    lines_fine attempts from (q ∷ queries) (b ∷ blocks) at =
        let first =
        subst (λ m. At attempts m q b) (let e : from + 0 ≡ from = omega arith in e)
        (at 0 q b refl refl) in (
          first.0,
          first.1,
          first.2,
          lines_fine attempts (from + 1) queries blocks
              (λ k u v qs bs. subst (λ m. At attempts m u v)
              (let e : from + suc k ≡ from + 1 + k = omega arith in e) (at (suc k) u v qs bs)),
        )

-- ---- a panel

module _ (helpers : ℕ) (task : Task) (x : PanelExchange) (some : 0 < helpers)
    (can : CanBeDone task) (deep : 1 ≤ task.depth) where
  abbrev i : Inquiry
  i = inquiry_of_seats helpers task x.seed

  abbrev wide : Task
  wide = task_of_seats helpers task

  fits : All (Fits task.depth) (seat_queries helpers task.queries.items)
  fits = All-seats (Fits task.depth) helpers task.queries.items (λ k d less. (can.asked k d less).1)

  -- each attempt asks the query of its seat at its block
  asks_seat : (attempts : List Attempt) → AreAttempts helpers task x.seed x.stream attempts
      → (n : ℕ) (q : Query) (b : List ℕ)
      → slice_get (seat_queries helpers task.queries.items) n ≡ Some q
      → slice_get (seat_blocks i) n ≡ Some b
      → All (Asks (version_of task) task.depth (legal task x.stream)
      (records_legal task.depth task.form x.stream) helpers n q b) attempts
  asks_seat attempts are n q b is at = λ k d less here.
      let of = are.of_turn k d less in
      let turn = (slice_index_or attempts k d).turn in
      let same : slice_get (seat_queries helpers task.queries.items)
      (seat_at helpers turn) ≡ slice_get task.queries.items (turn.number - 1) =
      get_seat helpers (turn.helper - 1) task.queries.items (turn.number - 1)
      (let within = of.helper in omega (arith, within)) in
      let query =
      sym of.query ∙ sym same ∙ ap (slice_get (seat_queries helpers task.queries.items)) here
      ∙ is in
      let block = sym of.block ∙ ap (slice_get (seat_blocks i)) here ∙ at in
      (same_Some _ _ query, same_Some _ _ block)

  -- its lines are fine
  all_fine : (attempts : List Attempt) → AreAttempts helpers task x.seed x.stream attempts
      → Fine (version_of task) task.depth (legal task x.stream)
      (records_legal task.depth task.form x.stream) (seats_written helpers task x attempts)
      (seat_queries helpers task.queries.items) (seat_blocks i)
  all_fine attempts are =
      lines_fine (version_of task) task.depth (legal task x.stream)
      (records_legal task.depth task.form x.stream) helpers attempts 0
      (seat_queries helpers task.queries.items) (seat_blocks i)
      (λ k q b is at. subst (λ m. At (version_of task) task.depth (legal task x.stream)
      (records_legal task.depth task.form x.stream) helpers attempts m q b)
      (let e : k ≡ 0 + k = omega arith in e)
      (written_right (version_of task) task.depth (legal task x.stream)
      (records_legal task.depth task.form x.stream) helpers k q b attempts
      (asks_seat attempts are k q b is at) are.judged))

  -- ---- the bound, as of a run over all seats

  wide_can : CanBeDone wide
  wide_can = wide_done helpers task some can

  -- an exchange with the same input, on which nothing was said
  abbrev silent : Exchange
  silent =
      record {
        stream = x.stream;
        unread = x.unread;
        seed = x.seed;
        talk = [];
        report = [];
        kept = None;
      }

  abbrev OfVersion : Version → Inquiry
  OfVersion v =
      record {
        version = v;
        depth = task.depth;
        form = task.form;
        queries = seat_queries helpers task.queries.items;
        challenges = drawn wide x.seed;
      }

  module _ where
    run_clause : JointClause (OfVersion (version_of wide)) silent
        (task_counted wide silent wide_can deep statuses.BadSeed refl refl).0.lines
    run_clause = (task_counted wide silent wide_can deep statuses.BadSeed refl refl).1

  abbrev Few : Version → Type 0
  Few v = All (λ q. OfKind v task.depth (legal task x.stream) q (λ kind. kind.CanBeCounted))
      (seat_queries helpers task.queries.items) → (strategy : Strategy) → IsOfBytes strategy
      → misled m61_modulus task.depth strategy
      (all_asked v task.depth (legal task x.stream) (seat_queries helpers task.queries.items))
      ≤ bounds (all_asked v task.depth (legal task x.stream)
      (seat_queries helpers task.queries.items)) * m61_modulus ^
      (length (seat_queries helpers task.queries.items) * task.depth - 1)

  few_here : Few (version_of task)
  few_here = subst Few (needed-seats task.depth helpers task.queries.items some) run_clause.few

  pub joint_counted : (attempts : List Attempt) → AreAttempts helpers task x.seed x.stream attempts
      → JointCountOnPanel helpers task x attempts
  joint_counted attempts are = record {
    few = few_here;
    vector =
        λ challenges is. record {
          size = (run_clause.vector challenges is).size;
          below = (run_clause.vector challenges is).below;
        };
    counted = λ challenges is strategy talk.
        let fine =
        subst (λ (o : Option (List ℕ)).
        Fine (version_of task) task.depth (legal task x.stream)
        (records_legal task.depth task.form x.stream)
        (seats_written helpers task x attempts)
        (seat_queries helpers task.queries.items)
        (elim o [
          | Some challenges ↦ cut task.depth challenges
          | None ↦
              []
        ])) is (all_fine attempts are) in
        misled_by (version_of task) task.depth (legal task x.stream)
        (records_legal task.depth task.form x.stream) strategy
        (seats_written helpers task x attempts) (seat_queries helpers task.queries.items)
        [] challenges _ fine fits talk;
  }
