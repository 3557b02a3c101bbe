-- The promises where a run ends at its queries or behind them.
use Rattle.std.proofs.Common.{◌≡◌, ◌≢◌, ℕ, suc, Bool, Option, Some, None, Result, Ok, Err, List, [], ◌∷◌, ◌++◌, length, drop, refl, sym, ap, subst, ◌∙◌, inl, inr, append_assoc, append-nil, take, take-append-drop}
use Rattle.std.specs.Prelude.{flat_map, ◌⊎◌, if◌then◌else◌, IsTrue}
use Rattle.std.proofs.lemmas.Bool.Decides.{Decides-eqb}
use Rattle.std.proofs.lemmas.List.{length-map, map-append}
use Rattle.sip_ports.specs.declared.port.PortStop.{PortStop}
use Rattle.sip_ports.specs.declared.port.PortStop.TheVariants as port_stops
use Rattle.sip_ports.specs.declared.port.TalkEvent.{TalkEvent}
use Rattle.sip_ports.specs.Ports.{GoesOn, Rose, SendsWhole, outs}
use Rattle.sip_ports.proofs.TalkLemmas.{GoesOn-refl, GoesOn-trans, outs-append}
use Rattle.sip_replies.specs.Replies.{Fault}
use Rattle.sip_replies.specs.Talks.{IsPrefix, ending}
use Rattle.sip_vector.specs.Pieces.{cut}
use Rattle.sip_wire.specs.declared.message.Reason.{Reason}
use Rattle.sip_verifier.specs.declared.status.Port.TheVariants as ports
use Rattle.sip_verifier.specs.declared.status.Status.{Status}
use Rattle.sip_verifier.specs.declared.status.Status.TheVariants as statuses
use Rattle.sip_verifier.specs.Exchanges.{Exchange}
use Rattle.sip_verifier.specs.inside.Ending.{status_of_link}
use Rattle.sip_verifier.specs.Snapshots.{Counts}
use Rattle.sip_verifier.specs.Reports.{rejection}
use Rattle.sip_verifier.specs.runs.Asking.{question_of}
use Rattle.sip_verifier.specs.runs.CauseClause.{CanBeJudged}
use Rattle.sip_verifier.specs.runs.Concluding.{Ended, status_of}
use Rattle.sip_verifier.specs.runs.Manners.{Accepted, Asking, Manner, Question}
use Rattle.sip_verifier.specs.runs.Progress.{Fails, PassesInPart, FailsInPart, HasNone, StaysUnjudged, AreFirst, Passed, PassedBy, EndsWith}
use Rattle.sip_verifier.specs.runs.Runs.{Run, manner, updates, IsLegalToEnd, Done, questions_of, lines, farewell, AreQuestions, Reached}
use Rattle.sip_verifier.specs.runs.TalkClause.{EndsAtFault, IsUnderWay}
use Rattle.sip_verifier.specs.runs.VerdictClause.{OneFaulty, PartWritten, PartRejected, CutInLine, NoneLeft, EndsUnjudged, UnjudgedWritten}
use Rattle.sip_verifier.specs.Statuses.{FaultClause, Stops, stops_asking}
use Rattle.sip_verifier.specs.Talks.{stream_sent}
use Rattle.sip_verifier.proofs.QueriesChecked.{OnLink, first_more, flat_map_snoc}
use Rattle.sip_verifier.proofs.RunTalks.{front_before}

-- a front of the farewell
farewell_front : (bytes : List ℕ) (n : ℕ) → IsPrefix (outs (take n bytes)) (outs bytes)
farewell_front bytes n = (outs (drop n bytes), ap outs (sym (take-append-drop n bytes)) ∙ outs-append _ _)

regroup : (a b c d : List TalkEvent) → a ++ b ++ (c ++ d) ≡ a ++ (b ++ c) ++ d
regroup a b c d = sym (append_assoc (a ++ b) c d) ∙ ap (λ (l : List TalkEvent). l ++ d) (append_assoc a b c)

module _ {Q A : Type 0} (asking : Asking Q A) (r : Run Q) (x : Exchange) where
  -- how the questions are asked and judged
  abbrev m : Manner Q A
  m = manner asking r x

  -- a question that waits is unfinished
  abbrev pub IsLawful : Type 0
  IsLawful = (q : Question Q) → m.IsWaiting q → m.IsUnfinished q

  abbrev streamed : List TalkEvent
  streamed = stream_sent r.version r.depth (updates r x)

  -- a list of questions, said
  abbrev said : List (Question Q) → List TalkEvent
  said questions = flat_map m.said_for questions

  -- the seed gave these challenges, and the stream was legal and sent; these queries were accepted, then this was said and this was written
  pub record Came (challenges : List ℕ) (done : Done asking r x) (rest : List TalkEvent) (part : List ℕ) : Type 0 where
    pub draws : r.challenges ≡ Some challenges
    pub legal : IsLegalToEnd r x
    pub narrow : m.MayAsk r.queries
    pub first : AreFirst r.queries (cut r.depth challenges) (questions_of asking r x done)
    pub talk : x.talk ≡ stream_sent r.version r.depth (updates r x) ++ flat_map
        m.said_for (questions_of asking r x done) ++ rest
    pub report : x.report ≡ lines asking r x done ++ part

  -- what is said and written from here is the rest of the exchange
  abbrev pub Talks : Option (List TalkEvent) → Option (List TalkEvent) → Type 0
  Talks t0 t1 = (more : List TalkEvent) → GoesOn t0 t1 more → x.talk ≡ streamed ++ more

  abbrev pub Writes : Option (List TalkEvent) → Option (List TalkEvent) → Type 0
  Writes r0 r1 = (bytes : List ℕ) → GoesOn r0 r1 (outs bytes) → x.report ≡ bytes

  pub came : (challenges : List ℕ) (done : Done asking r x) (rest : List TalkEvent) (part : List ℕ) (t0 t1 t2 r0 r1 r2 : Option (List TalkEvent)) → r.challenges ≡ Some challenges → IsLegalToEnd r x → m.MayAsk r.queries
      → Talks t0 t2 → Writes r0 r2 → Passed m r.queries (cut r.depth challenges) t0 t1 r0 r1 done
      → GoesOn t1 t2 rest → GoesOn r1 r2 (outs part) → Came challenges done rest part
  came challenges done rest part t0 t1 t2 r0 r1 r2 draws legal narrow told wrote passed goes writes = record {
    draws = draws;
    legal = legal;
    narrow = narrow;
    first = passed.first;
    talk = told (said (questions_of asking r x done) ++ rest) (GoesOn-trans t0 t1 t2 (said (questions_of asking r x done)) rest passed.talk goes) ∙ sym (append_assoc streamed (said (questions_of asking r x done)) rest);
    report = wrote (lines asking r x done ++ part) (subst (GoesOn r0 r2) (sym (outs-append (lines asking r x done) part)) (GoesOn-trans r0 r1 r2 (outs (lines asking r x done)) (outs part) passed.report writes));
  }

  module _ {challenges : List ℕ} {done : Done asking r x} {rest : List TalkEvent} {part : List ℕ} (c : Came challenges done rest part) where
    is_drawn : r.challenges ≢ None
    is_drawn none = let some = c.draws in cc

    good : CanBeJudged asking r x
    good = ((is_drawn, c.legal), c.narrow)

    reached : Reached asking r x (questions_of asking r x done) rest
    reached = record { are_questions = record { challenges = challenges; drawn = c.draws; queries = c.first.asked; blocks = c.first.at_blocks }; legal = c.legal; talk = c.talk }

    -- this is the query behind those that were accepted
    pub record Next (query : Q) (block : List ℕ) : Type 0 where
      pub more : List Q
      pub others : List (List ℕ)
      pub asks : drop (length done) r.queries ≡ query ∷ more
      pub at : drop (length done) (cut r.depth challenges) ≡ block ∷ others

    are_questions : {query : Q} {block : List ℕ} (replies : List (List ℕ)) → Next query block → AreQuestions r x (questions_of asking r x done ++ question_of query block replies ∷ [])
    are_questions {query = query} {block = block} replies next =
        let count : length (questions_of asking r x done) ≡ length done = length-map done (λ (a : Accepted m). a.question) in
        let first : AreFirst r.queries (cut r.depth challenges) (questions_of asking r x done ++ question_of query block replies ∷ []) =
        first_more r.queries next.more (cut r.depth challenges) next.others (questions_of asking r x done) query block replies c.first (ap (λ (n : ℕ). drop n r.queries) count ∙ next.asks)
        (ap (λ (n : ℕ). drop n (cut r.depth challenges)) count ∙ next.at) in
        record { challenges = challenges; drawn = c.draws; queries = first.asked; blocks = first.at_blocks }

    were_reached : (done ≡ []) ⊎ ((end : List TalkEvent) × Reached asking r x (questions_of asking r x done) end)
    were_reached = inr (rest, reached)

    module _ {query : Q} {block : List ℕ} (next : Next query block) (replies : List (List ℕ)) where
      abbrev question : Question Q
      question = question_of query block replies

      abbrev all_questions : List (Question Q)
      all_questions = questions_of asking r x done ++ question ∷ []

      -- with that query's question
      reached_more : (end : List TalkEvent) → rest ≡ m.said_for question ++ end → Reached asking r x all_questions end
      reached_more end is = record {
        are_questions = are_questions replies next;
        legal = c.legal;
        talk = c.talk ∙ ap (λ (l : List TalkEvent). streamed ++ said (questions_of asking r x done) ++ l) is
            ∙ regroup streamed (said (questions_of asking r x done))
            (m.said_for question) end
            ∙ ap (λ (l : List TalkEvent). streamed ++ l ++ end)
            (sym (flat_map_snoc m.said_for
            (questions_of asking r x done) question));
      }

      -- ---- its replies have a fault

      module _ (round : ℕ) (reason : Reason) (faulty : m.IsFaulty question
          (record { round = round; reason = reason }))
          (is : rest ≡ m.said_for question ++ ending reason) where
        ends_at_fault : EndsAtFault asking r x (record { round = round; reason = reason })
        ends_at_fault = record { done = done; last = question; faulty = faulty; reached = reached_more (ending reason) is }

        one_faulty : part ≡ rejection (suc (length done)) round reason → OneFaulty asking r x (suc (length done)) round reason
        one_faulty all = record {
          done = done;
          number = refl;
          last = question;
          faulty = faulty;
          reached = reached_more (ending reason) is;
          report = c.report ∙ ap (λ (l : List ℕ). lines asking r x done ++ l) all;
        }

        part_rejected : IsPrefix part (rejection (suc (length done)) round reason) → PartRejected asking r x done part
        part_rejected front = record { last = question; fault = record { round = round; reason = reason }; faulty = faulty; reached = reached_more (ending reason) is; front = front }

      -- ---- what came of its last reply was not judged

      abbrev ends_unjudged : (ended : List TalkEvent) → m.IsUnjudged question ended
          → rest ≡ m.said_for question ++ ended → EndsUnjudged asking r x
      ends_unjudged ended unjudged is = record { done = done; last = question; ended = ended; unjudged = unjudged; reached = reached_more ended is }

      -- ---- its replies are accepted, and nothing was said since

      module _ (answer : A) (accepts : m.Accepts question answer)
          (is : rest ≡ m.said_for question ++ []) where
        abbrev one : Accepted m
        one = record { question = question; answer = answer; accepts = accepts }

        part_written : IsPrefix part (m.line query answer) → PartWritten asking r x done part
        part_written front = record { next = one; reached = reached_more [] is; front = front }

        with_one : questions_of asking r x (done ++ one ∷ []) ≡ all_questions
        with_one = map-append (λ (a : Accepted m). a.question) done (one ∷ [])

        -- the talk is that of all questions
        talk_is : streamed ++ said all_questions ≡ x.talk
        talk_is = let all = reached_more [] is in sym (all.talk ∙ append-nil _)

        way_accepted : IsUnderWay asking r x
        way_accepted = record {
          done = done ++ one ∷ [];
          reached = inr ([], subst (λ (ts : List (Question Q)). Reached asking r x ts []) (sym with_one) (reached_more [] is));
          current = None;
          unfinished = tt;
          questions = λ _. subst (AreQuestions r x) (sym (append-nil _ ∙ with_one)) (are_questions replies next);
          order = (
            farewell asking r x (done ++ one ∷ []),
            ap (λ (ts : List (Question Q)). streamed ++ said ts ++ farewell asking r x (done ++ one ∷ [])) (append-nil _ ∙ with_one) ∙ ap (λ (l : List TalkEvent). l ++ farewell asking r x (done ++ one ∷ [])) talk_is,
          );
          legal = λ not. absurd (not c.legal);
          written = λ more. absurd (more ([], ap (λ (ts : List (Question Q)). streamed ++ said ts) with_one ∙ talk_is ∙ sym (append-nil x.talk)));
        }

      -- ---- it waits for replies, and nothing was written

      module _ (lawful : IsLawful) (waits : m.IsWaiting question)
          (order : IsPrefix rest (m.said_for question))
          (blank : part ≡ []) where
        only_lines : x.report ≡ lines asking r x done
        only_lines = c.report ∙ ap (λ (l : List ℕ). lines asking r x done ++ l) blank ∙ append-nil _

        front_of_questions : IsPrefix x.talk (streamed ++ said all_questions)
        front_of_questions = (
          order.0,
          ap (λ (l : List TalkEvent). streamed ++ l)
              (flat_map_snoc m.said_for (questions_of asking r x done) question)
              ∙ ap (λ (l : List TalkEvent). streamed ++ (said (questions_of asking r x done) ++ l)) order.1
              ∙ sym (append_assoc streamed (said (questions_of asking r x done)) (rest ++ order.0)) ∙ sym (append_assoc (streamed ++ said (questions_of asking r x done)) rest order.0)
              ∙ ap (λ (l : List TalkEvent). l ++ order.0) (sym c.talk),
        )

        in_order : IsPrefix x.talk (streamed ++ said all_questions ++ farewell asking r x done)
        in_order = front_before x.talk (streamed ++ said all_questions) (farewell asking r x done) front_of_questions

        way_waiting : IsUnderWay asking r x
        way_waiting = record {
          done = done;
          reached = were_reached;
          current = Some question;
          unfinished = lawful question waits;
          questions = λ _. are_questions replies next;
          order = in_order;
          legal = λ not. absurd (not c.legal);
          written = λ _. only_lines;
        }

        none_left : NoneLeft asking r x
        none_left = record { done = done; current = Some question; waits = waits; reached = were_reached; order = in_order; report = only_lines }

    -- ---- every query was accepted

    farewell_is : length done ≡ length r.queries → farewell asking r x done ≡ (outs m.farewell)
    farewell_is all = ap (λ (b : Bool). if b then (outs m.farewell) else []) ((Decides-eqb (length done) (length r.queries)).1 all)

    module _ (all : length done ≡ length r.queries) (blank : part ≡ []) where
      all_lines : x.report ≡ lines asking r x done
      all_lines = c.report ∙ ap (λ (l : List ℕ). lines asking r x done ++ l) blank ∙ append-nil _

      module _ (front : IsPrefix rest (outs m.farewell)) where
        order_at_bye : IsPrefix x.talk (streamed ++ said (questions_of asking r x done ++ []) ++ farewell asking r x done)
        order_at_bye = (
          front.0,
          ap (λ (ts : List (Question Q)). streamed ++ said ts ++ farewell asking r x done)
              (append-nil (questions_of asking r x done)) ∙ ap (λ (l : List TalkEvent). streamed ++ said
              (questions_of asking r x done) ++ l) (farewell_is all ∙ front.1)
              ∙ sym (append_assoc (streamed ++ said (questions_of asking r x done)) rest front.0) ∙ ap (λ (l : List TalkEvent). l ++ front.0) (sym c.talk),
        )

        way_at_bye : IsUnderWay asking r x
        way_at_bye = record {
          done = done;
          reached = were_reached;
          current = None;
          unfinished = tt;
          questions = λ _. subst (AreQuestions r x) (sym (append-nil _)) reached.are_questions;
          order = order_at_bye;
          legal = λ not. absurd (not c.legal);
          written = λ _. all_lines;
        }

        -- the farewell was not sent whole
        pub after_bye : (before now : Counts) (stop : PortStop) → FaultClause before now (status_of_link stop) → Ended asking r x before now (status_of_link stop)
        after_bye before now port_stops.Failed cause = record {
          verdict = record { done = done; current = None; waits = tt; reached = were_reached; order = order_at_bye; report = all_lines };
          talk = way_at_bye;
          cause = (is_drawn, cause);
        }
        after_bye before now port_stops.OutOfMemory cause = record {
          verdict = inl (record { done = done; current = None; waits = tt; reached = were_reached; order = order_at_bye; report = all_lines });
          talk = inl (inl way_at_bye);
          cause = tt;
        }

      -- all went well
      pub at_end : (before now : Counts) → rest ≡ (outs m.farewell) → x.unread ≡ [] → Ended asking r x before now statuses.Accepted
      at_end before now is read =
          let whole : Reached asking r x (questions_of asking r x done) (outs m.farewell) = subst (Reached asking r x (questions_of asking r x done)) is reached in
          record {
            verdict = record { done = done; all = all; reached = whole; report = all_lines; read = read };
            talk = record { done = done; all = all; reached = whole };
            cause = good;
          }

  -- ---- a query ended the run

  module _ (challenges : List ℕ) (t1 t3 r0 r2 : Option (List TalkEvent)) (draws : r.challenges ≡ Some challenges) (legal : IsLegalToEnd r x)
      (narrow : m.MayAsk r.queries) (told : Talks t1 t3) (wrote : Writes r0 r2) (lawful : IsLawful) where
    module _ {status : Status} (e : EndsWith m r.queries (cut r.depth challenges) t1 t3 r0 r2 status) where
      its : {rest : List TalkEvent} {part : List ℕ} → GoesOn e.mid t3 rest → GoesOn e.half r2 (outs part) → Came challenges e.done rest part
      its {rest = rest} {part = part} goes writes = came challenges e.done rest part t1 e.mid t3 r0 e.half r2 draws legal narrow told wrote e.passed goes writes

      its_next : {rest : List TalkEvent} {part : List ℕ} (c : Came challenges e.done rest part) → Next c e.query e.block
      its_next c = record { more = e.next_query; others = e.next_block; asks = e.asks; at = e.at }

      -- its line was not written whole
      module _ (p : PassesInPart m e.query e.block (suc (length e.done)) e.mid t3 e.half r2) where
        passing : Came challenges e.done (m.said_for
            (question_of e.query e.block p.answered.replies) ++ []) p.part
        passing = its (subst (GoesOn e.mid t3) (sym (append-nil _)) p.answered.talk) p.wrote

        written_in_part : PartWritten asking r x e.done p.part
        written_in_part = part_written passing (its_next passing) p.answered.replies p.answer p.answered.accepted refl p.front

        way_passing : IsUnderWay asking r x
        way_passing = way_accepted passing (its_next passing) p.answered.replies p.answer p.answered.accepted refl

        cut_passing : CutInLine asking r x
        cut_passing = record { done = e.done; part = p.part; reached = were_reached passing; verdict = inl written_in_part; report = passing.report }

      -- the line of its rejection was not written whole
      module _ (p : FailsInPart m e.query e.block (suc (length e.done)) e.mid t3 e.half r2) where
        failing : Came challenges e.done (m.said_for
            (question_of e.query e.block p.rejected.replies) ++ ending p.reason) p.part
        failing = its p.rejected.talk p.wrote

        rejected_in_part : PartRejected asking r x e.done p.part
        rejected_in_part = part_rejected failing (its_next failing) p.rejected.replies p.round p.reason p.rejected.faulty refl p.front

        ends_failing : (fault : Fault) × EndsAtFault asking r x fault
        ends_failing = (record { round = p.round; reason = p.reason }, ends_at_fault failing (its_next failing) p.rejected.replies p.round p.reason p.rejected.faulty refl)

        cut_failing : CutInLine asking r x
        cut_failing = record { done = e.done; part = p.part; reached = were_reached failing; verdict = inr rejected_in_part; report = failing.report }

      -- it has no verdict
      module _ (n : HasNone m e.query e.block (suc (length e.done)) e.mid t3 e.half r2) where
        waiting : Came challenges e.done n.interrupted.said []
        waiting = its n.interrupted.talk (subst (λ (o : Option (List TalkEvent)). GoesOn e.half o []) (sym n.same) (GoesOn-refl e.half))

        way_of_none : IsUnderWay asking r x
        way_of_none = way_waiting waiting (its_next waiting) n.interrupted.replies lawful n.interrupted.waits n.interrupted.order refl

        left_of_none : NoneLeft asking r x
        left_of_none = none_left waiting (its_next waiting) n.interrupted.replies lawful n.interrupted.waits n.interrupted.order refl

      -- what came of its last reply was not judged
      module _ (n : StaysUnjudged m e.query e.block (suc (length e.done)) e.mid t3 e.half r2) where
        staying : Came challenges e.done (m.said_for
            (question_of e.query e.block n.unrecorded.replies) ++ n.unrecorded.ended) []
        staying = its n.unrecorded.talk (subst (λ (o : Option (List TalkEvent)). GoesOn e.half o []) (sym n.same) (GoesOn-refl e.half))

        abbrev ends_staying : EndsUnjudged asking r x
        ends_staying = ends_unjudged staying (its_next staying) n.unrecorded.replies n.unrecorded.ended n.unrecorded.unjudged refl

        written_staying : UnjudgedWritten asking r x
        written_staying = (ends_staying, staying.report ∙ append-nil _)

      -- it was rejected, and the whole line was written
      rejects : (before now : Counts) (round : ℕ) (reason : Reason) → Fails m e.query e.block (suc (length e.done)) e.mid t3 e.half r2 round reason
          → Ended asking r x before now (statuses.Rejected (suc (length e.done)) round reason)
      rejects before now round reason f =
          let c : Came challenges e.done (m.said_for
          (question_of e.query e.block f.rejected.replies) ++ ending reason)
          (rejection (suc (length e.done)) round reason) = its f.rejected.talk f.wrote in
          record {
            verdict = one_faulty c (its_next c) f.rejected.replies round reason f.rejected.faulty refl refl;
            talk = ends_at_fault c (its_next c) f.rejected.replies round reason f.rejected.faulty refl;
            cause = good c;
          }

    pub after_queries : (before now : Counts) (status : Status) → EndsWith m r.queries (cut r.depth challenges) t1 t3 r0 r2 status → FaultClause before now status → Ended asking r x before now status
    after_queries before now (statuses.Rejected number round reason) e cause =
        let checks = e.checks in
        subst (λ (n : ℕ). Ended asking r x before now (statuses.Rejected n round reason)) (sym checks.0) (rejects e before now round reason checks.1)
    after_queries before now (statuses.WriteFault ports.First) e cause = absurd e.checks
    after_queries before now (statuses.WriteFault ports.Second) e cause = absurd e.checks
    after_queries before now (statuses.WriteFault ports.Report) e cause =
        elim (e.checks) as (λ _. Ended asking r x before now (statuses.WriteFault ports.Report)) [
          | inl p ↦ record { verdict = cut_passing e p; talk = inl (way_passing e p); cause = (good (passing e p), cause) }
          | inr p ↦ record { verdict = cut_failing e p; talk = inr (ends_failing e p); cause = (good (failing e p), cause) }
        ]
    after_queries before now (statuses.WriteFault ports.Keep) e cause =
        let c = staying e e.checks in
        record { verdict = inr (written_staying e e.checks); talk = inr (ends_staying e e.checks); cause = (is_drawn c, λ some. good c, cause) }
    after_queries before now statuses.PeerFault e cause = record { verdict = left_of_none e e.checks; talk = way_of_none e e.checks; cause = (is_drawn (waiting e e.checks), cause) }
    after_queries before now statuses.OutOfMemory e cause =
        elim (e.checks) as (λ _. Ended asking r x before now statuses.OutOfMemory) [
          | inl p ↦ record { verdict = inr (inl (cut_passing e p)); talk = inl (inl (way_passing e p)); cause = tt }
          | inr (inl p) ↦ record { verdict = inr (inl (cut_failing e p)); talk = inl (inr (ends_failing e p)); cause = tt }
          | inr (inr (inl n)) ↦ record { verdict = inl (left_of_none e n); talk = inl (inl (way_of_none e n)); cause = tt }
          | inr (inr (inr n)) ↦ record { verdict = inr (inr (written_staying e n)); talk = inr (ends_staying e n); cause = tt }
        ]
    after_queries before now _ e cause = absurd e.checks

    -- ---- all were accepted, and the farewell was sent, or a front of it

    pub at_bye : (before now : Counts) (t2 : Option (List TalkEvent)) (sent : Result (Unit {0}) PortStop) (went : Result (Unit {0}) Status) → PassedBy m r.queries (cut r.depth challenges) t1 t2 r0 r2 (length r.queries)
        → SendsWhole t2 t3 sent m.farewell → OnLink sent went → FaultClause before now (status_of went) → x.unread ≡ [] → Ended asking r x before now (status_of went)
    at_bye before now t2 (Ok u) (Ok v) so goes on cause read =
        let c : Came challenges so.done (outs m.farewell) [] = came challenges so.done (outs m.farewell) [] t1 t2 t3 r0 r2 r2 draws legal narrow told wrote so.passed goes (GoesOn-refl r2) in
        at_end c so.counted refl before now refl read
    at_bye before now t2 (Ok u) (Err status) so goes (port, is, stops) cause read = absurd cc
    at_bye before now t2 (Err stop) (Ok v) so goes on cause read = absurd cc
    at_bye before now t2 (Err stop) (Err status) so (n, less, goes) (port, is, stops) cause read =
        let c : Came challenges so.done (outs (take n m.farewell)) [] =
        came challenges so.done (outs (take n m.farewell)) [] t1 t2 t3 r0 r2 r2 draws legal narrow told wrote so.passed goes (GoesOn-refl r2) in
        subst (Ended asking r x before now) (sym stops) (after_bye c so.counted refl (farewell_front m.farewell n) before now port (subst (FaultClause before now) stops cause))

-- the farewell's stop has its cause, and is one of those at queries
pub bye_stops : (before now : Counts) (sent : Result (Unit {0}) PortStop) (r : Result (Unit {0}) Status) → OnLink sent r → (sent ≡ Err port_stops.Failed → Rose before.peer now.peer) → Stops stops_asking before now r
bye_stops before now sent (Ok u) on cause = tt
bye_stops before now sent (Err status) (port_stops.Failed, is, stops) cause = subst (λ (s : Status). IsTrue (stops_asking s) × FaultClause before now s) (sym stops) (refl, cause is)
bye_stops before now sent (Err status) (port_stops.OutOfMemory, is, stops) cause = subst (λ (s : Status). IsTrue (stops_asking s) × FaultClause before now s) (sym stops) (refl, tt)

-- all was read
pub all_read : {left : Option (List ℕ)} {unread : List ℕ} → left ≡ Some unread → left ≡ Some [] → unread ≡ []
all_read e f = cc
