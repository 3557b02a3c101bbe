-- A run that heard honest replies is accepted, with the stream's own answers, in any manner in which
-- a question that heard them is.
use Rattle.std.proofs.Common.{◌≡◌, ◌≢◌, ℕ, ◌<◌, List, [], ◌∷◌, ◌++◌, length, take, map, All, Some, None, inl, inr, refl, sym, ap, subst, ◌∙◌, arith, append_assoc, append-nil, take_all}
use Rattle.std.specs.Prelude.{flat_map}
use Rattle.std.specs.List.{zip}
use Rattle.std.proofs.lemmas.List.{length-map}
use Rattle.std.proofs.lemmas.List.Elements.{All-cons, All-head, All-nil, All-tail}
use Rattle.sip_ports.specs.declared.port.TalkEvent.{TalkEvent}
use Rattle.sip_ports.specs.declared.port.TalkEvent.TheVariants.{Ended}
use Rattle.sip_ports.specs.Ports.{heard, outs}
use Rattle.sip_ports.proofs.TalkLemmas.{heard-append}
use Rattle.sip_vector.specs.Pieces.{cut}
use Rattle.sip_wire.specs.declared.message.Reason.{Reason}
use Rattle.sip_wire.specs.declared.message.Reason.TheVariants as reasons
use Rattle.sip_replies.specs.Replies.{Fault}
use Rattle.sip_replies.specs.Talks.{ending}
use Rattle.sip_verifier.specs.declared.status.Port.TheVariants as ports
use Rattle.sip_verifier.specs.declared.status.Status.{Status}
use Rattle.sip_verifier.specs.declared.status.Status.TheVariants as statuses
use Rattle.sip_verifier.specs.Exchanges.{Exchange}
use Rattle.sip_verifier.specs.Snapshots.{Counts}
use Rattle.sip_verifier.specs.runs.CauseClause.{CauseClause}
use Rattle.sip_verifier.specs.runs.CompletenessClause.{CompletenessClause, Honesty, IsHonest, honest_report}
use Rattle.sip_verifier.specs.runs.Manners.{Accepted, Asking, Manner, Question}
use Rattle.sip_verifier.specs.runs.Progress.{AreFirst}
use Rattle.sip_verifier.specs.runs.Runs.{AreQuestions, Reached, Run, manner, questions_of, updates}
use Rattle.sip_verifier.specs.runs.VerdictClause.{AllWritten, OneFaulty, VerdictClause}
use Rattle.sip_verifier.specs.Talks.{stream_sent}
use Rattle.sip_verifier.proofs.HeardTalks.{heard-stream, last_is}

-- queries and blocks in pairs, each of which is such
pub all_zipped : {X Y : Type 0} (P : X → Type 0) (R : Y → Type 0) (xs : List X) (ys : List Y)
    → All P xs → All R ys → All (λ (a : X × Y). P a.0 × R a.1) (zip xs ys)
all_zipped {X} {Y} P R [] ys ps rs = All-nil (λ (a : X × Y). P a.0 × R a.1)
all_zipped {X} {Y} P R (x ∷ xs) [] ps rs = All-nil (λ (a : X × Y). P a.0 × R a.1)
all_zipped {X} {Y} P R (x ∷ xs) (y ∷ ys) ps rs =
    All-cons (λ (a : X × Y). P a.0 × R a.1) (x, y) (zip xs ys)
    (All-head P x xs ps, All-head R y ys rs)
    (all_zipped P R xs ys (All-tail P x xs ps) (All-tail R y ys rs))

module _ {Q A : Type 0} (asking : Asking Q A) (honesty : Honesty Q A) (r : Run Q) (x : Exchange) where
  abbrev m : Manner Q A
  m = manner asking r x

  abbrev honest : Q × List ℕ → List ℕ
  honest ask = honesty.honest_bytes r.version r.depth (updates r x) ask

  abbrev true_answer : Q → A
  true_answer q = honesty.answer r.depth (updates r x) q

  -- What is known of the manner, of queries at their blocks of which this holds: where what was heard
  -- for a question that was judged agrees with honest replies, they were taken whole if it is
  -- accepted, with the stream's own answer, and it has no fault.
  pub record Judges (Can : Q × List ℕ → Type 0) : Type 0 where
    pub accepted : (t : Question Q) (written : A) (b a : List ℕ) → Can (t.query, t.block)
        → m.Accepts t written → honest (t.query, t.block) ++ b ≡ heard (m.said_for t) ++ a
        → (b ≡ a) × (written ≡ true_answer t.query)
    pub faulty : (t : Question Q) (fault : Fault) (b a : List ℕ) → Can (t.query, t.block)
        → m.IsFaulty t fault → fault.reason ≢ reasons.Closed
        → honest (t.query, t.block) ++ b ≡ heard (m.said_for t) ++ a → ⊥

  -- ---- what is heard

  -- what was heard for questions
  abbrev replied : List (Question Q) → List ℕ
  replied questions = flat_map (λ t. heard (m.said_for t)) questions

  heard-questions : (questions : List (Question Q))
      → heard (flat_map m.said_for questions) ≡ replied questions
  heard-questions [] = refl
  heard-questions (t ∷ questions) =
      heard-append (m.said_for t) (flat_map m.said_for questions)
      ∙ ap (λ l. heard (m.said_for t) ++ l) (heard-questions questions)

  heard-talk : (questions : List (Question Q)) (rest : List TalkEvent)
      → heard (stream_sent r.version r.depth (updates r x) ++ flat_map m.said_for questions ++ rest)
      ≡ replied questions ++ heard rest
  heard-talk questions rest =
      let streamed : List TalkEvent = stream_sent r.version r.depth (updates r x) in
      let said : List TalkEvent = flat_map m.said_for questions in
      heard-append (streamed ++ said) rest
      ∙ ap (λ l. l ++ heard rest)
      (heard-append streamed said
      ∙ ap (λ l. l ++ heard said) (heard-stream r.version r.depth (updates r x))
      ∙ heard-questions questions)

  -- ---- questions one after another

  -- the questions of accepted ones
  abbrev their_questions : List (Accepted m) → List (Question Q)
  their_questions done = map (λ (a : Accepted m). a.question) done

  -- the first question is the first query at the first block
  record Begins (t : Question Q) (questions : List (Question Q)) (queries : List Q)
      (blocks : List (List ℕ)) : Type 0 where
    more : List Q
    others : List (List ℕ)
    queries_are : queries ≡ t.query ∷ more
    blocks_are : blocks ≡ t.block ∷ others
    rest : AreFirst more others questions

  begins : (t : Question Q) (questions : List (Question Q)) (queries : List Q)
      (blocks : List (List ℕ)) → AreFirst queries blocks (t ∷ questions)
      → Begins t questions queries blocks
  begins t questions [] blocks first = absurd (let e = first.asked in cc)
  begins t questions (q ∷ queries) [] first = absurd (let e = first.at_blocks in cc)
  begins t questions (q ∷ queries) (b ∷ blocks) first =
      let e = first.asked in
      let f = first.at_blocks in
      let same_query : t.query ≡ q = cc in
      let same_block : t.block ≡ b = cc in
      record {
        more = queries;
        others = blocks;
        queries_are = ap (λ y. y ∷ queries) (sym same_query);
        blocks_are = ap (λ y. y ∷ blocks) (sym same_block);
        rest = record { asked = cc; at_blocks = cc };
      }

  -- the bytes of honest replies to queries at their blocks
  abbrev all_honest : List Q → List (List ℕ) → List ℕ
  all_honest queries blocks = flat_map honest (zip queries blocks)

  module _ (Can : Q × List ℕ → Type 0) (judges : Judges Can) where
    abbrev AllCan : List Q → List (List ℕ) → Type 0
    AllCan queries blocks = All Can (zip queries blocks)

    -- what holds of a question and of those behind it
    record First (t : Question Q) (questions : List (Question Q)) (queries : List Q)
        (blocks : List (List ℕ)) (heard_bytes : List ℕ) : Type 0 where
      more : List Q
      others : List (List ℕ)
      rest : AreFirst more others questions
      can : Can (t.query, t.block)
      can_rest : AllCan more others
      bytes : honest (t.query, t.block) ++ all_honest more others ≡ heard_bytes

    first_of : (t : Question Q) (questions : List (Question Q)) (queries : List Q)
        (blocks : List (List ℕ)) (heard_bytes : List ℕ) → AllCan queries blocks
        → AreFirst queries blocks (t ∷ questions) → all_honest queries blocks ≡ heard_bytes
        → First t questions queries blocks heard_bytes
    first_of t questions queries blocks heard_bytes can first is =
        let b = begins t questions queries blocks first in
        let same : zip queries blocks ≡ (t.query, t.block) ∷ zip b.more b.others =
        ap (λ l. zip l blocks) b.queries_are ∙ ap (zip (t.query ∷ b.more)) b.blocks_are in
        let all = subst (All Can) same can in
        record {
          more = b.more;
          others = b.others;
          rest = b.rest;
          can = All-head Can (t.query, t.block) (zip b.more b.others) all;
          can_rest = All-tail Can (t.query, t.block) (zip b.more b.others) all;
          bytes = sym (ap (flat_map honest) same) ∙ is;
        }

    -- accepted questions have the stream's answers
    done_honest : (done : List (Accepted m)) (queries : List Q) (blocks : List (List ℕ))
        (rest : List ℕ) → AllCan queries blocks → AreFirst queries blocks (their_questions done)
        → all_honest queries blocks ≡ replied (their_questions done) ++ rest
        → flat_map (λ (a : Accepted m). m.line a.question.query a.answer) done
        ≡ flat_map (λ q. m.line q (true_answer q)) (map (λ (t : Question Q). t.query) (their_questions done))
    done_honest [] queries blocks rest can first is = refl
    done_honest (a ∷ done) queries blocks rest can first is =
        let t = a.question in
        let f = first_of t (their_questions done) queries blocks _ can first is in
        let here = judges.accepted t a.answer (all_honest f.more f.others)
        (replied (their_questions done) ++ rest) f.can a.accepts
        (f.bytes ∙ append_assoc (heard (m.said_for t)) (replied (their_questions done)) rest) in
        let later = done_honest done f.more f.others rest f.can_rest f.rest here.0 in
        ap (λ (y : A). m.line t.query y ++ flat_map (λ (d : Accepted m). m.line d.question.query d.answer) done) here.1
        ∙ ap (λ (l : List ℕ). m.line t.query (true_answer t.query) ++ l) later

    -- and none after them has a fault, but that of the end of the link
    none_faulty : (done : List (Accepted m)) (last : Question Q) (fault : Fault) (queries : List Q)
        (blocks : List (List ℕ)) (rest : List ℕ) → AllCan queries blocks
        → AreFirst queries blocks (their_questions done ++ last ∷ []) → m.IsFaulty last fault
        → fault.reason ≢ reasons.Closed
        → all_honest queries blocks ≡ replied (their_questions done ++ last ∷ []) ++ rest → ⊥
    none_faulty [] last fault queries blocks rest can first faulty other is =
        let f = first_of last [] queries blocks _ can first is in
        judges.faulty last fault (all_honest f.more f.others) rest f.can faulty other
        (f.bytes ∙ ap (λ (l : List ℕ). l ++ rest) (append-nil (heard (m.said_for last))))
    none_faulty (a ∷ done) last fault queries blocks rest can first faulty other is =
        let t = a.question in
        let others = their_questions done ++ last ∷ [] in
        let f = first_of t others queries blocks _ can first is in
        let here = judges.accepted t a.answer (all_honest f.more f.others) (replied others ++ rest)
        f.can a.accepts (f.bytes ∙ append_assoc (heard (m.said_for t)) (replied others) rest) in
        none_faulty done last fault f.more f.others rest f.can_rest f.rest faulty other here.0

    -- ---- a run

    module _ (can_all : (h : IsHonest asking honesty r x) → AllCan r.queries (cut r.depth h.challenges))
        (may : IsHonest asking honesty r x → (status : Status) → m.Refuses r.queries status → ⊥)
        (short : length x.seed < 32 → r.challenges ≡ None) where
      module _ (h : IsHonest asking honesty r x) where
        same_challenges : (other : List ℕ) → r.challenges ≡ Some other → other ≡ h.challenges
        same_challenges other is = let own = h.drawn in cc

        are_first : (questions : List (Question Q)) → AreQuestions r x questions
            → AreFirst r.queries (cut r.depth h.challenges) questions
        are_first questions are = record {
          asked = are.queries;
          at_blocks = are.blocks
              ∙ ap (λ (c : List ℕ). take (length questions) (cut r.depth c))
              (same_challenges are.challenges are.drawn);
        }

        -- the honest bytes begin with what was heard for questions
        front : (questions : List (Question Q)) (rest : List TalkEvent)
            → Reached asking r x questions rest
            → all_honest r.queries (cut r.depth h.challenges)
            ≡ replied questions ++ (heard rest ++ h.heard.0)
        front questions rest reached =
            h.heard.1
            ∙ ap (λ (l : List ℕ). l ++ h.heard.0)
            (ap heard reached.talk ∙ heard-talk questions rest)
            ∙ append_assoc (replied questions) (heard rest) h.heard.0

        accepted_report : AllWritten asking r x → x.report ≡ honest_report asking honesty r x
        accepted_report v =
            let questions = questions_of asking r x v.done in
            let are = v.reached.are_questions in
            let count : length questions ≡ length v.done =
            length-map v.done (λ (a : Accepted m). a.question) in
            let all : take (length questions) r.queries ≡ r.queries =
            take_all (length questions) r.queries (omega (arith, count, v.all)) in
            v.report
            ∙ done_honest v.done r.queries (cut r.depth h.challenges)
            (heard (outs m.farewell) ++ h.heard.0) (can_all h) (are_first questions are)
            (front questions (outs m.farewell) v.reached)
            ∙ ap (flat_map (λ q. m.line q (true_answer q))) (are.queries ∙ all)

        -- the link did not end
        not_ended : (questions : List (Question Q)) (reason : Reason)
            → Reached asking r x questions (ending reason) → reason ≢ reasons.Closed
        not_ended questions reason reached closed =
            let before : List TalkEvent =
            stream_sent r.version r.depth (updates r x) ++ flat_map m.said_for questions in
            let talk : x.talk ≡ before ++ Ended ∷ [] =
            reached.talk ∙ ap (λ (y : Reason). before ++ ending y) closed in
            last_is (λ (e : TalkEvent). e ≢ Ended) before Ended
            (subst (All (λ (e : TalkEvent). e ≢ Ended)) talk h.lasts) refl

        not_rejected : (query round : ℕ) (reason : Reason) → OneFaulty asking r x query round reason → ⊥
        not_rejected query round reason v =
            let last = v.last in
            let fault : Fault = record { round = round; reason = reason } in
            let questions = questions_of asking r x v.done ++ last ∷ [] in
            none_faulty v.done last fault r.queries (cut r.depth h.challenges)
            (heard (ending reason) ++ h.heard.0) (can_all h)
            (are_first questions v.reached.are_questions) v.faulty
            (not_ended questions reason v.reached) (front questions (ending reason) v.reached)

        some_drawn : r.challenges ≡ None → ⊥
        some_drawn none = let is = h.drawn in cc

      -- a run that keeps to the clauses of verdicts and of causes keeps to that of completeness
      pub completes : (before now : Counts) (status : Status) → VerdictClause asking r x status
          → CauseClause asking r x before now status
          → CompletenessClause asking honesty r x before now status
      completes before now statuses.Accepted v cause = λ h none. inl (refl, accepted_report h v)
      completes before now (statuses.Rejected query round reason) v cause = λ h none.
          absurd (not_rejected h query round reason v)
      completes before now (statuses.BadStream at why) v cause = λ h none.
          absurd (let fault = cause.2 in let legal = h.legal in cc)
      completes before now (statuses.TooWide query) v cause = λ h none.
          absurd (may h (statuses.TooWide query) cause.1)
      completes before now (statuses.TooHigh query) v cause = λ h none.
          absurd (may h (statuses.TooHigh query) cause.1)
      completes before now statuses.BadSeed v cause = λ h none. absurd (some_drawn h (short cause))
      completes before now statuses.SeedSpent v cause = λ h none. absurd (some_drawn h cause.1)
      completes before now (statuses.ReadFault ports.First) v cause = λ h none.
          absurd (none.first cause.1)
      completes before now (statuses.ReadFault ports.Second) v cause = λ h none.
          absurd (none.second cause)
      completes before now (statuses.WriteFault ports.Report) v cause = λ h none.
          absurd (none.report cause.1)
      completes before now (statuses.WriteFault ports.Keep) v cause = λ h none.
          absurd (none.keep cause.2)
      completes before now statuses.PeerFault v cause = λ h none. absurd (none.peer cause.1)
      completes before now statuses.OutOfMemory v cause = λ h none. inr refl
      completes before now (statuses.WriteFault _) v cause = absurd cause.1
      completes before now _ v cause = absurd cause
