-- A run that ended with a verdict, as the list of its questions that were judged.
use Rattle.std.proofs.Common.{◌≡◌, ℕ, suc, ◌+◌, Some, Ok, Err, List, [], ◌∷◌, ◌++◌, length, take, refl, sym, ap, subst, ◌∙◌, arith, append-nil, append_assoc}
use Rattle.std.specs.Prelude.{IsTrue, flat_map, map}
use Rattle.std.proofs.lemmas.List.{append_cancel_left}
use Rattle.std.proofs.lemmas.List.Elements.{All-append, All-cons, All-nil}
use Rattle.sip_ports.specs.declared.port.TalkEvent.{TalkEvent}
use Rattle.sip_ports.specs.declared.port.TalkEvent.TheVariants.{Ended}
use Rattle.sip_ports.specs.Ports.{heard}
use Rattle.sip_ports.proofs.TalkLemmas.{heard-append, heard-outs}
use Rattle.sip_replies.specs.Replies.{Fault}
use Rattle.sip_replies.specs.Talks.{ending}
use Rattle.sip_stream.specs.Records.{records}
use Rattle.sip_vector.specs.Pieces.{cut}
use Rattle.sip_vector.specs.declared.query.Query.{Query}
use Rattle.sip_vector.specs.declared.update.Update.{Update}
use Rattle.sip_wire.specs.declared.message.Message.TheVariants as messages
use Rattle.sip_wire.specs.declared.message.Reason.{Reason}
use Rattle.sip_wire.specs.declared.version.Version.{Version}
use Rattle.sip_wire.specs.Spelling.{spelling}
use Rattle.sip_verifier.specs.declared.status.Status.{Status}
use Rattle.sip_verifier.specs.declared.status.Status.TheVariants as statuses
use Rattle.sip_verifier.specs.Exchanges.{Exchange}
use Rattle.sip_verifier.specs.Inquiries.{Inquiry}
use Rattle.sip_verifier.specs.Questions.{Accepted, IsFaulty, Question, questions_of, said_for, updates}
use Rattle.sip_verifier.specs.Reports.{line, rejection}
use Rattle.sip_verifier.specs.Talks.{bye_sent, stream_sent}
use Rattle.sip_verifier.specs.VerdictClause.{AllWritten, OneFaulty, VerdictClause}
use Rattle.sip_verifier.proofs.HeardTalks.{IsHeard, heard-talk, replied}
use Rattle.sip_verifier.proofs.HeardQuestions.{done_heard, faulty_heard}
use Rattle.sip_verifier.proofs.KeptReplies.{heard-ending}
use Rattle.sip_transcript.specs.Auditing.{is_verdict}
use Rattle.sip_transcript.specs.Replaying.{Follows}
use Rattle.sip_transcript.proofs.SameVerdicts.{AllClose, AreOf, Closes, Judged, Outcome, replies_of, same_verdicts, verdicts}

-- ---- what is written of verdicts

-- where n queries were accepted before
abbrev line_of : ℕ → Query → Outcome → List ℕ → List ℕ
line_of n query (Ok answer) rest = line query answer ++ rest
line_of n query (Err fault) rest = rejection (suc n) fault.round fault.reason

abbrev pub told : ℕ → List (Query × Outcome) → List ℕ
told n [] = []
told n (v ∷ vs) = line_of n v.0 v.1 (told (suc n) vs)

-- and what the run comes to
abbrev status_at : ℕ → Outcome → Status → Status
status_at n (Ok answer) rest = rest
status_at n (Err fault) rest = statuses.Rejected (suc n) fault.round fault.reason

abbrev pub came_to : ℕ → List (Query × Outcome) → Status
came_to n [] = statuses.Accepted
came_to n (v ∷ vs) = status_at n v.1 (came_to (suc n) vs)

-- ---- accepted questions, and others behind them

module _ (version : Version) (depth : ℕ) (stream : List Update) where
  abbrev Acc : Type 0
  Acc = Accepted version depth stream

  abbrev J : Type 0
  J = Judged version depth stream

  abbrev passed : Acc → J
  passed a = record { question = a.question; outcome = Ok a.answer; judged = a.accepts }

  abbrev failed : (q : Question) (fault : Fault) → IsFaulty version depth stream q fault → J
  failed q fault faulty = record { question = q; outcome = Err fault; judged = faulty }

  abbrev asked : List Acc → List Question
  asked done = map (λ (a : Acc). a.question) done

  abbrev written : List Acc → List ℕ
  written done = flat_map (λ (a : Acc). line a.question.query a.answer) done

  questions_back : (done : List Acc) (end : List J) → map (λ (x : J). x.question) (map passed done ++ end) ≡ asked done ++ map (λ (x : J). x.question) end
  questions_back [] end = refl
  questions_back (a ∷ done) end = ap (λ (l : List Question). a.question ∷ l) (questions_back done end)

  told_end : (n : ℕ) (done : List Acc) (end : List J) → told n (verdicts version depth stream (map passed done ++ end)) ≡ written done ++ told (n + length done) (verdicts version depth stream end)
  told_end n [] end = ap (λ (m : ℕ). told m (verdicts version depth stream end)) (let e : n ≡ n + 0 = omega arith in e)
  told_end n (a ∷ done) end =
      ap (λ (l : List ℕ). line a.question.query a.answer ++ l) (told_end (suc n) done end
      ∙ ap (λ (m : ℕ). written done ++ told m (verdicts version depth stream end)) (let e : suc n + length done ≡ n + length (a ∷ done) = omega arith in e))
      ∙ sym (append_assoc (line a.question.query a.answer) (written done) (told (n + length (a ∷ done)) (verdicts version depth stream end)))

  came_end : (n : ℕ) (done : List Acc) (end : List J) → came_to n (verdicts version depth stream (map passed done ++ end)) ≡ came_to (n + length done) (verdicts version depth stream end)
  came_end n [] end = ap (λ (m : ℕ). came_to m (verdicts version depth stream end)) (let e : n ≡ n + 0 = omega arith in e)
  came_end n (a ∷ done) end =
      came_end (suc n) done end ∙ ap (λ (m : ℕ). came_to m (verdicts version depth stream end)) (let e : suc n + length done ≡ n + length (a ∷ done) = omega arith in e)

  close_end : (done : List Acc) (end : List J) (behind : List ℕ) → AllClose version depth stream end behind → AllClose version depth stream (map passed done ++ end) behind
  close_end [] end behind closes = closes
  close_end (a ∷ done) end behind closes = (tt, close_end done end behind closes)

  -- where all queries were accepted
  of_passed : (done : List Acc) (queries : List Query) (blocks : List (List ℕ)) → map (λ (q : Question). q.query) (asked done) ≡ take (length (asked done)) queries
      → map (λ (q : Question). q.block) (asked done) ≡ take (length (asked done)) blocks → length done ≡ length queries → AreOf version depth stream (map passed done ++ []) queries blocks
  of_passed [] [] blocks e f all = tt
  of_passed [] (query ∷ queries) blocks e f all = absurd (omega (arith, all))
  of_passed (a ∷ done) [] blocks e f all = absurd (omega (arith, all))
  of_passed (a ∷ done) (query ∷ queries) [] e f all = absurd cc
  of_passed (a ∷ done) (query ∷ queries) (block ∷ blocks) e f all =
      let same : a.question.query ≡ query = cc in
      let at : a.question.block ≡ block = cc in
      let others : map (λ (q : Question). q.query) (asked done) ≡ take (length (asked done)) queries = cc in
      let places : map (λ (q : Question). q.block) (asked done) ≡ take (length (asked done)) blocks = cc in
      (same, at, of_passed done queries blocks others places (omega (arith, all)))

  -- where the last one was not
  of_failed : (done : List Acc) (last : Question) (fault : Fault) (faulty : IsFaulty version depth stream last fault) (queries : List Query) (blocks : List (List ℕ))
      → map (λ (q : Question). q.query) (asked done ++ last ∷ []) ≡ take (length (asked done ++ last ∷ [])) queries
      → map (λ (q : Question). q.block) (asked done ++ last ∷ []) ≡ take (length (asked done ++ last ∷ [])) blocks → AreOf version depth stream (map passed done ++ failed last fault faulty ∷ []) queries blocks
  of_failed [] last fault faulty [] blocks e f = absurd cc
  of_failed [] last fault faulty (query ∷ queries) [] e f = absurd cc
  of_failed [] last fault faulty (query ∷ queries) (block ∷ blocks) e f =
      let same : last.query ≡ query = cc in
      let at : last.block ≡ block = cc in
      (same, at, refl)
  of_failed (a ∷ done) last fault faulty [] blocks e f = absurd cc
  of_failed (a ∷ done) last fault faulty (query ∷ queries) [] e f = absurd cc
  of_failed (a ∷ done) last fault faulty (query ∷ queries) (block ∷ blocks) e f =
      let same : a.question.query ≡ query = cc in
      let at : a.question.block ≡ block = cc in
      let others : map (λ (q : Question). q.query) (asked done ++ last ∷ []) ≡ take (length (asked done ++ last ∷ [])) queries = cc in
      let places : map (λ (q : Question). q.block) (asked done ++ last ∷ []) ≡ take (length (asked done ++ last ∷ [])) blocks = cc in
      (same, at, of_failed done last fault faulty queries blocks others places)

  -- nothing follows those of a run that took all
  pub close_all : (xs : List J) → AllClose version depth stream xs []
  close_all [] = tt
  close_all (x ∷ xs) = (close_one x.outcome, close_all xs)
    where
      close_one : (o : Outcome) → Closes o []
      close_one (Ok answer) = tt
      close_one (Err fault) = λ is. refl

-- ---- the run

-- the questions that were judged, what was heard and written for them, and what they came to
pub record IsJudgedRun (i : Inquiry) (bytes : List ℕ) (talk : List TalkEvent) (wrote : List ℕ) (status : Status) : Type 0 where
  pub judged : List (Judged i.version i.depth (records i.depth i.form bytes).legal)
  pub challenges : List ℕ
  pub drawn : i.challenges ≡ Some challenges
  pub are : AreOf i.version i.depth (records i.depth i.form bytes).legal judged i.queries (cut i.depth challenges)
  pub heard : heard talk ≡ replies_of i.version i.depth (records i.depth i.form bytes).legal judged
  pub closes : (first left : List ℕ) → Follows first talk left → AllClose i.version i.depth (records i.depth i.form bytes).legal judged left
  pub report : wrote ≡ told 0 (verdicts i.version i.depth (records i.depth i.form bytes).legal judged)
  pub ends : status ≡ came_to 0 (verdicts i.version i.depth (records i.depth i.form bytes).legal judged)

-- the end of the link was found only where nothing was left
end_found : (first left : List ℕ) (before talk : List TalkEvent) → Follows first talk left → talk ≡ before ++ Ended ∷ [] → left ≡ []
end_found first left before talk follows is =
    let all : first ≡ heard before = follows.ended before [] is in
    let same : heard talk ≡ heard before = ap heard is ∙ heard-append before (Ended ∷ []) ∙ append-nil (heard before) in
    sym (append_cancel_left (heard before) [] left (append-nil (heard before) ∙ sym all ∙ follows.came ∙ ap (λ (l : List ℕ). l ++ left) same))

module _ (i : Inquiry) (x : Exchange) where
  abbrev us : List Update
  us = updates i x

  pub accepted_run : AllWritten i x → IsJudgedRun i x.stream x.talk x.report statuses.Accepted
  accepted_run w =
      let questions = questions_of i x w.done in
      let are = w.reached.are_questions in record {
        judged = map (passed i.version i.depth us) w.done ++ [];
        challenges = are.challenges;
        drawn = are.drawn;
        are = of_passed i.version i.depth us w.done i.queries (cut i.depth are.challenges) are.queries are.blocks w.all;
        heard = ap heard w.reached.talk
            ∙ heard-talk i.version i.depth us questions (bye_sent i.version) (done_heard i.version i.depth us w.done)
            ∙ ap (λ (l : List ℕ). replied questions ++ l) (heard-outs (flat_map (spelling i.version) (messages.Bye ∷ []))) ∙ append-nil (replied questions)
            ∙ sym (ap replied (questions_back i.version i.depth us w.done [] ∙ append-nil questions));
        closes = λ first left follows. close_end i.version i.depth us w.done [] left tt;
        report = w.report ∙ sym (told_end i.version i.depth us 0 w.done [] ∙ append-nil (written i.version i.depth us w.done));
        ends = sym (came_end i.version i.depth us 0 w.done []);
      }

  -- the end of the link is none of its verdicts
  pub accepted_closes : (w : AllWritten i x) (left : List ℕ) → AllClose i.version i.depth us (accepted_run w).judged left
  unfolding accepted_run
  accepted_closes w left = close_end i.version i.depth us w.done [] left tt

  rejected_run : (query round : ℕ) (reason : Reason) → OneFaulty i x query round reason → IsJudgedRun i x.stream x.talk x.report (statuses.Rejected query round reason)
  rejected_run query round reason w =
      let fault : Fault = record { round = round; reason = reason } in
      let end = failed i.version i.depth us w.last fault w.faulty ∷ [] in
      let questions = questions_of i x w.done ++ w.last ∷ [] in
      let are = w.reached.are_questions in
      let count = w.number in
      let number : query ≡ suc (0 + length w.done) = omega (arith, count) in
      let said = stream_sent i.version i.depth us ++ flat_map (said_for i.version i.depth us) questions in
      let each = All-append (IsHeard i.version i.depth us) (questions_of i x w.done) (w.last ∷ []) (done_heard i.version i.depth us w.done)
      (All-cons (IsHeard i.version i.depth us) w.last [] (faulty_heard i.version i.depth us w.last.query w.last.block w.last.replies fault w.faulty) (All-nil (IsHeard i.version i.depth us))) in record {
        judged = map (passed i.version i.depth us) w.done ++ end;
        challenges = are.challenges;
        drawn = are.drawn;
        are = of_failed i.version i.depth us w.done w.last fault w.faulty i.queries (cut i.depth are.challenges) are.queries are.blocks;
        heard = ap heard w.reached.talk
            ∙ heard-talk i.version i.depth us questions (ending reason) each
            ∙ ap (λ (l : List ℕ). replied questions ++ l) (heard-ending reason) ∙ append-nil (replied questions)
            ∙ sym (ap replied (questions_back i.version i.depth us w.done end));
        closes = λ first left follows. close_end i.version i.depth us w.done end left (
          λ is. end_found first left said x.talk follows (w.reached.talk ∙ ap (λ (r : Reason). said ++ ending r) is),
          tt,
        );
        report = w.report ∙ ap (λ (n : ℕ). written i.version i.depth us w.done ++ rejection n round reason) number ∙ sym (told_end i.version i.depth us 0 w.done end);
        ends = ap (λ (n : ℕ). statuses.Rejected n round reason) number ∙ sym (came_end i.version i.depth us 0 w.done end);
      }

  pub judged_run : (status : Status) → IsTrue (is_verdict status) → VerdictClause i x status → IsJudgedRun i x.stream x.talk x.report status
  judged_run statuses.Accepted is w = accepted_run w
  judged_run (statuses.Rejected query round reason) is w = rejected_run query round reason w
  judged_run _ is w = absurd cc

-- ---- two runs of one inquiry

-- of which one heard a front of what the other heard, and found the end only behind all of it
pub judged_same : (i : Inquiry) (bytes left : List ℕ) (talk other : List TalkEvent) (wrote lines : List ℕ) (status given : Status) → IsJudgedRun i bytes talk wrote status → (q : IsJudgedRun i bytes other lines given)
    → heard talk ≡ heard other ++ left → AllClose i.version i.depth (records i.depth i.form bytes).legal q.judged left → (left ≡ []) × (given ≡ status) × (lines ≡ wrote)
judged_same i bytes left talk other wrote lines status given p q is closes =
    let us : List Update = (records i.depth i.form bytes).legal in
    let same : q.challenges ≡ p.challenges = let a = p.drawn in let b = q.drawn in cc in
    let are = subst (λ (c : List ℕ). AreOf i.version i.depth us q.judged i.queries (cut i.depth c)) same q.are in
    let both = same_verdicts i.version i.depth us p.judged q.judged i.queries (cut i.depth p.challenges) [] left p.are are (close_all i.version i.depth us p.judged) closes
    (append-nil (replies_of i.version i.depth us p.judged) ∙ sym p.heard ∙ is ∙ ap (λ (l : List ℕ). l ++ left) q.heard) in
    (sym both.0, q.ends ∙ ap (came_to 0) both.1 ∙ sym p.ends, q.report ∙ ap (told 0) both.1 ∙ sym p.report)
