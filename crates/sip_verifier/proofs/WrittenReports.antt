-- A report that keeps to the clause of verdicts is counted, in any manner whose accepted questions
-- are.
use Rattle.std.proofs.Common.{◌≡◌, ◌⊎◌, ℕ, suc, List, [], ◌∷◌, ◌++◌, length, map, All, Some, None, inl, inr, refl, sym, ap, subst, ◌∙◌, append-nil, append_assoc}
use Rattle.std.specs.Prelude.{option_to_list}
use Rattle.std.proofs.lemmas.List.{map-append}
use Rattle.std.proofs.lemmas.Grind.{flat_map-append}
use Rattle.std.proofs.lemmas.List.Elements.{All-cons, All-nil, All-head, All-tail, All-take}
use Rattle.sip_ports.specs.declared.port.TalkEvent.{TalkEvent}
use Rattle.sip_ports.specs.Ports.{outs}
use Rattle.sip_replies.specs.Talks.{IsPrefix, ending}
use Rattle.sip_wire.specs.declared.message.Reason.{Reason}
use Rattle.sip_verifier.specs.declared.status.Port.TheVariants as ports
use Rattle.sip_verifier.specs.declared.status.Status.{Status}
use Rattle.sip_verifier.specs.declared.status.Status.TheVariants as statuses
use Rattle.sip_verifier.specs.Exchanges.{Exchange}
use Rattle.sip_verifier.specs.Reports.{rejection}
use Rattle.sip_verifier.specs.runs.CountClause.{Counting, Written, questions_written, lines_written, IsRejection, AreInTalk, CountClause}
use Rattle.sip_verifier.specs.runs.Manners.{Asking, Question}
use Rattle.sip_verifier.specs.runs.Runs.{Run, manner, updates, Done, questions_of, lines, Reached}
use Rattle.sip_verifier.specs.runs.VerdictClause.{OneFaulty, WereReached, PartWritten, PartRejected, CutInLine, UnjudgedWritten, VerdictClause}

-- Something holds of each query, by which an accepted question counts.
module _ {Q A : Type 0} (asking : Asking Q A) (counting : Counting Q A) (r : Run Q) (x : Exchange)
    (few : All (counting.FewFor r.version r.depth (updates r x)) r.queries) (P : Q → Type 0) (each : All P r.queries)
    (counts : (q : Question Q) (answer : A) → P q.query → (manner asking r x).Accepts q answer → counting.CountsFor r.version r.depth (updates r x) q answer) where
  -- what was written of accepted questions
  abbrev pub written_of : Done asking r x → List (Written Q A)
  written_of done = map (λ a. record { question = a.question; answer = a.answer }) done

  questions_same : (done : Done asking r x) → questions_written (written_of done) ≡ questions_of asking r x done
  questions_same [] = refl
  questions_same (a ∷ done) = ap (λ ts. a.question ∷ ts) (questions_same done)

  lines_same : (done : Done asking r x) → lines_written asking counting r x (written_of done) ≡ lines asking r x done
  lines_same [] = refl
  lines_same (a ∷ done) = ap (λ ls. (manner asking r x).line a.question.query a.answer ++ ls) (lines_same done)

  counted_of : (done : Done asking r x) → All P (map (λ (t : Question Q). t.query) (questions_of asking r x done)) → All (λ (w : Written Q A). counting.CountsFor r.version r.depth (updates r x) w.question w.answer) (written_of done)
  counted_of [] all = All-nil (λ (w : Written Q A). counting.CountsFor r.version r.depth (updates r x) w.question w.answer)
  counted_of (a ∷ done) all =
      All-cons (λ (w : Written Q A). counting.CountsFor r.version r.depth (updates r x) w.question w.answer) (record { question = a.question; answer = a.answer }) (written_of done)
      (counts a.question a.answer (All-head P a.question.query _ all) a.accepts)
      (counted_of done (All-tail P a.question.query _ all))

  -- this holds of the queries of questions that were reached
  all_fit : (questions : List (Question Q)) (rest : List TalkEvent) → Reached asking r x questions rest → All P (map (λ (t : Question Q). t.query) questions)
  all_fit questions rest reached = subst (All P) (sym reached.are_questions.queries) (All-take P (length questions) r.queries each)

  front_fits : (questions more : List (Question Q)) → All P (map (λ (t : Question Q). t.query) (questions ++ more)) → All P (map (λ (t : Question Q). t.query) questions)
  front_fits [] more all = All-nil P
  front_fits (t ∷ questions) more all =
      All-cons P t.query (map (λ (t : Question Q). t.query) questions) (All-head P t.query _ all) (front_fits questions more (All-tail P t.query _ all))

  talk_fits : (questions : List (Question Q)) → AreInTalk asking counting r x questions → All P (map (λ (t : Question Q). t.query) questions)
  talk_fits questions (inl none) = subst (λ (ts : List (Question Q)). All P (map (λ (t : Question Q). t.query) ts)) (sym none) (All-nil P)
  talk_fits questions (inr (after, rest, reached)) = front_fits questions (option_to_list after) (all_fit (questions ++ option_to_list after) rest reached)

  -- What was reported: the lines of accepted questions that the talk has, and perhaps a rejection's line
  -- behind them.
  pub record Reported : Type 0 where
    pub done : Done asking r x
    pub reached : AreInTalk asking counting r x (questions_of asking r x done)
    pub rejected : List ℕ
    pub is_rejection : IsRejection rejected
    pub report : IsPrefix x.report (lines asking r x done ++ rejected)

  -- that has the clause
  pub counts_of : Reported → CountClause asking counting r x
  counts_of w = record {
    few = few;
    lines = written_of w.done;
    questions = subst (AreInTalk asking counting r x) (sym (questions_same w.done)) w.reached;
    rejected = w.rejected;
    is_rejection = w.is_rejection;
    report = subst (λ (ls : List ℕ). IsPrefix x.report (ls ++ w.rejected)) (sym (lines_same w.done)) w.report;
    counted = counted_of w.done (talk_fits (questions_of asking r x w.done) w.reached);
  }

  -- with the lines of these questions
  pub counts_lines : (w : Reported) → (counts_of w).lines ≡ written_of w.done
  unfolding counts_of
  counts_lines w = refl

  reported_of : (done : Done asking r x) → AreInTalk asking counting r x (questions_of asking r x done) → (rejected : List ℕ) → IsRejection rejected → IsPrefix x.report (lines asking r x done ++ rejected) → Reported
  reported_of done reached rejected is report = record { done = done; reached = reached; rejected = rejected; is_rejection = is; report = report }

  were_in_talk : (done : Done asking r x) → WereReached asking r x done → AreInTalk asking counting r x (questions_of asking r x done)
  were_in_talk done (inl none) = inl (ap (questions_of asking r x) none)
  were_in_talk done (inr (rest, reached)) = inr (None, rest, subst (λ (ts : List (Question Q)). Reached asking r x ts rest) (sym (append-nil (questions_of asking r x done))) reached)

  -- a report of whole lines
  whole : (done : Done asking r x) → AreInTalk asking counting r x (questions_of asking r x done) → x.report ≡ lines asking r x done → Reported
  whole done reached report = reported_of done reached [] (inl refl) ([], ap (λ (ls : List ℕ). ls ++ []) (sym report))

  nothing : x.report ≡ [] → Reported
  nothing report = whole [] (inl refl) report

  front_of : (before part all more : List ℕ) → x.report ≡ before ++ part → all ≡ part ++ more → before ++ all ≡ x.report ++ more
  front_of before part all more report is = ap (λ (l : List ℕ). before ++ l) is ∙ sym (append_assoc before part more) ∙ ap (λ (l : List ℕ). l ++ more) (sym report)

  -- a report that ends in a part of an answer's line
  part_written : (done : Done asking r x) (part : List ℕ) → PartWritten asking r x done part → x.report ≡ lines asking r x done ++ part → Reported
  part_written done part w report =
      let all = done ++ w.next ∷ [] in
      let questions : questions_of asking r x all ≡ questions_of asking r x done ++ w.next.question ∷ [] = map-append _ done (w.next ∷ []) in
      let ends : lines asking r x all ≡ lines asking r x done ++ (manner asking r x).line w.next.question.query w.next.answer = flat_map-append _ done (w.next ∷ []) ∙ ap (λ (l : List ℕ). lines asking r x done ++ l) (append-nil _) in
      reported_of all
      (inr (None, [], subst (λ (ts : List (Question Q)). Reached asking r x ts []) (sym questions ∙ sym (append-nil (questions_of asking r x all))) w.reached)) [] (inl refl)
      (w.front.0, append-nil _ ∙ ends ∙ front_of (lines asking r x done) part ((manner asking r x).line w.next.question.query w.next.answer) w.front.0 report w.front.1)

  -- a report that ends in a part of a rejection's line
  part_rejected : (done : Done asking r x) (part : List ℕ) → PartRejected asking r x done part → x.report ≡ lines asking r x done ++ part → Reported
  part_rejected done part w report =
      reported_of done (inr (Some w.last, ending w.fault.reason, w.reached)) (rejection (suc (length done)) w.fault.round w.fault.reason)
      (inr (suc (length done), w.fault.round, w.fault.reason, refl))
      (w.front.0, front_of (lines asking r x done) part (rejection (suc (length done)) w.fault.round w.fault.reason) w.front.0 report w.front.1)

  one_rejected : (query round : ℕ) (reason : Reason) → OneFaulty asking r x query round reason → Reported
  one_rejected query round reason w =
      reported_of w.done (inr (Some w.last, ending reason, w.reached)) (rejection query round reason) (inr (query, round, reason, refl)) ([], sym w.report ∙ sym (append-nil x.report))

  cut_in_line : (w : CutInLine asking r x) → (verdict : PartWritten asking r x w.done w.part ⊎ PartRejected asking r x w.done w.part) → Reported
  cut_in_line w (inl written) = part_written w.done w.part written w.report
  cut_in_line w (inr other) = part_rejected w.done w.part other w.report

  -- a report that has the lines of the queries before one that was not judged
  unjudged : UnjudgedWritten asking r x → Reported
  unjudged (end, report) = whole end.done (inr (Some end.last, end.ended, end.reached)) report

  pub reported : (status : Status) → VerdictClause asking r x status → Reported
  reported statuses.Accepted v = whole v.done (were_in_talk v.done (inr (outs (manner asking r x).farewell, v.reached))) v.report
  reported (statuses.Rejected query round reason) v = one_rejected query round reason v
  reported (statuses.Usage word) v = nothing v
  reported (statuses.BadStream at why) v = nothing v
  reported statuses.BadSeed v = nothing v
  reported statuses.SeedSpent v = nothing v
  reported (statuses.TooWide query) v = nothing v
  reported (statuses.TooHigh query) v = nothing v
  reported (statuses.ReadFault port) v = nothing v
  reported (statuses.WriteFault ports.Report) v = cut_in_line v v.verdict
  reported (statuses.WriteFault ports.Keep) (inl none) = nothing none.1
  reported (statuses.WriteFault ports.Keep) (inr v) = unjudged v
  reported statuses.PeerFault v = whole v.done (were_in_talk v.done v.reached) v.report
  reported statuses.OutOfMemory (inl v) = whole v.done (were_in_talk v.done v.reached) v.report
  reported statuses.OutOfMemory (inr (inl v)) = cut_in_line v v.verdict
  reported statuses.OutOfMemory (inr (inr v)) = unjudged v
  reported _ v = absurd v

  pub report_counts : (status : Status) → VerdictClause asking r x status → CountClause asking counting r x
  report_counts status v = counts_of (reported status v)
