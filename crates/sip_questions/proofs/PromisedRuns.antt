-- A run of questions that keeps to the clauses of verdicts and of causes keeps to those of counts and of completeness: each question does what one of its kind does.
use Rattle.std.proofs.Common.{◌≡◌, ◌≢◌, ℕ, ◌/◌, ◌≤◌, pos, Bool, true, false, ◌&&◌, nat_le, nat_lt, Option, List, [], ◌∷◌, ◌++◌, None, All, refl, sym, ap, ◌∙◌, arith}
use Rattle.std.proofs.lemmas.Bool.{ltb-true}
use Rattle.std.proofs.lemmas.List.Elements.{All-cons, All-head, All-nil, All-tail}
use Rattle.sip_ports.specs.Ports.{heard}
use Rattle.sip_vector.specs.declared.update.Update.{Update}
use Rattle.sip_vector.specs.Pieces.{cut}
use Rattle.sip_vector.specs.Answers.{Answer, pairs}
use Rattle.sip_vector.specs.Streams.{IsLegal, weight}
use Rattle.sip_vector.specs.Thresholds.{is_wide, most_hitters}
use Rattle.sip_stream.proofs.LegalRecords.{records_legal}
use Rattle.sip_vector.specs.declared.query.Query.TheVariants.{Sub}
use Rattle.sip_wire.specs.declared.message.Reason.TheVariants as reasons
use Rattle.sip_wire.specs.Versions.{Speaks}
use Rattle.sip_replies.specs.Replies.{Fault}
use Rattle.sip_replies.specs.Talks.{asked_unless}
use Rattle.sip_replies.proofs.Hearing.{heard-asked}
use Rattle.sip_verifier.specs.declared.status.Status.{Status}
use Rattle.sip_verifier.specs.CompletenessClause.{HasFewEntries}
use Rattle.sip_verifier.specs.Exchanges.{Exchange}
use Rattle.sip_verifier.specs.Kinds.{kind_row}
use Rattle.sip_verifier.specs.runs.Concluding.{Ended}
use Rattle.sip_verifier.specs.runs.CountClause.{CountClause}
use Rattle.sip_verifier.specs.runs.Manners as manners
use Rattle.sip_verifier.specs.runs.Runs.{Run, updates}
use Rattle.sip_verifier.specs.runs.VerdictClause.{VerdictClause}
use Rattle.sip_verifier.specs.Snapshots.{Counts}
use Rattle.sip_verifier.specs.Widths.{first_true, is_too_wide}
use Rattle.sip_verifier.proofs.Blocks.{IsBlock}
use Rattle.sip_verifier.proofs.CompleteManners.{Judges, all_zipped, completes}
use Rattle.sip_verifier.proofs.CountedQuestions.{few_wrong, question_counts}
use Rattle.sip_verifier.proofs.HeardQuestions.{faulty_heard, question_heard}
use Rattle.sip_verifier.proofs.HeardTalks.{heard_accepted}
use Rattle.sip_verifier.proofs.HonestQuestions.{question_done, question_faulty}
use Rattle.sip_verifier.proofs.RootAsked.{has_code}
use Rattle.sip_verifier.proofs.WideQueries.{none_wide}
use Rattle.sip_verifier.proofs.WrittenReports.{report_counts}
use Rattle.sip_above.specs.declared.large.Large.{Large}
use Rattle.sip_above.specs.Manner.{protocol_of}
use Rattle.sip_above.specs.Questions as larges
use Rattle.sip_above.proofs.HonestLarges.{large_done, large_faulty}
use Rattle.sip_above.proofs.LargeCounts.{few_large, large_counts}
use Rattle.sip_lookup.proofs.HonestLooks.{look_done, look_faulty}
use Rattle.sip_lookup.proofs.WrittenLooks.{few_looks, look_counts}
use Rattle.sip_moments.specs.Questions.{ask_of}
use Rattle.sip_moments.proofs.CompleteMoments as moments
use Rattle.sip_moments.proofs.WrittenMoments.{few_moments, moment_counts}
use Rattle.sip_questions.specs.declared.question.Question.{Question}
use Rattle.sip_questions.specs.declared.question.Question.TheVariants as questions
use Rattle.sip_questions.specs.Counting.{FewFor, CountsOf, counting}
use Rattle.sip_questions.specs.Honest.{CanAnswer, answer, honest_bytes, honesty}
use Rattle.sip_questions.specs.Promises.{CanPose, CanRun, IsWhole, QuestionClauses}
use Rattle.sip_questions.specs.Questions.{AcceptsOf, Answered, IsFaultyOf, Posed, asking, first_refusal, refusal_of, said_of, to_large, to_query, to_lookup, to_moment}

-- a weight with few entries of at least a threshold is not too wide
few_narrow : (t n : ℕ) → n / t ≤ most_hitters → is_wide t (pos n) ≡ false
few_narrow t n few = by_tests (nat_le t n) (nat_lt most_hitters (n / t)) refl refl
  where
    by_tests : (a b : Bool) → nat_le t n ≡ a → nat_lt most_hitters (n / t) ≡ b → (a && b) ≡ false
    by_tests false b is also = refl
    by_tests true false is also = refl
    by_tests true true is also = absurd (let less = ltb-true most_hitters (n / t) also in omega (arith, less, few))

-- the one test of a list that none passes
one_false : (test : Bool) → first_true (test ∷ []) ≡ None → test ≡ false
one_false true none = absurd (let no = none in cc)
one_false false none = refl

module _ (r : Run Question) (x : Exchange) (can : CanRun r x) where
  abbrev stream : List Update
  stream = updates r x

  legal : IsLegal r.depth stream
  legal = records_legal r.depth r.form x.stream

  -- the query about an interval can be asked
  sub_speaks : (lo hi : ℕ) → Speaks r.version r.depth (Sub lo hi)
  sub_speaks lo hi = record { shallow = can.shallow; has_code = has_code r.version lo hi }

  -- ---- counts

  few_one : (q : Question) → CanPose r.version r.depth q → FewFor r.version r.depth stream q
  few_one (questions.Query query) may = few_wrong r.version r.depth stream query may.0 legal
  few_one (questions.Lookup lookup) may = few_looks r.version r.depth stream legal lookup may
  few_one (questions.Moment moment) may = few_moments r.version r.depth stream legal moment
  few_one (questions.Large large) may = few_large r.version r.depth stream large legal

  few_all : (qs : List Question) → All (CanPose r.version r.depth) qs → All (FewFor r.version r.depth stream) qs
  few_all [] all = All-nil (FewFor r.version r.depth stream)
  few_all (q ∷ qs) all =
      All-cons (FewFor r.version r.depth stream) q qs (few_one q (All-head (CanPose r.version r.depth) q qs all)) (few_all qs (All-tail (CanPose r.version r.depth) q qs all))

  one_counts : (t : Posed) (q : Question) (written : Answered) → CanPose r.version r.depth q → AcceptsOf r.version r.depth stream t q written → CountsOf r.version r.depth stream t q written
  one_counts t (questions.Query query) (to_query written) may accepts = question_counts r.version r.depth stream query t.block t.replies written may.0.1 legal accepts
  one_counts t (questions.Lookup lookup) (to_lookup written) may accepts = look_counts r.version r.depth stream legal (record { query = lookup; block = t.block; replies = t.replies }) written may accepts
  one_counts t (questions.Moment moment) (to_moment written) may accepts = moment_counts r.version r.depth stream legal (record { query = moment; block = t.block; replies = t.replies }) written accepts
  one_counts t (questions.Large large) (to_large written) may accepts = large_counts r.version r.depth stream (record { query = large; block = t.block; replies = t.replies }) written legal accepts
  one_counts t (questions.Query query) (to_large written) may accepts = absurd accepts
  one_counts t (questions.Lookup lookup) (to_large written) may accepts = absurd accepts
  one_counts t (questions.Moment moment) (to_large written) may accepts = absurd accepts
  one_counts t (questions.Large large) (to_query written) may accepts = absurd accepts
  one_counts t (questions.Large large) (to_lookup written) may accepts = absurd accepts
  one_counts t (questions.Large large) (to_moment written) may accepts = absurd accepts
  one_counts t (questions.Query query) (to_lookup written) may accepts = absurd accepts
  one_counts t (questions.Query query) (to_moment written) may accepts = absurd accepts
  one_counts t (questions.Lookup lookup) (to_query written) may accepts = absurd accepts
  one_counts t (questions.Lookup lookup) (to_moment written) may accepts = absurd accepts
  one_counts t (questions.Moment moment) (to_query written) may accepts = absurd accepts
  one_counts t (questions.Moment moment) (to_lookup written) may accepts = absurd accepts

  counted : (status : Status) → VerdictClause asking r x status → CountClause asking counting r x
  counted =
      report_counts asking counting r x (few_all r.queries can.asked) (CanPose r.version r.depth) can.asked
      (λ t written may accepts. one_counts t t.query written may accepts)

  -- ---- an honest helper

  -- the question can be asked and answered
  record CanDo (q : Question) : Type 0 where
    pose : CanPose r.version r.depth q
    answers : CanAnswer r.version r.depth stream q

  all_do : (qs : List Question) → All (CanPose r.version r.depth) qs → All (CanAnswer r.version r.depth stream) qs → All CanDo qs
  all_do [] pose answers = All-nil CanDo
  all_do (q ∷ qs) pose answers =
      All-cons CanDo q qs (record { pose = All-head (CanPose r.version r.depth) q qs pose; answers = All-head (CanAnswer r.version r.depth stream) q qs answers })
      (all_do qs (All-tail (CanPose r.version r.depth) q qs pose) (All-tail (CanAnswer r.version r.depth stream) q qs answers))

  -- at a whole block
  abbrev CanBeJudged : Question × List ℕ → Type 0
  CanBeJudged ask = CanDo ask.0 × IsWhole r.depth ask.1

  as_block : (block : List ℕ) → IsWhole r.depth block → IsBlock r.depth block
  as_block block whole = record { size = whole.size; below = whole.below }

  one_accepted : (t : Posed) (q : Question) (written : Answered) (b a : List ℕ) → CanDo q → IsWhole r.depth t.block → AcceptsOf r.version r.depth stream t q written
      → honest_bytes r.version r.depth stream t.block q ++ b ≡ heard (said_of r.version r.depth stream t q) ++ a → (b ≡ a) × (written ≡ answer r.depth stream q)
  one_accepted t (questions.Query query) (to_query written) b a may whole accepts agree =
      let both = question_done r.version r.depth stream can.some legal query t.block t.replies written b a may.pose.0.1 may.pose.1 may.answers (as_block t.block whole) accepts
      (agree ∙ ap (λ (l : List ℕ). l ++ a) (question_heard (kind_row r.version r.depth stream query) query t.block t.replies written accepts)) in
      (both.0, ap to_query both.1)
  one_accepted t (questions.Lookup lookup) (to_lookup written) b a may whole accepts agree =
      let both = look_done r.version r.depth stream can.some legal sub_speaks (record { query = lookup; block = t.block; replies = t.replies }) may.pose (as_block t.block whole) b a agree written accepts in
      (both.0, ap to_lookup both.1)
  one_accepted t (questions.Moment moment) (to_moment written) b a may whole accepts agree =
      let both = moments.accepted r.version r.depth stream can.some legal (record { query = moment; block = t.block; replies = t.replies }) written b a (may.answers, as_block t.block whole) accepts
      (agree ∙ ap (λ (l : List ℕ). l ++ a) (heard-asked r.version (ask_of moment) t.block t.replies (omega (arith, accepts.all)))) in
      (both.0, ap to_moment both.1)
  one_accepted t (questions.Large large) (to_large written) b a may whole accepts agree =
      let own : manners.Question Large = record { query = large; block = t.block; replies = t.replies } in
      let P = protocol_of r.version r.depth stream own in
      let both = large_done r.version r.depth stream can.some legal own may.pose.0.0 may.pose.1 whole.size written b a accepts
      (agree ∙ ap (λ (l : List ℕ). l ++ a) (heard_accepted P (larges.ask_of large) t.block t.replies (pairs written) P.unasked accepts)) in
      (both.0, ap to_large both.1)
  one_accepted t (questions.Query query) (to_large written) b a may whole accepts agree = absurd accepts
  one_accepted t (questions.Lookup lookup) (to_large written) b a may whole accepts agree = absurd accepts
  one_accepted t (questions.Moment moment) (to_large written) b a may whole accepts agree = absurd accepts
  one_accepted t (questions.Large large) (to_query written) b a may whole accepts agree = absurd accepts
  one_accepted t (questions.Large large) (to_lookup written) b a may whole accepts agree = absurd accepts
  one_accepted t (questions.Large large) (to_moment written) b a may whole accepts agree = absurd accepts
  one_accepted t (questions.Query query) (to_lookup written) b a may whole accepts agree = absurd accepts
  one_accepted t (questions.Query query) (to_moment written) b a may whole accepts agree = absurd accepts
  one_accepted t (questions.Lookup lookup) (to_query written) b a may whole accepts agree = absurd accepts
  one_accepted t (questions.Lookup lookup) (to_moment written) b a may whole accepts agree = absurd accepts
  one_accepted t (questions.Moment moment) (to_query written) b a may whole accepts agree = absurd accepts
  one_accepted t (questions.Moment moment) (to_lookup written) b a may whole accepts agree = absurd accepts

  one_faulty : (t : Posed) (q : Question) (fault : Fault) (b a : List ℕ) → CanDo q → IsWhole r.depth t.block → IsFaultyOf r.version r.depth stream t q fault → fault.reason ≢ reasons.Closed
      → honest_bytes r.version r.depth stream t.block q ++ b ≡ heard (said_of r.version r.depth stream t q) ++ a → ⊥
  one_faulty t (questions.Query query) fault b a may whole faulty other agree =
      question_faulty r.version r.depth stream can.some legal query t.block t.replies fault b a may.pose.0.1 may.pose.1 may.answers (as_block t.block whole) faulty other
      (agree ∙ ap (λ (l : List ℕ). l ++ a) (faulty_heard r.version r.depth stream query t.block t.replies fault faulty))
  one_faulty t (questions.Lookup lookup) fault b a may whole faulty other agree =
      look_faulty r.version r.depth stream can.some legal sub_speaks (record { query = lookup; block = t.block; replies = t.replies }) may.pose (as_block t.block whole) b a agree fault faulty other
  one_faulty t (questions.Moment moment) fault b a may whole faulty other agree =
      moments.faulty r.version r.depth stream can.some legal (record { query = moment; block = t.block; replies = t.replies }) fault b a (may.answers, as_block t.block whole) faulty other
      (agree ∙ ap (λ (l : List ℕ). l ++ a) (heard-asked r.version (ask_of moment) t.block t.replies (omega (arith, faulty.taken))))
  one_faulty t (questions.Large large) fault b a may whole faulty other agree =
      let own : manners.Question Large = record { query = large; block = t.block; replies = t.replies } in
      large_faulty r.version r.depth stream can.some legal own may.pose.0.0 may.pose.1 whole.size fault b a faulty other
      (agree ∙ ap (λ (l : List ℕ). l ++ a)
      (ap (λ (u : Option Answer). heard (asked_unless u r.version (larges.ask_of large) t.block t.replies)) faulty.asked
      ∙ heard-asked r.version (larges.ask_of large) t.block t.replies (omega (arith, faulty.taken))))

  judges : Judges asking honesty r x CanBeJudged
  judges = record {
    accepted = λ t written b a may accepts agree. one_accepted t t.query written b a may.0 may.1 accepts agree;
    faulty = λ t fault b a may faulty other agree. one_faulty t t.query fault b a may.0 may.1 faulty other agree;
  }

  -- none is refused that can be answered
  not_refused : (number : ℕ) (q : Question) → CanAnswer r.version r.depth stream q → refusal_of stream number q ≡ None
  not_refused number (questions.Query query) few =
      let narrow : is_too_wide stream query ≡ false = one_false (is_too_wide stream query) (none_wide r.version r.depth stream (query ∷ []) legal.items (All-cons (HasFewEntries r.version r.depth stream) query [] few (All-nil (HasFewEntries r.version r.depth stream)))) in
      rw narrow refl
  not_refused number (questions.Lookup lookup) few = refl
  not_refused number (questions.Moment moment) few = rw few.low refl
  not_refused number (questions.Large large) few =
      let narrow : is_wide large.at_least (pos (weight stream large.side)) ≡ false = few_narrow large.at_least (weight stream large.side) few in
      rw narrow refl

  none_refused : (number : ℕ) (qs : List Question) → All (CanAnswer r.version r.depth stream) qs → first_refusal stream number qs ≡ None
  none_refused number [] all = refl
  none_refused number (q ∷ qs) all =
      let here = not_refused number q (All-head (CanAnswer r.version r.depth stream) q qs all) in
      rw here (none_refused _ qs (All-tail (CanAnswer r.version r.depth stream) q qs all))

  pub promised : (before now : Counts) (status : Status) → Ended asking r x before now status → QuestionClauses r x before now status
  promised before now status e = record {
    verdict = e.verdict;
    talk = e.talk;
    cause = e.cause;
    count = counted status e.verdict;
    complete = completes asking honesty r x CanBeJudged judges
        (λ h. all_zipped CanDo (IsWhole r.depth) r.queries (cut r.depth h.challenges) (all_do r.queries can.asked h.can) (can.blocks h.challenges h.drawn))
        (λ h status refused. let none = none_refused 1 r.queries h.can in absurd (let both = sym none ∙ refused in cc)) can.short
        before now status e.verdict e.cause;
  }
