-- A report that keeps to the clause of verdicts is counted for all of its queries together.
use Rattle.std.proofs.Common.{◌≡◌, ◌≢◌, ◌⊎◌, ℕ, zero, suc, ◌-◌, ◌*◌, ◌^◌, ◌<◌, ◌≤◌, Bool, true, false, pos, List, [], ◌∷◌, ◌++◌, length, map, take, drop, All, Some, None, inl, inr, if◌then◌else◌, refl, sym, ap, subst, ◌∙◌, arith}
use Rattle.std.specs.Prelude.{⊤, nat_le, option_to_list, slice_index_or, ◌≤ℤ◌}
use Rattle.std.proofs.Math.Nat.{mul_comm}
use Rattle.std.proofs.Math.Seq.{take-length}
use Rattle.std.proofs.lemmas.Bool.{cases_Bool, leb-false, lt-leb, or_left, or_right}
use Rattle.std.proofs.lemmas.List.Elements.{All-cons, All-nil, All-head, All-tail, All-weaker, recursion_from_All}
use Rattle.sip_field.specs.Moduli.{m61_modulus}
use Rattle.sip_vector.specs.declared.query.Query.{Query}
use Rattle.sip_vector.specs.declared.query.Query.TheVariants.{Sub, Range, F2, Inner, Heavy, Share, Above}
use Rattle.sip_vector.specs.declared.update.Side.{Side}
use Rattle.sip_vector.specs.declared.update.Update.{Update}
use Rattle.sip_vector.specs.Answers.{Answer, Fits, answer, number, pairs}
use Rattle.sip_vector.specs.Pieces.{pieces, cut}
use Rattle.sip_vector.specs.Streams.{int_sum, vector, IsLegal, IsStrict}
use Rattle.sip_vector.specs.Thresholds.{share_of}
use Rattle.sip_vector.specs.Trees.{augroot}
use Rattle.sip_counts.specs.Late.{some_fooled}
use Rattle.sip_counts.specs.Joint.{CountedQuestion, after, is_misled, misled, bounds, IsBounded}
use Rattle.sip_counts.specs.Strategies.{Strategy, IsOfBytes, replies, takes_wrong, fooled}
use Rattle.sip_counts.proofs.Joint.{few_misled_of}
use Rattle.sip_counts.proofs.Talks.{replies-length}
use Rattle.sip_replies.specs.Protocols.{Protocol}
use Rattle.sip_replies.specs.Replies as general
use Rattle.sip_replies.proofs.Unasked.{accepted_asked, accepted_unasked}
use Rattle.sip_wire.specs.declared.version.Version.{Version}
use Rattle.sip_heavy.specs.Counting.{heavy_over}
use Rattle.sip_heavy.proofs.FewFooledByBytes as heavies
use Rattle.sip_heavy.specs.Protocol.{HeavyState, count_of, heavy_asked}
use Rattle.sip_heavy.proofs.FewFooledByBytes.{positive_is}
use Rattle.sip_heavy.proofs.HonestStreams.{none_asked}
use Rattle.sip_heavy.proofs.TrueLevels.{sum_positive}
use Rattle.sip_verifier.specs.CountClause.{accepts_in, bound_of, AreInTalk, CountClause, Written, questions_written}
use Rattle.sip_verifier.specs.Exchanges.{Exchange}
use Rattle.sip_verifier.specs.Draws.{challenge_count, drawn}
use Rattle.sip_verifier.specs.Inquiries.{Inquiry, inquiry_of}
use Rattle.sip_verifier.specs.JointClause.{asked_by, all_asked, RepliesSo, CanBeCounted, IsJointVector, IsMisledBy, JointClause}
use Rattle.sip_verifier.specs.Kinds.{KindRow, built, missing, kind_row, Holds, OfKind}
use Rattle.sip_verifier.specs.Questions.{Question, Accepted, Accepts, Done, questions_of, updates}
use Rattle.sip_verifier.specs.Statuses.{IsListed}
use Rattle.sip_verifier.specs.Tasks.{CanBeAsked, CanBeDone}
use Rattle.sip_verifier.specs.VerdictClause.{VerdictClause}
use Rattle.sip_verifier.specs.declared.status.Status.{Status}
use Rattle.sip_verifier.specs.declared.task.Task.{Task}
use Rattle.sip_verifier.proofs.Blocks.{challenges-below, length-challenges}
use Rattle.sip_verifier.proofs.CountedQuestions.{few_wrong, never_sum, question_counts}
use Rattle.sip_verifier.proofs.CountedReports.{Reported, counts_of, lines_counted, reported, written_of}
use Rattle.sip_verifier.proofs.ShareAnswers.{share_answer, share_reached}
use Rattle.sip_stream.proofs.LegalRecords.{records_legal}

-- ---- one query

-- where the entries add up to less than is asked for, none is asked for
pub none_heavy : (version : Version) (p depth n t : ℕ) (stream : List Update) (side : Side) (block : List ℕ) → IsStrict depth stream side
    → int_sum (vector depth stream side) ≡ pos n → n < t → answer depth stream (Heavy side t) ≡ pairs []
none_heavy version p depth n t stream side block strict sum less =
    let P : Protocol HeavyState = heavy_over version p depth t (vector depth stream side) block in
    let below : nat_le t (count_of (int_sum (vector depth stream side))) ≡ false = ap (λ z. nat_le t (count_of z)) sum ∙ lt-leb t n less in
    (accepted_unasked P block [] (answer depth stream (Heavy side t)) (pairs []) (ap (λ (b : Bool). if b then None else Some (pairs [])) below)
    (none_asked version p (augroot p (vector depth stream side) block).hash depth t n (vector depth stream side) block strict sum less)).1

-- no strategy has wrong answers to it accepted at more blocks than its bound
row_bounded : (row : KindRow) (depth : ℕ)
    → Holds (λ kind. kind.CanBeCounted → (strategy : Strategy) → IsOfBytes strategy
    → fooled m61_modulus depth (accepts_in kind) kind.is_right strategy ≤ bound_of depth kind * m61_modulus ^ (depth - 1)) row
    → Holds (λ kind. kind.CanBeCounted) row → IsBounded m61_modulus depth (asked_by accepts_in depth row)
row_bounded (built kind) depth few can = few can
row_bounded missing depth few can = absurd few

module _ (version : Version) (depth : ℕ) (stream : List Update) (legal : IsLegal depth stream) where
  -- what the count asks of the stream for a query
  abbrev Can : Query → Type 0
  Can query = OfKind version depth stream query (λ kind. kind.CanBeCounted)

  -- the query as one of several
  abbrev Row : Query → CountedQuestion
  Row query = asked_by accepts_in depth (kind_row version depth stream query)

  -- no entry is heavy where the total is below the threshold
  below_none : (side : Side) (t : ℕ) (block : List ℕ) → IsStrict depth stream side → nat_le t (count_of (int_sum (vector depth stream side))) ≡ false
      → answer depth stream (Heavy side t) ≡ pairs []
  below_none side t block strict below =
      let n = positive_is (int_sum (vector depth stream side)) (sum_positive (vector depth stream side) (recursion_from_All (λ a. pos 0 ≤ℤ a) (vector depth stream side) strict)) in
      none_heavy version m61_modulus depth n.0 t stream side block strict n.1
      (let less = leb-false t (count_of (int_sum (vector depth stream side))) below in omega (arith, less, ap count_of n.1))

  -- by what a strategy replies at a block, and what was taken there and accepted
  module _ (strategy : Strategy) (block : List ℕ) (taken : List (List ℕ)) (written : Answer)
      (says : take (length taken) (replies strategy block) ≡ map Some taken) where
    -- as many replies as there are challenges are all
    all_said : length taken ≡ length block → replies strategy block ≡ map Some taken
    all_said size = sym (ap (λ n. take n (replies strategy block)) (size ∙ sym (replies-length strategy block)) ∙ take-length (replies strategy block)) ∙ says

    -- pairs that are not the heavy entries are taken
    heavy_said : (side : Side) (t : ℕ) (answer_is : Answer) → general.IsAccepted (heavy_over version m61_modulus depth t (vector depth stream side) block) block taken answer_is
        → replies strategy block ≡ map Some taken → answer_is ≢ answer depth stream (Heavy side t)
        → takes_wrong (Row (Heavy side t)).accepts (Row (Heavy side t)).is_right strategy block ≡ true
    heavy_said side t (number z) accepted all wrong = absurd
        (never_sum (heavy_asked version m61_modulus (augroot m61_modulus (vector depth stream side) block).hash (int_sum (vector depth stream side)) depth t) block taken z accepted)
    heavy_said side t (pairs entries) accepted all wrong =
        heavies.written_counts version m61_modulus depth t (vector depth stream side) strategy block taken entries accepted all (λ right. wrong (ap pairs right))

    -- so is another answer than this one, which is that of the entries where they were asked for, and empty where not
    heavy_taken : (side : Side) (t : ℕ) (right : Answer) → (nat_le t (count_of (int_sum (vector depth stream side))) ≡ true → right ≡ answer depth stream (Heavy side t))
        → (nat_le t (count_of (int_sum (vector depth stream side))) ≡ false → taken ≡ [] → right ≡ pairs [])
        → general.IsAccepted (heavy_over version m61_modulus depth t (vector depth stream side) block) block taken written → written ≢ right
        → takes_wrong (Row (Heavy side t)).accepts (Row (Heavy side t)).is_right strategy block ≡ true
    heavy_taken side t right heavy none accepted wrong =
        let P : Protocol HeavyState = heavy_over version m61_modulus depth t (vector depth stream side) block in
        elim (cases_Bool (nat_le t (count_of (int_sum (vector depth stream side))))) [
          | inl reached ↦
              let all = all_said (accepted_asked P block taken written (ap (λ (b : Bool). if b then None else Some (pairs [])) reached) accepted).all in
              heavy_said side t written accepted all (λ e. wrong (e ∙ sym (heavy reached)))
          | inr below ↦
              let known = accepted_unasked P block taken written (pairs []) (ap (λ (b : Bool). if b then None else Some (pairs [])) below) accepted in
              absurd (wrong (known.1 ∙ sym (none below known.0)))
        ]

    -- a wrong answer to any query is taken
    pub taken_wrongly : (query : Query) → Fits depth query → Accepts version depth stream (record { query = query; block = block; replies = taken }) written
        → (taken ≡ [] → Can query) → written ≢ answer depth stream query → takes_wrong (Row query).accepts (Row query).is_right strategy block ≡ true
    taken_wrongly (Sub lo hi) fits accepted can wrong =
        (question_counts version depth stream (Sub lo hi) block taken written fits legal accepted tt).counts strategy written (all_said accepted.all) refl wrong
    taken_wrongly (Range side lo hi) fits accepted can wrong =
        (question_counts version depth stream (Range side lo hi) block taken written fits legal accepted tt).counts strategy written (all_said accepted.all) refl wrong
    taken_wrongly (F2 side) fits accepted can wrong =
        (question_counts version depth stream (F2 side) block taken written fits legal accepted tt).counts strategy written (all_said accepted.all) refl wrong
    taken_wrongly Inner fits accepted can wrong =
        (question_counts version depth stream Inner block taken written fits legal accepted tt).counts strategy written (all_said accepted.all) refl wrong
    taken_wrongly (Heavy side t) fits accepted can wrong =
        heavy_taken side t (answer depth stream (Heavy side t)) (λ reached. refl) (λ below nothing. below_none side t block (can nothing) below) accepted wrong
    taken_wrongly (Above side t) fits accepted can wrong = absurd accepted
    taken_wrongly (Share side num den) fits accepted can wrong =
        let t : ℕ = share_of num den (int_sum (vector depth stream side)) in
        let some : 1 ≤ den = omega (arith, fits.0, fits.1) in
        heavy_taken side t (answer depth stream (Share side num den)) (share_reached depth stream side num den some legal)
        (λ below nothing. share_answer depth stream side num den some legal (can nothing) ∙ below_none side t block (can nothing) below) accepted wrong

  -- ---- queries in turn

  -- no strategy has wrong answers to one of these queries alone accepted at more blocks than its bound
  all_bounded : (queries : List Query) → All (CanBeAsked depth) queries → All Can queries
      → All (λ q. IsBounded m61_modulus depth (Row q)) queries
  all_bounded queries asked can = λ k d less.
      let q : Query = slice_index_or queries k d in
      row_bounded (kind_row version depth stream q) depth (few_wrong version depth stream q (asked k d less) legal) (can k d less)

  -- a line is that of replies that are accepted, or its answer is right
  abbrev pub Right : Written → Type 0
  Right w = Accepts version depth stream w.question w.answer ⊎ (w.answer ≡ answer depth stream w.question.query)

  -- lines of the first queries, each at its own block, are so
  abbrev pub Fine : List Written → List Query → List (List ℕ) → Type 0
  Fine [] queries blocks = ⊤
  Fine (w ∷ ws) [] blocks = ⊥
  Fine (w ∷ ws) (q ∷ queries) [] = ⊥
  Fine (w ∷ ws) (q ∷ queries) (b ∷ blocks) = (w.question.query ≡ q) × (w.question.block ≡ b) × Right w × Fine ws queries blocks

  module _ (strategy : Strategy) where
    -- where this line has a wrong answer, the strategy has one accepted at these challenges, behind those
    abbrev Misled : List Query → List ℕ → List ℕ → Written → Type 0
    Misled queries earlier v w = (w.question.replies ≡ [] → Can w.question.query) → w.answer ≢ answer depth stream w.question.query
        → is_misled depth strategy (all_asked version depth stream queries) earlier v ≡ true

    pub misled_by : (ws : List Written) (queries : List Query) (earlier v : List ℕ) (k : ℕ)
        → Fine ws queries (pieces depth k v) → All (Fits depth) queries
        → RepliesSo strategy earlier (questions_written ws) → All (Misled queries earlier v) ws
    unfolding is_misled some_fooled
    misled_by [] queries earlier v k fine fits talk = All-nil (Misled queries earlier v)
    misled_by (w ∷ ws) [] earlier v k fine fits talk = absurd fine
    misled_by (w ∷ ws) (q ∷ queries) earlier v zero fine fits talk = absurd fine
    misled_by (w ∷ ws) (q ∷ queries) earlier v (suc k) fine fits talk =
        let query : w.question.query ≡ q = fine.0 in
        let block : w.question.block ≡ take depth v = fine.1 in
        let first : List ℕ → Query → Bool = λ b u. takes_wrong (Row u).accepts (Row u).is_right (after earlier strategy) b in
        let others : Bool = is_misled depth strategy (all_asked version depth stream queries) (earlier ++ take depth v) (drop depth v) in
        let fit : Fits depth w.question.query = subst (Fits depth) (sym query) (All-head (Fits depth) q queries fits) in
        let rest = misled_by ws queries (earlier ++ take depth v) (drop depth v) k fine.3 (All-tail (Fits depth) q queries fits)
        (subst (λ (b : List ℕ). RepliesSo strategy (earlier ++ b) (questions_written ws)) block talk.1) in
        All-cons (Misled (q ∷ queries) earlier v) w ws
        (λ can wrong. or_left (first (take depth v) q) others (elim fine.2 [
          | inl came ↦ subst (λ (u : Query). first (take depth v) u ≡ true) query
              (subst (λ (b : List ℕ). first b w.question.query ≡ true) block
              (taken_wrongly (after earlier strategy) w.question.block w.question.replies w.answer talk.0 w.question.query fit came can wrong))
          | inr right ↦ absurd (wrong right)
        ]))
        (All-weaker (Misled queries (earlier ++ take depth v) (drop depth v)) (Misled (q ∷ queries) earlier v)
        (λ w is can wrong. or_right (first (take depth v) q) others (is can wrong)) ws rest)

  -- ---- accepted answers

  -- accepted answers, their questions, and their lines
  abbrev Answered : Type 0
  Answered = List (Accepted version depth stream)

  abbrev questions : Answered → List Question
  questions done = map (λ a. a.question) done

  abbrev written_as : Accepted version depth stream → Written
  written_as a = record { question = a.question; answer = a.answer }

  -- accepted answers to the first queries, each at its own block, have such lines
  done_fine : (done : Answered) (more : List Question) (queries : List Query) (blocks : List (List ℕ)) (n : ℕ)
      → map (λ (q : Question). q.query) (questions done ++ more) ≡ take n queries
      → map (λ (q : Question). q.block) (questions done ++ more) ≡ take n blocks
      → Fine (map written_as done) queries blocks
  done_fine [] more queries blocks n qs bs = tt
  done_fine (a ∷ done) more queries blocks zero qs bs = absurd cc
  done_fine (a ∷ done) more [] blocks (suc n) qs bs = absurd cc
  done_fine (a ∷ done) more (q ∷ queries) [] (suc n) qs bs = absurd cc
  done_fine (a ∷ done) more (q ∷ queries) (b ∷ blocks) (suc n) qs bs =
      let query : a.question.query ≡ q = cc in
      let block : a.question.block ≡ b = cc in
      let more_queries : map (λ (q : Question). q.query) (questions done ++ more) ≡ take n queries = cc in
      let more_blocks : map (λ (q : Question). q.block) (questions done ++ more) ≡ take n blocks = cc in
      (query, block, inl a.accepts, done_fine done more queries blocks n more_queries more_blocks)

-- ---- a run

-- what is there is one list
same_list : (xs ys : List ℕ) → Some xs ≡ Some ys → xs ≡ ys
same_list xs ys e = cc

-- where there are no questions there are no lines
no_lines : (i : Inquiry) (x : Exchange) (done : Done i x) (P : Written → Type 0)
    → questions_of i x done ≡ []
    → All P (map (λ a. record { question = a.question; answer = a.answer }) done)
no_lines i x [] P e = All-nil P
no_lines i x (a ∷ done) P e = absurd cc

module _ (i : Inquiry) (x : Exchange) (can : All (CanBeAsked i.depth) i.queries) (some : 1 ≤ i.depth)
    (vector_is : (challenges : List ℕ) → i.challenges ≡ Some challenges → IsJointVector i x challenges) where
  -- the stream that was read is legal
  all_legal : IsLegal i.depth (updates i x)
  all_legal = records_legal i.depth i.form x.stream

  -- each query fits the depth
  fit : All (Fits i.depth) i.queries
  fit at other less = (can at other less).1

  -- no joint strategy has wrong answers accepted at more vectors than the clause says
  few : All (CanBeCounted i x) i.queries → (strategy : Strategy) → IsOfBytes strategy
      → misled m61_modulus i.depth strategy (all_asked i.version i.depth (updates i x) i.queries)
      ≤ bounds (all_asked i.version i.depth (updates i x) i.queries) * m61_modulus ^ (length i.queries * i.depth - 1)
  few counted strategy bytes =
      few_misled_of m61_modulus i.depth strategy (Row i.version i.depth (updates i x) all_legal) i.queries some bytes
      (all_bounded i.version i.depth (updates i x) all_legal i.queries can counted)

  -- each line of accepted questions that the talk has
  misled_lines : (done : Done i x) (challenges : List ℕ) → i.challenges ≡ Some challenges → (strategy : Strategy)
      → AreInTalk i x (questions_of i x done)
      → RepliesSo strategy [] (questions_written (written_of i x can done))
      → All (IsMisledBy i x strategy challenges) (written_of i x can done)
  misled_lines done challenges is strategy (inl none) talk = no_lines i x done (IsMisledBy i x strategy challenges) none
  misled_lines done challenges is strategy (inr (next, rest, reached)) talk =
      let are = reached.are_questions in
      let same : are.challenges ≡ challenges = same_list are.challenges challenges (sym are.drawn ∙ is) in
      let blocks = subst (λ (cs : List ℕ). map (λ (q : Question). q.block) (questions_of i x done ++ option_to_list next)
      ≡ take (length (questions_of i x done ++ option_to_list next)) (cut i.depth cs)) same are.blocks in
      misled_by i.version i.depth (updates i x) all_legal strategy (written_of i x can done) i.queries [] challenges _
      (done_fine i.version i.depth (updates i x) all_legal done (option_to_list next) i.queries (cut i.depth challenges) _ are.queries blocks) fit talk

  -- both clauses hold of the same lines
  pub counted_jointly : (status : Status) → VerdictClause i x status → IsListed status → (count : CountClause i x) × JointClause i x count.lines
  counted_jointly status v is =
      let r : Reported i x can = reported i x can status v in (
        counts_of i x can r,
        subst (JointClause i x) (lines_counted i x can r) (record {
          few = few;
          vector = vector_is;
          counted = λ challenges drawn strategy talk. misled_lines r.done challenges drawn strategy r.reached talk;
        }),
      )

-- ---- a run of a task

-- the challenges that a seed gives are a joint vector of its task
pub joint_vector : (task : Task) (x : Exchange) (challenges : List ℕ) → drawn task x.seed ≡ Some challenges → IsJointVector (inquiry_of task x) x challenges
joint_vector task x challenges is = record {
  size = length-challenges (challenge_count task) x.seed challenges is ∙ mul_comm task.depth (length task.queries.items);
  below = challenges-below (challenge_count task) x.seed challenges is;
}

-- a run that keeps to the clause of verdicts keeps to both clauses of counts
pub task_counted : (task : Task) (x : Exchange) → CanBeDone task → 1 ≤ task.depth → (status : Status) → VerdictClause (inquiry_of task x) x status → IsListed status
    → (count : CountClause (inquiry_of task x) x) × JointClause (inquiry_of task x) x count.lines
task_counted task x can some = counted_jointly (inquiry_of task x) x can.asked some (joint_vector task x)
