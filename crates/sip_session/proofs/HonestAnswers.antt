-- The answers of a panel whose helpers are honest.
use Rattle.std.proofs.Common.{◌≡◌, ◌≢◌, ◌⊎◌, ℕ, suc, ◌+◌, ◌-◌, ◌<◌, ◌≤◌, List, [], ◌∷◌, ◌++◌, length, drop, map, Some, inl, inr, refl, sym, ap, ◌∙◌, subst, append_assoc, append-nil, arith}
use Rattle.std.specs.Prelude.{All, slice_get, slice_index_or}
use Rattle.std.specs.List.{flat_map}
use Rattle.std.proofs.lemmas.List.{drop_all, drop_more}
use Rattle.std.proofs.lemmas.List.Elements.{All-head, All-nil, All-tail, All-weaker}
use Rattle.std.proofs.lemmas.Option.{get_or_from_slice_get, slice_get_within}
use Rattle.sip_ports.specs.declared.port.TalkEvent.{TalkEvent}
use Rattle.sip_vector.specs.declared.query.Query.{Query}
use Rattle.sip_vector.specs.declared.update.Update.{Update}
use Rattle.sip_vector.specs.Answers.{Answer, answer}
use Rattle.sip_vector.specs.Limits.{most_depth}
use Rattle.sip_vector.specs.Streams.{IsLegal}
use Rattle.sip_wire.specs.declared.version.Version.{Version}
use Rattle.sip_wire.specs.Table.{most_queries}
use Rattle.sip_replies.specs.Replies.{IsAccepted, joined}
use Rattle.sip_replies.proofs.Unasked.{accepted_asked, accepted_unasked}
use Rattle.sip_helper.specs.KindRows.{not_strict, too_many}
use Rattle.sip_helper.specs.Streams.{vectors_of}
use Rattle.sip_helper.specs.Turns.{HelperState}
use Rattle.sip_verifier.specs.declared.status.Status.{Status}
use Rattle.sip_verifier.specs.declared.status.Status.TheVariants as statuses
use Rattle.sip_verifier.specs.declared.task.Task.{Task}
use Rattle.sip_verifier.specs.CompletenessClause.{HasFewEntries, honest_in}
use Rattle.sip_verifier.specs.Gathering.{legal as legally_of}
use Rattle.sip_verifier.specs.Kinds.{Holds, KindRow, built, kind_row, missing}
use Rattle.sip_verifier.specs.Questions.{Accepted, Accepts, asking, said_for}
use Rattle.sip_verifier.specs.Reports.{line, report_of}
use Rattle.sip_verifier.specs.runs.CauseClause.{CanBeJudged}
use Rattle.sip_verifier.specs.Tasks.{CanBeDone, version_of}
use Rattle.sip_verifier.proofs.HonestQuestions.{question_done}
use Rattle.sip_duel.proofs.WalkLemmas.{Round, Walk, exchange}
use Rattle.sip_duel.proofs.KindLemmas.{AskedOrKnown}
use Rattle.sip_duel.proofs.QueryLemmas.{IsAtRest}
use Rattle.sip_duel.proofs.DoneLemmas.{how, question_rounds}
use Rattle.sip_session.specs.PanelEnds.{Ends, behind_replies}
use Rattle.sip_session.specs.PanelExchanges.{PanelExchange, without_links}
use Rattle.sip_session.specs.PanelHonesty.{AnswersAreOwn, AreHonest, AreOwn, IsOnStrictSide, IsTooLong, OfAnswer, answer_line, answer_lines}
use Rattle.sip_session.specs.Panels.{Attempt, AreAttempts, AreInTurn, IsJudged, IsOfTurn, Outcome, Turn, accepted, first_turn, inquiry_of_panel, next_turn, rejected, turn_behind}
use Rattle.sip_session.proofs.HonestKinds.{IsAskable, IsBarred, askable_or_known, few_or_barred, long_askable}
use Rattle.sip_session.proofs.HonestRefusals.{barred_accepted}
use Rattle.sip_session.proofs.HonestQuestions.{IsPut, Put, posed, put_comes, said_accepted, walk_answer}
use Rattle.sip_session.proofs.HonestTalks.{honest_holds}
use Rattle.sip_session.proofs.HonestAttempts.{Said, all_by_cuts, at_place, none_or_said}
use Rattle.sip_session.proofs.HonestDropped.{first_least, heard_is, is_judged, is_put, legally, mine, more_room, of_turn, shallow}

-- ---- lines in the order of the queries

module _ (depth : ℕ) (stream : List Update) (queries : List Query) where
  -- the attempt asks the query of its turn
  abbrev AsksItsOwn : Attempt → Type 0
  AsksItsOwn a = slice_get queries (a.turn.number - 1) ≡ Some a.question.query

  -- its answer, where it has one, is the stream's own
  abbrev HasOwn : Attempt → Type 0
  HasOwn a = OfAnswer (λ given. given ≡ answer depth stream a.question.query) a.outcome

  -- the lines of the queries from this number on
  abbrev lines_from : ℕ → List ℕ
  lines_from number = report_of depth stream (drop (number - 1) queries)

  line_first : (number : ℕ) (q : Query) → 1 ≤ number → slice_get queries (number - 1) ≡ Some q → lines_from number ≡ line q (answer depth stream q) ++ lines_from (suc number)
  line_first number q least is =
      let place : ℕ = number - 1 in
      let next : place + 1 ≡ suc number - 1 = omega (arith, least) in
      ap (report_of depth stream) (drop_more queries place q (slice_get_within queries place q is))
      ∙ ap (λ (u : Query). report_of depth stream (u ∷ drop (place + 1) queries)) (get_or_from_slice_get queries place q q is)
      ∙ ap (λ n. line q (answer depth stream q) ++ report_of depth stream (drop n queries)) next

  -- lines of answers, made in turn, are those of the queries in order
  in_order : (turn : Turn) (attempts : List Attempt) → 1 ≤ turn.number → AreInTurn turn attempts → All AsksItsOwn attempts → All HasOwn attempts
      → answer_lines attempts ++ lines_from (turn_behind turn attempts).number ≡ lines_from turn.number
  in_order turn [] least are asks own = refl
  in_order turn (a ∷ attempts) least are asks own =
      by_outcome a.outcome refl (All-head HasOwn a attempts own) (λ more. in_order (next_turn turn a.outcome) attempts more are.1 (All-tail AsksItsOwn a attempts asks) (All-tail HasOwn a attempts own))
    where
      by_outcome : (o : Outcome) → a.outcome ≡ o → OfAnswer (λ given. given ≡ answer depth stream a.question.query) o
          → (1 ≤ (next_turn turn a.outcome).number → answer_lines attempts ++ lines_from (turn_behind (next_turn turn a.outcome) attempts).number ≡ lines_from (next_turn turn a.outcome).number) → (answer_line a.question a.outcome ++ answer_lines attempts) ++ lines_from (turn_behind (next_turn turn a.outcome) attempts).number ≡ lines_from turn.number
      by_outcome (rejected fault) e is_own on =
          let number : (next_turn turn a.outcome).number ≡ turn.number = ap (λ o. (next_turn turn o).number) e in
          ap (λ o. (answer_line a.question o ++ answer_lines attempts) ++ lines_from (turn_behind (next_turn turn a.outcome) attempts).number) e ∙ on (omega (arith, number, least)) ∙ ap lines_from number
      by_outcome (accepted given) e is_own on =
          let number : (next_turn turn a.outcome).number ≡ suc turn.number = ap (λ o. (next_turn turn o).number) e in
          let q : Query = a.question.query in
          let asked : slice_get queries (turn.number - 1) ≡ Some q = ap (λ (t : Turn). slice_get queries (t.number - 1)) (sym are.0) ∙ All-head AsksItsOwn a attempts asks in
          ap (λ o. (answer_line a.question o ++ answer_lines attempts) ++ lines_from (turn_behind (next_turn turn a.outcome) attempts).number) e ∙ append_assoc (line q given) (answer_lines attempts) (lines_from (turn_behind (next_turn turn a.outcome) attempts).number)
          ∙ ap (λ l. line q given ++ l) (on (omega (arith, number)) ∙ ap lines_from number) ∙ ap (λ l. l ++ lines_from (suc turn.number)) (ap (line q) is_own) ∙ sym (line_first turn.number q least asked)

-- ---- one answer

module _ (v : Version) (depth : ℕ) (stream : List Update) (some : 1 ≤ depth) (legal : IsLegal depth stream) (q : Query) (block : List ℕ) (put : IsPut v depth stream some legal q block) where
  -- some reply was taken, or the answer is known and right
  abbrev TakenOrKnown : List (List ℕ) → Answer → Type 0
  TakenOrKnown replies given = ((b : List ℕ) × (bs : List (List ℕ)) × (replies ≡ b ∷ bs)) ⊎ (given ≡ answer depth stream q)

  taken_some : (size : ℕ) (replies : List (List ℕ)) → length replies ≡ size → 1 ≤ size → (b : List ℕ) × (bs : List (List ℕ)) × (replies ≡ b ∷ bs)
  taken_some size [] e least = absurd (omega (arith, e, least))
  taken_some size (b ∷ bs) e least = (b, bs, refl)

  block_some : 1 ≤ length block
  block_some = omega (arith, put.at.size, some)

  taken_row : (row : KindRow) (replies : List (List ℕ)) (given : Answer) → Holds (AskedOrKnown v depth stream q block) row → Holds (λ kind. IsAccepted (kind.protocol block) block replies given) row
      → (flat_map (λ l. l) (honest_in row block) ≡ joined replies → given ≡ answer depth stream q) → TakenOrKnown replies given
  taken_row missing replies given how accepts right = absurd how
  taken_row (built kind) replies given (inl asked) accepts right = inl (taken_some (length block) replies (accepted_asked (kind.protocol block) block replies given asked.asked accepts).all block_some)
  taken_row (built kind) replies given (inr known) accepts right =
      inr (right (ap joined (known.none ∙ sym (accepted_unasked (kind.protocol block) block replies given known.known known.unasked accepts).0)))

  pub taken_or_known : (replies : List (List ℕ)) (given : Answer) → HasFewEntries v depth stream q → Accepts v depth stream (record { query = q; block = block; replies = replies }) given → TakenOrKnown replies given
  taken_or_known replies given few accepts =
      taken_row (kind_row v depth stream q) replies given (how v depth stream some legal q block (posed v depth stream some legal q block put few)) accepts
      (λ e. (question_done v depth stream some legal q block replies given [] [] put.fits put.speaks few put.at accepts (ap (λ l. l ++ []) e)).1)

  -- a query with too many entries is never answered
  long_row : (row : KindRow) (b : List ℕ) (bs : List (List ℕ)) (given : Answer) → Holds (λ kind. IsAskable v depth stream (kind.protocol block)) row → Holds (λ kind. IsAccepted (kind.protocol block) block (b ∷ bs) given) row → IsBarred v depth stream q
      → (Last : List ℕ → List ℕ → Type 0) (s : HelperState) (n : ℕ) → IsAtRest v depth (vectors_of depth stream) s n → n < most_queries → Walk Last v s (question_rounds q block (b ∷ bs) [])
  long_row missing b bs given can accepts barred Last s n rest less = absurd can
  long_row (built kind) b bs given can accepts barred Last s n rest less =
      barred_accepted v depth stream q (kind.protocol block) can block barred Last s n rest (put_comes v depth stream some legal s n q block put rest less) b bs given
      (accepted_asked (kind.protocol block) block (b ∷ bs) given can.asked accepts) []

  long_taken : (row : KindRow) (replies : List (List ℕ)) (given : Answer) → Holds (λ kind. IsAskable v depth stream (kind.protocol block)) row → Holds (λ kind. IsAccepted (kind.protocol block) block replies given) row
      → (b : List ℕ) × (bs : List (List ℕ)) × (replies ≡ b ∷ bs)
  long_taken missing replies given can accepts = absurd can
  long_taken (built kind) replies given can accepts = taken_some (length block) replies (accepted_asked (kind.protocol block) block replies given can.asked accepts).all block_some

  -- what its rounds come to
  pub long_walk : (long : IsTooLong depth stream q) (b : List ℕ) (bs : List (List ℕ)) (given : Answer) → Accepts v depth stream (record { query = q; block = block; replies = b ∷ bs }) given → IsBarred v depth stream q
      → (Last : List ℕ → List ℕ → Type 0) (s : HelperState) (n : ℕ) → IsAtRest v depth (vectors_of depth stream) s n → n < most_queries → Walk Last v s (question_rounds q block (b ∷ bs) [])
  long_walk long b bs given accepts barred Last s n rest less = long_row (kind_row v depth stream q) b bs given (long_askable v depth stream q block long) accepts barred Last s n rest less

  pub long_some : IsTooLong depth stream q → (replies : List (List ℕ)) (given : Answer) → Accepts v depth stream (record { query = q; block = block; replies = replies }) given → (b : List ℕ) × (bs : List (List ℕ)) × (replies ≡ b ∷ bs)
  long_some long replies given accepts = long_taken (kind_row v depth stream q) replies given (long_askable v depth stream q block long) accepts

module _ (helpers : ℕ) (task : Task) (x : PanelExchange) (some : 1 ≤ task.depth) (most : task.depth ≤ most_depth) (room : length task.queries.items ≤ most_queries) (can : CanBeDone task)
    (attempts : List Attempt) (are : AreAttempts helpers task x.seed x.stream attempts) (judged : CanBeJudged asking (inquiry_of_panel helpers task x.seed) (without_links x)) (said : Said helpers task x attempts)
    (honest : AreHonest helpers task x) (strict : All (IsOnStrictSide task.depth (legally_of task x.stream)) task.queries.items) where
  abbrev v : Version
  v = version_of task

  abbrev U : List Update
  U = legally_of task x.stream

  module _ (before : List Attempt) (a : Attempt) (after : List Attempt) (cut_is : attempts ≡ before ++ a ∷ after) (given : Answer) (is : a.outcome ≡ accepted given) where
    abbrev q : Query
    q = a.question.query

    abbrev put : Put v task.depth U some (legally helpers task x some most room can attempts are judged said) a.question
    put = is_put helpers task x some most room can attempts are judged said before a after cut_is

    abbrev legal : IsLegal task.depth U
    legal = legally helpers task x some most room can attempts are judged said

    accepts : Accepts v task.depth U a.question given
    accepts = subst (IsJudged v task.depth U a.question) is (is_judged helpers task x some most room can attempts are judged said before a after cut_is)

    -- of the last reply to it this holds, where its rounds say so
    by_rounds : (C : Type 0) (b : List ℕ) (bs : List (List ℕ)) → a.question.replies ≡ b ∷ bs
        → ((s : HelperState) (n : ℕ) → IsAtRest v task.depth (vectors_of task.depth U) s n → n < most_queries → Walk (λ _ _. C) v s (question_rounds q a.question.block (b ∷ bs) [])) → C
    by_rounds C b bs taken walk =
        let own = mine helpers task x some most room can attempts are judged said before a after cut_is in
        let less = more_room helpers task x some most room can attempts are judged said before a after cut_is in
        let heard = heard_is helpers task x some most room can attempts are judged said before a after cut_is in
        let place = of_turn helpers task x some most room can attempts are judged said before a after cut_is in
        let tail : List Round = question_rounds q a.question.block (b ∷ bs) [] in
        let earlier : List TalkEvent = flat_map (said_for v task.depth U) (map (λ (d : Accepted v task.depth U). d.question) own.done) in
        let asked : said_for v task.depth U a.question ≡ exchange v tail =
        sym (append-nil (said_for v task.depth U a.question))
        ∙ said_accepted v task.depth U some legal q a.question.block put (kind_row v task.depth U q) a.question.replies given [] (askable_or_known v task.depth U q a.question.block put.built) accepts
        ∙ ap (λ l. exchange v (question_rounds q a.question.block l [])) taken in
        (honest_holds v task.depth U some legal (shallow helpers task x some most room can attempts are judged said) (λ _ _. C) own.done tail own.put (omega (arith, less)) (λ t m least rest. walk t m rest (omega (arith, least, less)))
        (earlier ++ said_for v task.depth U a.question) (ap (λ l. earlier ++ l) asked) (slice_index_or x.talks (a.turn.helper - 1) []) (behind_replies a.outcome ++ heard.0) heard.1
        (honest a.turn.helper (first_least helpers task x some most room can attempts are judged said before a after cut_is) place.helper)).last

    -- its answer is the stream's own
    pub own_answer : given ≡ answer task.depth U q
    own_answer = elim (few_or_barred v task.depth U legal q put.built put.narrow) [
      | inl few ↦ elim (taken_or_known v task.depth U some legal q a.question.block put a.question.replies given few accepts) [
        | inl t ↦ by_rounds (given ≡ answer task.depth U q) t.0 t.1 t.2
            (λ s n rest less. walk_answer v task.depth U some legal q a.question.block put few t.0 t.1 given s n rest less
            (subst (λ l. Accepts v task.depth U (record { query = q; block = a.question.block; replies = l }) given) t.2 accepts))
        | inr right ↦ right
      ]
      | inr barred ↦ by_why barred barred.why
    ]
      where
        side : IsOnStrictSide task.depth U q
        side = at_place (IsOnStrictSide task.depth U) task.queries.items (a.turn.number - 1) q strict (of_turn helpers task x some most room can attempts are judged said before a after cut_is).query

        long_not : (barred : IsBarred v task.depth U q) → IsTooLong task.depth U q → ⊥
        long_not barred long =
            let t = long_some v task.depth U some legal q a.question.block put long a.question.replies given accepts in
            by_rounds ⊥ t.0 t.1 t.2 (λ s n rest less. long_walk v task.depth U some legal q a.question.block put long t.0 t.1 given
            (subst (λ l. Accepts v task.depth U (record { query = q; block = a.question.block; replies = l }) given) t.2 accepts) barred (λ _ _. ⊥) s n rest less)

        by_why : (barred : IsBarred v task.depth U q) → ((barred.code ≡ too_many) × IsTooLong task.depth U q) ⊎ ((barred.code ≡ not_strict) × (¬ IsOnStrictSide task.depth U q))
            → given ≡ answer task.depth U q
        by_why barred (inl long) = absurd (long_not barred long.1)
        by_why barred (inr other) = absurd (other.1 side)

  each_own : All (λ (a : Attempt). OfAnswer (λ given. given ≡ answer task.depth U a.question.query) a.outcome) attempts
  each_own = all_by_cuts (λ (a : Attempt). OfAnswer (λ given. given ≡ answer task.depth U a.question.query) a.outcome) attempts [] attempts refl
      (λ before a after cut_is. by_outcome before a after cut_is a.outcome refl)
    where
      by_outcome : (before : List Attempt) (a : Attempt) (after : List Attempt) → attempts ≡ before ++ a ∷ after → (o : Outcome) → a.outcome ≡ o
          → OfAnswer (λ given. given ≡ answer task.depth U a.question.query) o
      by_outcome before a after cut_is (accepted given) is = own_answer before a after cut_is given is
      by_outcome before a after cut_is (rejected fault) is = tt

  pub own_lines : (status : Status) → Ends helpers task x attempts status → AreOwn helpers task x attempts status
  own_lines status ends = record { each = each_own; all = λ is. all_lines (subst (Ends helpers task x attempts) is ends) }
    where
      all_lines : Ends helpers task x attempts statuses.Accepted → answer_lines attempts ≡ report_of task.depth U task.queries.items
      all_lines all =
          let asks = All-weaker (λ (a : Attempt). IsOfTurn helpers task x.seed x.stream a.turn a.question) (AsksItsOwn task.depth U task.queries.items) (λ a of_turn. of_turn.query) attempts are.of_turn in
          let behind : (turn_behind first_turn attempts).number ≡ suc (length task.queries.items) = all.all in
          let none : drop ((turn_behind first_turn attempts).number - 1) task.queries.items ≡ [] = drop_all ((turn_behind first_turn attempts).number - 1) task.queries.items (omega (arith, behind)) in
          sym (append-nil (answer_lines attempts)) ∙ ap (λ l. answer_lines attempts ++ report_of task.depth U l) (sym none)
          ∙ in_order task.depth U task.queries.items first_turn attempts (omega arith) are.in_turn asks each_own

-- without an attempt there is nothing to say but that not every query was answered
none_answered : (helpers : ℕ) (task : Task) (x : PanelExchange) (status : Status) → CanBeDone task → Ends helpers task x [] status → AreOwn helpers task x [] status
none_answered helpers task x status can ends = record {
  each = All-nil (λ (a : Attempt). OfAnswer (λ given. given ≡ answer task.depth (legally_of task x.stream) a.question.query) a.outcome);
  all = λ is. absurd (let all : 1 ≡ suc (length task.queries.items) = (subst (Ends helpers task x []) is ends).all in omega (arith, can.some, all));
}

pub answers_are_own : (helpers : ℕ) (task : Task) (x : PanelExchange) → 1 ≤ task.depth → task.depth ≤ most_depth → length task.queries.items ≤ most_queries → CanBeDone task
    → (attempts : List Attempt) (status : Status) → AreAttempts helpers task x.seed x.stream attempts → (attempts ≢ [] → CanBeJudged asking (inquiry_of_panel helpers task x.seed) (without_links x))
    → Ends helpers task x attempts status → AnswersAreOwn helpers task x attempts status
answers_are_own helpers task x some most room can [] status are asked ends honest strict = none_answered helpers task x status can ends
answers_are_own helpers task x some most room can (a ∷ attempts) status are asked ends honest strict = elim (none_or_said helpers task x (a ∷ attempts) status ends) [
  | inl none ↦ absurd cc
  | inr said ↦ own_lines helpers task x some most room can (a ∷ attempts) are (asked (λ none. cc)) said honest strict status ends
]
