-- Why an honest helper of a panel is dropped.
use Rattle.std.proofs.Common.{◌≡◌, ◌≢◌, ◌⊎◌, ℕ, suc, ◌+◌, ◌-◌, ◌<◌, ◌≤◌, Bool, true, false, List, [], ◌∷◌, ◌++◌, length, map, Option, Some, None, inl, inr, refl, sym, ap, ◌∙◌, subst, append-nil, arith}
use Rattle.std.specs.Prelude.{All, option_map, slice_get, slice_index_or}
use Rattle.std.specs.List.{flat_map}
use Rattle.std.proofs.lemmas.List.Elements.{All-cons, All-nil, All-weaker}
use Rattle.sip_ports.specs.declared.port.TalkEvent.{TalkEvent}
use Rattle.sip_ports.specs.declared.port.TalkEvent.TheVariants.{Ended}
use Rattle.sip_stream.proofs.LegalRecords.{records_legal}
use Rattle.sip_vector.specs.declared.query.Query.{Query}
use Rattle.sip_vector.specs.declared.update.Update.{Update}
use Rattle.sip_vector.specs.Limits.{most_depth}
use Rattle.sip_vector.specs.Pieces.{cut}
use Rattle.sip_vector.specs.Streams.{IsLegal}
use Rattle.sip_wire.specs.declared.version.Version.{Version}
use Rattle.sip_wire.specs.Table.{most_queries}
use Rattle.sip_wire.specs.Versions.{Speaks, deepest}
use Rattle.sip_wire.proofs.Asking.{needed-speaks}
use Rattle.sip_replies.specs.Replies.{Fault}
use Rattle.sip_replies.specs.Talks.{ending}
use Rattle.sip_helper.specs.Streams.{vectors_of}
use Rattle.sip_helper.specs.Turns.{HelperState}
use Rattle.sip_verifier.specs.declared.task.Task.{Task}
use Rattle.sip_verifier.specs.Gathering.{legal}
use Rattle.sip_verifier.specs.Kinds.{kind_row}
use Rattle.sip_verifier.specs.Questions.{Accepted, IsFaulty, Question, asking, said_for}
use Rattle.sip_verifier.specs.runs.CauseClause.{CanBeJudged}
use Rattle.sip_verifier.specs.Talks.{stream_sent}
use Rattle.sip_verifier.specs.Tasks.{CanBeAsked, CanBeDone, version_of}
use Rattle.sip_verifier.specs.Widths.{first_true, first_wide, is_too_wide}
use Rattle.sip_verifier.proofs.Blocks.{IsBlock, are_blocks}
use Rattle.sip_duel.proofs.WalkLemmas.{Round, Walk, exchange}
use Rattle.sip_duel.proofs.QueryLemmas.{IsAtRest}
use Rattle.sip_duel.proofs.DoneLemmas.{question_rounds}
use Rattle.sip_duel.proofs.AcceptLemmas.{ends_in, shallow_of}
use Rattle.sip_session.specs.inside.Beginning.{task_of_seats}
use Rattle.sip_session.specs.PanelEnds.{behind_replies, said_to}
use Rattle.sip_session.specs.PanelExchanges.{PanelExchange, without_links}
use Rattle.sip_session.specs.PanelHonesty.{AreDroppedRightly, IsHonest, IsRight, OfFault}
use Rattle.sip_session.specs.Panels.{Attempt, AreAttempts, AreInTurn, IsJudged, IsOfTurn, Outcome, Turn, accepted, first_turn, inquiry_of_panel, rejected, seat_at, turn_behind}
use Rattle.sip_session.proofs.HonestRefusals.{RightLast}
use Rattle.sip_session.proofs.HonestKinds.{askable_or_known}
use Rattle.sip_session.proofs.HonestQuestions.{Put, said_faulty, some_taken, walk_fault}
use Rattle.sip_session.proofs.HonestTalks.{honest_holds, honest_whole}
use Rattle.sip_session.proofs.HonestAttempts.{Own, Said, all_by_cuts, at_place, helper_rises, in_middle, own, regroup, said_around, turn_of}

-- none of the queries is too wide
narrow_each : (stream : List Update) (queries : List Query) → first_wide stream queries ≡ None → All (λ q. is_too_wide stream q ≡ false) queries
narrow_each stream [] none = All-nil (λ q. is_too_wide stream q ≡ false)
narrow_each stream (q ∷ queries) none = by_test (is_too_wide stream q) refl none (λ none. narrow_each stream queries none)
  where
    not_some : (o : Option ℕ) → option_map suc o ≡ None → o ≡ None
    not_some None e = refl
    not_some (Some n) e = absurd cc

    by_test : (b : Bool) → is_too_wide stream q ≡ b → first_wide stream (q ∷ queries) ≡ None → (first_wide stream queries ≡ None → All (λ q. is_too_wide stream q ≡ false) queries) → All (λ q. is_too_wide stream q ≡ false) (q ∷ queries)
    by_test true e none rest = absurd (let some : Some 1 ≡ None = ap (λ b. first_true (b ∷ map (is_too_wide stream) queries)) (sym e) ∙ none in cc)
    by_test false e none rest =
        All-cons (λ q. is_too_wide stream q ≡ false) q queries e
        (rest (not_some (first_wide stream queries) (ap (λ b. first_true (b ∷ map (is_too_wide stream) queries)) (sym e) ∙ none)))

module _ (helpers : ℕ) (task : Task) (x : PanelExchange) (some : 1 ≤ task.depth) (most : task.depth ≤ most_depth) (room : length task.queries.items ≤ most_queries) (can : CanBeDone task)
    (attempts : List Attempt) (are : AreAttempts helpers task x.seed x.stream attempts) (judged : CanBeJudged asking (inquiry_of_panel helpers task x.seed) (without_links x)) (said : Said helpers task x attempts) where
  abbrev pub v : Version
  v = version_of task

  abbrev pub stream : List Update
  stream = legal task x.stream

  pub legally : IsLegal task.depth stream
  legally = records_legal task.depth task.form x.stream

  speak : All (Speaks v task.depth) task.queries.items
  speak = needed-speaks task.depth task.queries.items most

  pub shallow : task.depth ≤ deepest v
  shallow = shallow_of v task.depth task.queries.items can.some speak

  -- ---- each question can be put

  is_block : (turn : Turn) (q : Question) → IsOfTurn helpers task x.seed x.stream turn q → IsBlock task.depth q.block
  is_block turn q of_turn = by_drawn (inquiry_of_panel helpers task x.seed).challenges refl of_turn.block
    where
      by_drawn : (o : Option (List ℕ)) → (inquiry_of_panel helpers task x.seed).challenges ≡ o → slice_get (elim o [ Some challenges ↦ cut task.depth challenges | None ↦ [] ]) (seat_at helpers turn) ≡ Some q.block → IsBlock task.depth q.block
      by_drawn None e is = absurd cc
      by_drawn (Some challenges) e is = at_place (IsBlock task.depth) (cut task.depth challenges) (seat_at helpers turn) q.block (are_blocks (task_of_seats helpers task) x.seed challenges some e) is

  put_of : (turn : Turn) (q : Question) → IsOfTurn helpers task x.seed x.stream turn q → Put v task.depth stream some legally q
  put_of turn q of_turn =
      let asked = at_place (CanBeAsked task.depth) task.queries.items (turn.number - 1) q.query can.asked of_turn.query in
      record {
        fits = asked.1;
        speaks = at_place (Speaks v task.depth) task.queries.items (turn.number - 1) q.query speak of_turn.query;
        built = asked.0;
        narrow = at_place (λ u. is_too_wide stream u ≡ false) task.queries.items (turn.number - 1) q.query (narrow_each stream task.queries.items judged.1) of_turn.query;
        at = is_block turn q of_turn;
      }

  puts : All (λ (a : Attempt). Put v task.depth stream some legally a.question) attempts
  puts = All-weaker (λ (a : Attempt). IsOfTurn helpers task x.seed x.stream a.turn a.question) (λ (a : Attempt). Put v task.depth stream some legally a.question) (λ a is. put_of a.turn a.question is) attempts are.of_turn

  -- ---- one attempt of an honest helper

  module _ (before : List Attempt) (a : Attempt) (after : List Attempt) (cut_is : attempts ≡ before ++ a ∷ after) where
    abbrev pub helper : ℕ
    helper = a.turn.helper

    abbrev pub q : Question
    q = a.question

    pub of_turn : IsOfTurn helpers task x.seed x.stream a.turn q
    of_turn = in_middle (λ (a : Attempt). IsOfTurn helpers task x.seed x.stream a.turn a.question) before a after (subst (All (λ (a : Attempt). IsOfTurn helpers task x.seed x.stream a.turn a.question)) cut_is are.of_turn)

    pub is_judged : IsJudged v task.depth stream q a.outcome
    is_judged = in_middle (λ (a : Attempt). IsJudged v task.depth stream a.question a.outcome) before a after (subst (All (λ (a : Attempt). IsJudged v task.depth stream a.question a.outcome)) cut_is are.judged)

    pub is_put : Put v task.depth stream some legally q
    is_put = put_of a.turn q of_turn

    turn_is : a.turn ≡ turn_behind first_turn before
    turn_is = turn_of first_turn before a after (subst (AreInTurn first_turn) cut_is are.in_turn)

    pub mine : Own v task.depth stream some legally helper first_turn before
    mine =
        own v task.depth stream some legally helper first_turn before (a ∷ after) (subst (AreInTurn first_turn) cut_is are.in_turn)
        (subst (All (λ (a : Attempt). IsJudged v task.depth stream a.question a.outcome)) cut_is are.judged) (subst (All (λ (a : Attempt). Put v task.depth stream some legally a.question)) cut_is puts)
        (omega (arith, ap (λ (t : Turn). t.helper) turn_is))

    -- there is room for one query more
    pub more_room : length mine.done < most_queries
    more_room =
        let count : 1 + length mine.done ≤ (turn_behind first_turn before).number = mine.count in
        omega (arith, count, ap (λ (t : Turn). t.number) turn_is, of_turn.number, room)

    pub first_least : 1 ≤ helper
    first_least =
        let rises : 1 ≤ (turn_behind first_turn before).helper = helper_rises first_turn before in
        omega (arith, rises, ap (λ (t : Turn). t.helper) turn_is)

    -- what it heard
    pub heard_is : (more : List TalkEvent) × (slice_index_or x.talks (helper - 1) []
        ≡ (stream_sent v task.depth stream ++ (flat_map (said_for v task.depth stream) (map (λ (d : Accepted v task.depth stream). d.question) mine.done) ++ said_for v task.depth stream q)) ++ (behind_replies a.outcome ++ more))
    heard_is =
        let place : ℕ = helper - 1 in
        let number : suc place ≡ helper = omega (arith, first_least) in
        let t = said.1 place (omega (arith, number, of_turn.helper)) in
        let all : said_to v task.depth stream helper attempts
        ≡ flat_map (said_for v task.depth stream) (map (λ (d : Accepted v task.depth stream). d.question) mine.done) ++ ((said_for v task.depth stream q ++ behind_replies a.outcome) ++ said_to v task.depth stream helper after) =
        ap (said_to v task.depth stream helper) cut_is ∙ said_around v task.depth stream some legally helper before a after refl
        ∙ ap (λ l. l ++ ((said_for v task.depth stream q ++ behind_replies a.outcome) ++ said_to v task.depth stream helper after)) mine.said in (
          said_to v task.depth stream helper after ++ t.0,
          t.1 ∙ ap (λ n. (stream_sent v task.depth stream ++ said_to v task.depth stream n attempts) ++ t.0) number ∙ ap (λ l. (stream_sent v task.depth stream ++ l) ++ t.0) all
              ∙ regroup (stream_sent v task.depth stream) (flat_map (said_for v task.depth stream) (map (λ (d : Accepted v task.depth stream). d.question) mine.done)) (said_for v task.depth stream q) (behind_replies a.outcome) (said_to v task.depth stream helper after) t.0,
        )

    -- it was dropped for a right reason
    pub right_reason : (fault : Fault) → a.outcome ≡ rejected fault → IsHonest helpers task x helper → IsRight task.depth stream q.query fault.reason
    right_reason fault is honest = by_replies q.replies refl
      where
        faulty : IsFaulty v task.depth stream q fault
        faulty = subst (IsJudged v task.depth stream q) is is_judged

        by_replies : (replies : List (List ℕ)) → q.replies ≡ replies → IsRight task.depth stream q.query fault.reason
        by_replies [] none = absurd (some_taken v task.depth stream some legally q.query q.block is_put (kind_row v task.depth stream q.query) fault
            (subst (λ l. IsFaulty v task.depth stream (record { query = q.query; block = q.block; replies = l }) fault) none faulty))
        by_replies (b ∷ bs) taken =
            let found = subst (λ l. IsFaulty v task.depth stream (record { query = q.query; block = q.block; replies = l }) fault) taken faulty in
            let Last : List ℕ → List ℕ → Type 0 = RightLast v task.depth stream q.query fault.reason in
            let tail : List Round = question_rounds q.query q.block (b ∷ bs) [] in
            let asked : said_for v task.depth stream q ≡ exchange v tail =
            ap (λ l. said_for v task.depth stream (record { query = q.query; block = q.block; replies = l })) taken ∙ sym (append-nil (said_for v task.depth stream (record { query = q.query; block = q.block; replies = b ∷ bs })))
            ∙ said_faulty v task.depth stream some legally q.query q.block is_put (kind_row v task.depth stream q.query) b bs fault [] (askable_or_known v task.depth stream q.query q.block is_put.built) found in
            let heard : List TalkEvent = flat_map (said_for v task.depth stream) (map (λ (d : Accepted v task.depth stream). d.question) mine.done) ++ said_for v task.depth stream q in
            let on : (t : HelperState) (m : ℕ) → m ≤ length mine.done → IsAtRest v task.depth (vectors_of task.depth stream) t m → Walk Last v t tail =
            λ t m least rest. walk_fault v task.depth stream some legally q.query q.block is_put b bs fault found t m rest (omega (arith, least, more_room)) in
            let are_said = ap (λ l. flat_map (said_for v task.depth stream) (map (λ (d : Accepted v task.depth stream). d.question) mine.done) ++ l) asked in
            let talk : List TalkEvent = slice_index_or x.talks (helper - 1) [] in
            let says : (e : List TalkEvent) → ending fault.reason ≡ e → talk ≡ (stream_sent v task.depth stream ++ heard) ++ (e ++ heard_is.0) =
            λ e which. heard_is.1 ∙ ap (λ l. (stream_sent v task.depth stream ++ heard) ++ (l ++ heard_is.0)) (ap behind_replies is ∙ which) in
            elim (ends_in fault.reason) [
              | inl closed ↦
                  let h = honest_whole v task.depth stream some legally shallow Last mine.done tail mine.put (omega (arith, more_room)) on heard are_said talk heard_is.0 (says (Ended ∷ []) closed.1) honest in
                  elim h.last [ inl right ↦ right | inr cut_off ↦ absurd (cut_off.1 h.whole) ]
              | inr other ↦
                  let h = honest_holds v task.depth stream some legally shallow Last mine.done tail mine.put (omega (arith, more_room)) on heard are_said talk heard_is.0 (says [] other.1) honest in
                  elim h.last [ inl right ↦ right | inr cut_off ↦ absurd (other.0 cut_off.0) ]
            ]

  -- no honest helper is dropped for another reason
  pub all_right : AreDroppedRightly helpers task x attempts
  all_right = all_by_cuts (λ (a : Attempt). IsHonest helpers task x a.turn.helper → OfFault (λ fault. IsRight task.depth stream a.question.query fault.reason) a.outcome) attempts [] attempts refl
      (λ before a after cut_is honest. by_outcome before a after cut_is honest a.outcome refl)
    where
      by_outcome : (before : List Attempt) (a : Attempt) (after : List Attempt) → attempts ≡ before ++ a ∷ after → IsHonest helpers task x a.turn.helper → (o : Outcome) → a.outcome ≡ o
          → OfFault (λ fault. IsRight task.depth stream a.question.query fault.reason) o
      by_outcome before a after cut_is honest (accepted given) is = tt
      by_outcome before a after cut_is honest (rejected fault) is = right_reason before a after cut_is fault is honest

-- where there was an attempt each helper heard its own, and the queries might be asked
pub dropped_rightly : (helpers : ℕ) (task : Task) (x : PanelExchange) → 1 ≤ task.depth → task.depth ≤ most_depth → length task.queries.items ≤ most_queries → CanBeDone task
    → (attempts : List Attempt) → AreAttempts helpers task x.seed x.stream attempts → (attempts ≢ [] → CanBeJudged asking (inquiry_of_panel helpers task x.seed) (without_links x))
    → (attempts ≡ []) ⊎ Said helpers task x attempts → AreDroppedRightly helpers task x attempts
dropped_rightly helpers task x some most room can [] are asked either = All-nil (λ (a : Attempt). IsHonest helpers task x a.turn.helper → OfFault (λ fault. IsRight task.depth (legal task x.stream) a.question.query fault.reason) a.outcome)
dropped_rightly helpers task x some most room can (a ∷ attempts) are asked (inl none) = absurd cc
dropped_rightly helpers task x some most room can (a ∷ attempts) are asked (inr said) = all_right helpers task x some most room can (a ∷ attempts) are (asked (λ none. cc)) said
