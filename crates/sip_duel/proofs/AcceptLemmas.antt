-- A run over an honest talk is accepted, or memory ran out.
use Rattle.std.proofs.Common.{◌≡◌, ◌≢◌, ◌⊎◌, ℕ, zero, suc, ◌+◌, ◌-◌, ◌/◌, ◌<◌, ◌≤◌, IsTrue, List, [], ◌∷◌, ◌++◌, length, take, drop, map, Some, None, inl, inr, refl, sym, ap, ◌∙◌, subst, append_assoc, append-nil, arith, length-append, length-drop, length-take, take-append-drop, take_all}
use Rattle.std.specs.Prelude.{All}
use Rattle.std.specs.List.{flat_map}
use Rattle.std.proofs.lemmas.List.{length-map, nil_from_length}
use Rattle.std.proofs.lemmas.List.Elements.{All-cons, All-nil, All-head, All-tail, All-take}
use Rattle.std.proofs.lemmas.Option.{same_Some}
use Rattle.sip_ports.specs.declared.port.TalkEvent.{TalkEvent}
use Rattle.sip_ports.specs.declared.port.TalkEvent.TheVariants.{Ended}
use Rattle.sip_ports.specs.Ports.{outs}
use Rattle.sip_ports.proofs.TalkLemmas.{outs-append}
use Rattle.sip_stream.proofs.LegalRecords.{records_legal}
use Rattle.sip_vector.specs.Limits.{most_depth}
use Rattle.sip_vector.specs.Pieces.{cut, pieces}
use Rattle.sip_vector.specs.Streams.{IsLegal}
use Rattle.sip_vector.specs.declared.query.Query.{Query}
use Rattle.sip_vector.specs.declared.update.Update.{Update}
use Rattle.sip_wire.specs.declared.message.Message.{Message}
use Rattle.sip_wire.specs.declared.message.Message.TheVariants as messages
use Rattle.sip_wire.specs.declared.message.Reason.{Reason}
use Rattle.sip_wire.specs.declared.message.Reason.TheVariants as reasons
use Rattle.sip_wire.specs.declared.version.Version.{Version}
use Rattle.sip_wire.specs.Spelling.{fits, has_room, all_hold, spelling}
use Rattle.sip_wire.specs.Table.{most_queries, most_rows}
use Rattle.sip_wire.specs.Versions.{Speaks, deepest, number_of}
use Rattle.sip_wire.proofs.Asking.{needed-speaks}
use Rattle.sip_replies.specs.Replies.{Fault}
use Rattle.sip_replies.specs.Talks.{ending}
use Rattle.sip_helper.specs.KindRows.{want_of_memory}
use Rattle.sip_helper.specs.Streams.{vectors_of}
use Rattle.sip_helper.specs.Turns.{HelperState, fresh}
use Rattle.sip_verifier.specs.declared.status.Port.TheVariants as ports
use Rattle.sip_verifier.specs.declared.status.Status.{Status}
use Rattle.sip_verifier.specs.declared.status.Status.TheVariants as statuses
use Rattle.sip_verifier.specs.declared.task.Task.{Task}
use Rattle.sip_verifier.specs.CauseClause.{CauseClause}
use Rattle.sip_verifier.specs.CompletenessClause.{HasFewEntries}
use Rattle.sip_verifier.specs.Draws.{blocks, challenge_count, drawn}
use Rattle.sip_verifier.specs.Exchanges.{Exchange, Tells}
use Rattle.sip_verifier.specs.Inquiries.{inquiry_of}
use Rattle.sip_verifier.specs.Snapshots.{Counts, Snapshot}
use Rattle.sip_verifier.specs.RunClause.{RunClause}
use Rattle.sip_verifier.specs.Questions.{AreQuestions, IsFaulty, Question, questions_of, said_for, updates}
use Rattle.sip_verifier.specs.Reports.{report_of}
use Rattle.sip_verifier.specs.Statuses.{IsListed}
use Rattle.sip_verifier.specs.Talks.{bye_sent, stream_sent}
use Rattle.sip_verifier.specs.Tasks.{CanBeAsked, CanBeDone, version_of}
use Rattle.sip_verifier.specs.VerdictClause.{AllWritten, OneFaulty, VerdictClause}
use Rattle.sip_verifier.proofs.Blocks.{IsBlock, are_blocks, none_drawn}
use Rattle.sip_verifier.proofs.WideQueries.{none_wide}
use Rattle.sip_duel.specs.Accepting.{DuelAccepts, IsGood}
use Rattle.sip_duel.specs.Story.{IsHonestTalk}
use Rattle.sip_duel.proofs.WalkLemmas.{Round, exchange, Walk}
use Rattle.sip_duel.proofs.TalkLemmas.{holds_of, whole_of}
use Rattle.sip_duel.proofs.RevealLemmas.{walk_then}
use Rattle.sip_duel.proofs.QueryLemmas.{IsAtRest}
use Rattle.sip_duel.proofs.FaultLemmas.{FaultLast}
use Rattle.sip_duel.proofs.StreamLemmas.{IsPiece, feed, silent, stream_rounds, walk_stream}
use Rattle.sip_duel.proofs.DoneLemmas.{Posed, done_rounds, fault_row, how, question_rounds, said_done, said_fault, taken_row, walk_done}

-- ---- pieces of a stream

pub pieces_fine : (n : ℕ) (us : List Update) → n ≡ (length us + 511) / 512 → All IsPiece (pieces 512 n us)
pieces_fine zero us e = All-nil IsPiece
pieces_fine (suc n) us e =
    All-cons IsPiece (take 512 us) (pieces 512 n (drop 512 us)) (omega (arith, e, length-take 512 us), omega (arith, length-take 512 us))
    (pieces_fine n (drop 512 us) (omega (arith, e, length-drop 512 us)))

pub pieces_all : (n : ℕ) (us : List Update) → n ≡ (length us + 511) / 512 → flat_map (λ p. p) (pieces 512 n us) ≡ us
pieces_all zero us e = sym (nil_from_length us (omega (arith, e)))
pieces_all (suc n) us e = ap (λ l. take 512 us ++ l) (pieces_all n (drop 512 us) (omega (arith, e, length-drop 512 us))) ∙ take-append-drop 512 us

pub exchange_feed : (v : Version) (ps : List (List Update)) (tail : List Round)
    → exchange v (feed ps tail) ≡ outs (flat_map (spelling v) (map (λ us. messages.Updates (record { items = us })) ps)) ++ exchange v tail
exchange_feed v [] tail = refl
exchange_feed v (us ∷ ps) tail =
    let m : Message = messages.Updates (record { items = us }) in
    let more : List ℕ = flat_map (spelling v) (map (λ us. messages.Updates (record { items = us })) ps) in
    ap (λ l. outs (spelling v m) ++ l) (exchange_feed v ps tail)
    ∙ sym (append_assoc (outs (spelling v m)) (outs more) (exchange v tail)) ∙ ap (λ l. l ++ exchange v tail) (sym (outs-append (spelling v m) more))

pub ends_in : (r : Reason) → ((r ≡ reasons.Closed) × (ending r ≡ Ended ∷ [])) ⊎ ((r ≢ reasons.Closed) × (ending r ≡ []))
ends_in reasons.Closed = inl (refl, refl)
ends_in reasons.BadKind = inr (λ e. cc, refl)
ends_in reasons.BadLength = inr (λ e. cc, refl)
ends_in reasons.BadCount = inr (λ e. cc, refl)
ends_in reasons.BadNumber = inr (λ e. cc, refl)
ends_in (reasons.Refused code) = inr (λ e. cc, refl)
ends_in reasons.BadOrder = inr (λ e. cc, refl)
ends_in reasons.TooMany = inr (λ e. cc, refl)
ends_in reasons.BadFlags = inr (λ e. cc, refl)
ends_in reasons.HeavySibling = inr (λ e. cc, refl)
ends_in reasons.Pairs = inr (λ e. cc, refl)
ends_in reasons.LightParent = inr (λ e. cc, refl)
ends_in reasons.Sum = inr (λ e. cc, refl)
ends_in reasons.Total = inr (λ e. cc, refl)
ends_in reasons.Root = inr (λ e. cc, refl)
ends_in reasons.BadFound = inr (λ e. cc, refl)
ends_in reasons.NotAlone = inr (λ e. cc, refl)

pub shallow_of : (v : Version) (depth : ℕ) (qs : List Query) → 0 < length qs → All (Speaks v depth) qs → depth ≤ deepest v
shallow_of v depth [] some all = absurd (omega (arith, some))
shallow_of v depth (q ∷ qs) some all = (All-head (Speaks v depth) q qs all).shallow

-- ---- the rounds of a stream

module _ (v : Version) (depth : ℕ) (stream : List Update) (Last : List ℕ → List ℕ → Type 0) (shallow : depth ≤ deepest v) where
  abbrev sent : List (List Update)
  sent = cut most_rows stream

  -- what is said in them
  pub said_stream : (tail : List Round) → exchange v (stream_rounds Last v depth shallow sent tail) ≡ stream_sent v depth stream ++ exchange v tail
  said_stream tail =
      let o : List ℕ = spelling v (messages.Open (number_of v) depth) in
      let f : List ℕ = flat_map (spelling v) (map (λ us. messages.Updates (record { items = us })) sent) in
      let e : List ℕ = spelling v messages.EndStream in
      ap (λ l. outs o ++ l) (exchange_feed v sent (silent messages.EndStream ∷ tail))
      ∙ sym (append_assoc (outs o) (outs f) (outs e ++ exchange v tail))
      ∙ sym (append_assoc (outs o ++ outs f) (outs e) (exchange v tail))
      ∙ ap (λ l. (l ++ outs e) ++ exchange v tail) (sym (outs-append o f))
      ∙ ap (λ l. (outs (o ++ f) ++ outs l) ++ exchange v tail) (sym (append-nil e))

  -- a helper that is new comes through them to a rest
  pub walk_all : 1 ≤ depth → IsLegal depth stream → (tail : List Round) → ((t : HelperState) → IsAtRest v depth (vectors_of depth stream) t 0 → Walk Last v t tail)
      → Walk Last v fresh (stream_rounds Last v depth shallow sent tail)
  walk_all some legal tail on =
      let whole : flat_map (λ p. p) sent ≡ stream = pieces_all ((length stream + 511) / 512) stream refl in
      walk_stream Last v depth shallow some sent tail (pieces_fine ((length stream + 511) / 512) stream refl) (subst (IsLegal depth) (sym whole) legal)
      (λ t at. on t (subst (λ us. IsAtRest v depth (vectors_of depth us) t 0) whole at))

-- ---- the farewell, which has one spelling, in each version

pub bye_fits : (w : Version) → IsTrue (fits w messages.Bye)
unfolding fits has_room all_hold
bye_fits w = refl

pub bye_same : (a b : Version) → spelling a messages.Bye ≡ spelling b messages.Bye
unfolding spelling
bye_same a b = refl

bye_is : (w : Version) → bye_sent w ≡ exchange w (silent messages.Bye ∷ [])
bye_is w = ap outs (append-nil (spelling w messages.Bye)) ∙ sym (append-nil (outs (spelling w messages.Bye)))

module _ (task : Task) (x : Exchange) (some : 1 ≤ task.depth) (most : task.depth ≤ most_depth) (room : length task.queries.items ≤ most_queries) (can : CanBeDone task) (good : IsGood task x) (talk : IsHonestTalk x.talk) where
  abbrev v : Version
  v = version_of task

  abbrev stream : List Update
  stream = updates (inquiry_of task x) x

  legal : IsLegal task.depth stream
  legal = records_legal task.depth task.form x.stream

  speak : All (Speaks v task.depth) task.queries.items
  speak = needed-speaks task.depth task.queries.items most

  shallow : task.depth ≤ deepest v
  shallow = shallow_of v task.depth task.queries.items can.some speak

  -- ---- the questions

  abbrev Can : Query → Type 0
  Can q = CanBeAsked task.depth q × Speaks v task.depth q × HasFewEntries v task.depth stream q

  all_posed : (questions : List Question) → All Can (map (λ (t : Question). t.query) questions) → All (IsBlock task.depth) (map (λ (t : Question). t.block) questions) → All (Posed v task.depth stream some legal) questions
  all_posed [] qs bs = All-nil (Posed v task.depth stream some legal)
  all_posed (t ∷ questions) qs bs =
      let here = All-head Can t.query (map (λ (t : Question). t.query) questions) qs in
      All-cons (Posed v task.depth stream some legal) t questions (record {
        fits = here.0.1;
        speaks = here.1;
        few = here.2;
        built = here.0.0;
        at = All-head (IsBlock task.depth) t.block (map (λ (t : Question). t.block) questions) bs;
      }) (all_posed questions (All-tail Can t.query (map (λ (t : Question). t.query) questions) qs) (All-tail (IsBlock task.depth) t.block (map (λ (t : Question). t.block) questions) bs))

  posed : (questions : List Question) → AreQuestions (inquiry_of task x) x questions → All (Posed v task.depth stream some legal) questions
  posed questions are =
      let each : All Can task.queries.items = λ i d less. (can.asked i d less, speak i d less, good.few i d less) in
      all_posed questions (subst (All Can) (sym are.queries) (All-take Can (length questions) task.queries.items each))
      (subst (All (IsBlock task.depth)) (sym are.blocks) (All-take (IsBlock task.depth) (length questions) (blocks task are.challenges) (are_blocks task x.seed are.challenges some are.drawn)))

  few_questions : (questions : List Question) → AreQuestions (inquiry_of task x) x questions → length questions ≤ most_queries
  few_questions questions are =
      omega (arith, room, ap (λ (l : List Query). length l) are.queries, length-map questions (λ (t : Question). t.query), length-take (length questions) task.queries.items)

  -- ---- the rounds

  abbrev frames : List (List Update)
  frames = cut most_rows stream

  -- ---- every query was accepted

  pub accepted_report : AllWritten (inquiry_of task x) x → x.report ≡ report_of task.depth stream task.queries.items
  accepted_report w =
      let questions = questions_of (inquiry_of task x) x w.done in
      let are = w.reached.are_questions in
      let C : Type 0 = x.report ≡ report_of task.depth stream task.queries.items in
      let Last : List ℕ → List ℕ → Type 0 = λ _ _. C in
      let bye : List Round = silent messages.Bye ∷ [] in
      let rest : List Round = done_rounds v task.depth stream some legal w.done bye in
      let count : length questions ≡ length w.done = length-map w.done (λ a. a.question) in
      let all : take (length questions) task.queries.items ≡ task.queries.items = take_all (length questions) task.queries.items (omega (arith, count, w.all)) in
      let walk = walk_all v task.depth stream Last shallow some legal rest (λ t at. walk_done v task.depth stream some legal Last w.done bye (posed questions are) t 0 at (let fits : 0 + length w.done ≤ most_queries = omega (arith, room, w.all) in fits)
      (λ u m less again lines. walk_then Last v u (silent messages.Bye) [] (record {
        is = record { has_spelling = bye_fits u.version; to_helper = refl; in_range = tt };
        same = bye_same v u.version;
        may = refl;
      }) (λ refused a b agree. w.report ∙ lines ∙ ap (report_of task.depth stream) (are.queries ∙ all)))) in
      (holds_of Last v (stream_rounds Last v task.depth shallow frames rest) walk x.talk
      (w.reached.talk ∙ append_assoc (stream_sent v task.depth stream) (flat_map (said_for v task.depth stream) questions) (bye_sent v)
      ∙ ap (λ l. stream_sent v task.depth stream ++ l) (ap (λ l. flat_map (said_for v task.depth stream) questions ++ l) (bye_is v) ∙ said_done v task.depth stream some legal w.done bye (posed questions are))
      ∙ sym (said_stream v task.depth stream Last shallow rest)) talk).last

  -- ---- a query was rejected

  same_said : (l : List Question) (t : Question) → flat_map (said_for v task.depth stream) (l ++ t ∷ []) ≡ flat_map (said_for v task.depth stream) l ++ said_for v task.depth stream t
  same_said [] t = append-nil (said_for v task.depth stream t)
  same_said (q ∷ l) t = ap (λ m. said_for v task.depth stream q ++ m) (same_said l t) ∙ sym (append_assoc (said_for v task.depth stream q) (flat_map (said_for v task.depth stream) l) (said_for v task.depth stream t))

  rejected : (query round : ℕ) (reason : Reason) → (w : OneFaulty (inquiry_of task x) x query round reason) → reason ≡ reasons.Refused want_of_memory
  rejected query round reason w = by_replies w.last.replies refl
    where
      fault : Fault
      fault = record { round = round; reason = reason }

      questions : List Question
      questions = questions_of (inquiry_of task x) x w.done

      all_are : All (Posed v task.depth stream some legal) (questions ++ w.last ∷ [])
      all_are = posed (questions ++ w.last ∷ []) w.reached.are_questions

      here : Posed v task.depth stream some legal w.last
      here = last_of questions all_are
        where
          last_of : (l : List Question) → All (Posed v task.depth stream some legal) (l ++ w.last ∷ []) → Posed v task.depth stream some legal w.last
          last_of [] all = All-head (Posed v task.depth stream some legal) w.last [] all
          last_of (q ∷ l) all = last_of l (All-tail (Posed v task.depth stream some legal) q (l ++ w.last ∷ []) all)

      before : All (Posed v task.depth stream some legal) questions
      before = front_of questions all_are
        where
          front_of : (l : List Question) → All (Posed v task.depth stream some legal) (l ++ w.last ∷ []) → All (Posed v task.depth stream some legal) l
          front_of [] all = All-nil (Posed v task.depth stream some legal)
          front_of (q ∷ l) all = All-cons (Posed v task.depth stream some legal) q l (All-head (Posed v task.depth stream some legal) q (l ++ w.last ∷ []) all) (front_of l (All-tail (Posed v task.depth stream some legal) q (l ++ w.last ∷ []) all))

      room_for : length w.done + 1 ≤ most_queries
      room_for = omega (arith, few_questions (questions ++ w.last ∷ []) w.reached.are_questions, length-append questions (w.last ∷ []), length-map w.done (λ a. a.question))

      by_replies : (replies : List (List ℕ)) → w.last.replies ≡ replies → reason ≡ reasons.Refused want_of_memory
      by_replies [] none = absurd (taken_row v task.depth stream some legal w.last.query w.last.block here (Rattle.sip_verifier.specs.Kinds.kind_row v task.depth stream w.last.query) fault
          (subst (λ l. IsFaulty v task.depth stream (record { query = w.last.query; block = w.last.block; replies = l }) fault) none w.faulty))
      by_replies (b ∷ bs) are =
          let faulty = subst (λ l. IsFaulty v task.depth stream (record { query = w.last.query; block = w.last.block; replies = l }) fault) are w.faulty in
          let Last : List ℕ → List ℕ → Type 0 = FaultLast reason in
          let tail : List Round = question_rounds w.last.query w.last.block (b ∷ bs) [] in
          let rest : List Round = done_rounds v task.depth stream some legal w.done tail in
          let row = Rattle.sip_verifier.specs.Kinds.kind_row v task.depth stream w.last.query in
          let known = how v task.depth stream some legal w.last.query w.last.block here in
          let walk = walk_all v task.depth stream Last shallow some legal rest (λ t at. walk_done v task.depth stream some legal Last w.done tail before t 0 at (let fits : 0 + length w.done ≤ most_queries = omega (arith, room_for) in fits)
          (λ u m less again lines. fault_row v task.depth stream some legal w.last.query w.last.block here row b bs fault known faulty u m again (omega (arith, room_for, less)))) in
          let rounds : List Round = stream_rounds Last v task.depth shallow frames rest in
          let said : x.talk ≡ exchange v rounds ++ ending reason =
          w.reached.talk ∙ ap (λ l. l ++ ending reason)
          (ap (λ l. stream_sent v task.depth stream ++ l) (same_said questions w.last
          ∙ ap (λ l. flat_map (said_for v task.depth stream) questions ++ l) (ap (λ l. said_for v task.depth stream (record { query = w.last.query; block = w.last.block; replies = l })) are
          ∙ sym (append-nil (said_for v task.depth stream (record { query = w.last.query; block = w.last.block; replies = b ∷ bs })))
          ∙ said_fault v task.depth stream some legal w.last.query w.last.block here row b bs fault [] known faulty)
          ∙ said_done v task.depth stream some legal w.done tail before)
          ∙ sym (said_stream v task.depth stream Last shallow rest)) in
          elim (ends_in reason) [
            | inl closed ↦
                let h = whole_of Last v rounds walk x.talk (said ∙ ap (λ l. exchange v rounds ++ l) closed.1) talk in
                elim h.last [ inl is ↦ is | inr cut_off ↦ absurd (cut_off.1 h.whole) ]
            | inr other ↦
                let h = holds_of Last v rounds walk x.talk (said ∙ ap (λ l. exchange v rounds ++ l) other.1 ∙ append-nil (exchange v rounds)) talk in
                elim h.last [ inl is ↦ is | inr cut_off ↦ absurd (other.0 cut_off.0) ]
          ]

  some_drawn : drawn task x.seed ≡ None → ⊥
  some_drawn none = let is = good.drawn in cc

module _ (task : Task) (x : Exchange) (some : 1 ≤ task.depth) (most : task.depth ≤ most_depth) (room : length task.queries.items ≤ most_queries) (can : CanBeDone task) (talk : IsHonestTalk x.talk) where
  -- the promise, by the clauses of verdicts and of causes
  pub duel_accepts : (before now : Counts) (status : Status) → VerdictClause (inquiry_of task x) x status → CauseClause (inquiry_of task x) x before now status → IsListed status → DuelAccepts task x before now status
  duel_accepts before now statuses.Accepted w cause is = λ good none. inl (refl, accepted_report task x some most room can good talk w)
  duel_accepts before now (statuses.Rejected query round reason) w cause is = λ good none. inr (inr (query, round, ap (λ (r : Reason). statuses.Rejected query round r) (rejected task x some most room can good talk query round reason w)))
  duel_accepts before now (statuses.BadStream at why) w cause is = λ good none. absurd (let fault = cause.2 in let legal = good.legal in cc)
  duel_accepts before now (statuses.TooWide query) w cause is = λ good none. absurd (let legal : IsLegal task.depth (updates (inquiry_of task x) x) = records_legal task.depth task.form x.stream in let narrow = none_wide (version_of task) task.depth (updates (inquiry_of task x) x) task.queries.items legal.items good.few in let wide = cause.1 in cc)
  duel_accepts before now (statuses.TooHigh query) w cause is = absurd cause.1
  duel_accepts before now statuses.BadSeed w cause is = λ good none. absurd (some_drawn task x some most room can good talk (none_drawn (challenge_count task) x.seed cause))
  duel_accepts before now statuses.SeedSpent w cause is = λ good none. absurd (some_drawn task x some most room can good talk cause.1)
  duel_accepts before now (statuses.ReadFault ports.First) w cause is = λ good none. absurd (none.first cause.1)
  duel_accepts before now (statuses.ReadFault ports.Second) w cause is = λ good none. absurd (none.second cause)
  duel_accepts before now (statuses.WriteFault ports.Report) w cause is = λ good none. absurd (none.report cause.1)
  duel_accepts before now (statuses.WriteFault ports.Keep) w cause is = λ good none. absurd (none.keep cause.2)
  duel_accepts before now statuses.PeerFault w cause is = λ good none. absurd (none.peer cause.1)
  duel_accepts before now statuses.OutOfMemory w cause is = λ good none. inr (inl refl)
  duel_accepts before now (statuses.WriteFault _) w cause is = absurd cause.1
  duel_accepts before now _ w cause is = absurd cause

-- ---- a run over a link

-- the run's talk is the one that its link tells, where nothing had happened on it
pub played : (task : Task) → 1 ≤ task.depth → task.depth ≤ most_depth → length task.queries.items ≤ most_queries → CanBeDone task → (before now : Snapshot) (status : Status) (old new : List TalkEvent) → RunClause task before now status
    → before.talk ≡ Some old → now.talk ≡ Some new → IsHonestTalk new → old ≡ [] → (x : Exchange) → Tells before now x → DuelAccepts task x before.faults now.faults status
played task some most room can before now status old new keeps was is honest none x tells =
    let had : List TalkEvent = tells.talk.0 in
    let empty : had ≡ [] = same_Some had old (sym tells.talk.1 ∙ was) ∙ none in
    let same : new ≡ x.talk = same_Some new (had ++ x.talk) (sym is ∙ tells.talk.2) ∙ ap (λ l. l ++ x.talk) empty in
    let promises = keeps.promises x tells in
    duel_accepts task x some most room can (subst IsHonestTalk same honest) before.faults now.faults status promises.verdict promises.cause keeps.listed
