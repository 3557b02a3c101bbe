-- Questions that are put to an honest helper, one after another.
use Rattle.std.proofs.Common.{◌≡◌, ℕ, ◌+◌, ◌<◌, ◌≤◌, Bool, false, IsTrue, List, [], ◌∷◌, ◌++◌, length, map, inl, inr, refl, sym, ap, ◌∙◌, subst, append_assoc, append-nil, arith}
use Rattle.std.specs.Prelude.{All, is_none, nat_lt}
use Rattle.std.specs.List.{flat_map}
use Rattle.std.proofs.lemmas.Bool.{and_from, lt-ltb}
use Rattle.std.proofs.lemmas.List.Elements.{All-cons, All-nil, All-head, All-tail}
use Rattle.sip_vector.specs.declared.query.Query.{Query}
use Rattle.sip_vector.specs.declared.update.Update.{Update}
use Rattle.sip_vector.specs.Answers.{Answer, Fits, answer}
use Rattle.sip_vector.specs.Built.{is_built}
use Rattle.sip_vector.specs.Streams.{IsLegal}
use Rattle.sip_wire.specs.declared.message.Message.{Message}
use Rattle.sip_wire.specs.declared.message.Message.TheVariants as messages
use Rattle.sip_wire.specs.declared.version.Version.{Version}
use Rattle.sip_wire.specs.Spelling.{spelling}
use Rattle.sip_wire.specs.Table.{most_queries}
use Rattle.sip_wire.specs.Versions.{Speaks}
use Rattle.sip_wire.proofs.Asking.{query-fits}
use Rattle.sip_replies.specs.Replies as replied
use Rattle.sip_replies.specs.Replies.{Fault, IsAccepted, IsStated, joined}
use Rattle.sip_replies.specs.Talks.{asked, asked_unless}
use Rattle.sip_replies.proofs.Unasked.{accepted_asked, accepted_unasked}
use Rattle.sip_helper.specs.declared.heard.Heard.TheVariants.{Whole}
use Rattle.sip_helper.specs.Serving.{IsMessage}
use Rattle.sip_helper.specs.Streams.{vectors_of}
use Rattle.sip_helper.specs.Turns.{HelperState, after_answer, may_ask, owed, step}
use Rattle.sip_verifier.specs.CompletenessClause.{HasFewEntries, honest_in}
use Rattle.sip_verifier.specs.Kinds.{Holds, Kind, KindRow, built, kind_row, missing}
use Rattle.sip_verifier.specs.Questions.{Accepted, Accepts, IsFaulty, Question, said_by_kind, said_for}
use Rattle.sip_verifier.specs.Widths.{is_too_wide}
use Rattle.sip_verifier.proofs.Blocks.{IsBlock}
use Rattle.sip_duel.proofs.AcceptLemmas.{bye_fits, bye_same}
use Rattle.sip_duel.proofs.WalkLemmas.{Comes, Round, Walk, exchange}
use Rattle.sip_duel.proofs.RevealLemmas.{reveals, walk_then}
use Rattle.sip_duel.proofs.QueryLemmas.{IsAtRest, walk_accepted}
use Rattle.sip_duel.proofs.FaultLemmas.{FaultLast}
use Rattle.sip_duel.proofs.StreamLemmas.{silent}
use Rattle.sip_verifier.proofs.HonestQuestions.{question_done}
use Rattle.sip_duel.proofs.KindLemmas.{AskedOrKnown, not_refused}
use Rattle.sip_duel.proofs.DoneLemmas.{reveals_fit, IsPosed, Posed, asked_is, done_rounds, fault_row, fits_below, how, question_rounds, walk_done}
use Rattle.sip_session.specs.PanelHonesty.{IsRight}
use Rattle.sip_session.proofs.HonestKinds.{AskableOrKnown, IsAskable, IsBarred, askable_or_known, few_or_barred}
use Rattle.sip_session.proofs.HonestRefusals.{RightLast, barred_accepted, barred_faulty}

-- ---- walks

-- what the last reply comes to may be said with less
pub walk_weaker : (L M : List ℕ → List ℕ → Type 0) → ((b o : List ℕ) → L b o → M b o) → (v : Version) (s : HelperState) (rounds : List Round) → Walk L v s rounds → Walk M v s rounds
walk_weaker L M f v s [] walk = absurd walk
walk_weaker L M f v s (r ∷ []) walk = (walk.0, λ refused u w agree. f r.reply (owed (step s refused r.message)) (walk.1 refused u w agree))
walk_weaker L M f v s (r ∷ next ∷ rest) walk = (
  walk.0,
  λ refused u w agree.
      let on = walk.1 refused u w agree in
      (on.0, walk_weaker L M f v (after_answer (step s refused r.message)) (next ∷ rest) on.1),
)

-- what holds whatever the last reply is, behind a message without one, holds without that message
pub without_last : (C : Type 0) (v : Version) (s : HelperState) (r : Round) (rest : List Round) (m : Message) → Walk (λ _ _. C) v s (r ∷ (rest ++ silent m ∷ [])) → Walk (λ _ _. C) v s (r ∷ rest)
without_last C v s r [] m walk = (
  walk.0,
  λ refused u w agree.
      let on = walk.1 refused u w agree in
      let due : List ℕ = owed (step (after_answer (step s refused r.message)) false m) in
      on.1.1 false due [] (sym (append-nil due)),
)
without_last C v s r (next ∷ rest) m walk = (
  walk.0,
  λ refused u w agree.
      let on = walk.1 refused u w agree in
      (on.0, without_last C v (after_answer (step s refused r.message)) next rest m on.1),
)

-- nothing is replied to the farewell
silent_bye : (C : Type 0) (v : Version) (s : HelperState) → C → Walk (λ _ _. C) v s (silent messages.Bye ∷ [])
silent_bye C v s holds =
    walk_then (λ _ _. C) v s (silent messages.Bye) [] (record {
      is = record { has_spelling = bye_fits s.version; to_helper = refl; in_range = tt };
      same = bye_same v s.version;
      may = refl;
    }) (λ refused x y agree. holds)

module _ (v : Version) (depth : ℕ) (stream : List Update) (some : 1 ≤ depth) (legal : IsLegal depth stream) where
  -- a query that can be put to a helper, at its block
  pub record IsPut (q : Query) (block : List ℕ) : Type 0 where
    pub fits : Fits depth q
    pub speaks : Speaks v depth q
    pub built : IsTrue (is_built q)
    pub narrow : is_too_wide stream q ≡ false
    pub at : IsBlock depth block

  pub posed : (q : Query) (block : List ℕ) → IsPut q block → HasFewEntries v depth stream q → IsPosed v depth stream some legal q block
  posed q block put few = record { fits = put.fits; speaks = put.speaks; few = few; built = put.built; at = put.at }

  pub put_comes : (s : HelperState) (n : ℕ) (q : Query) (block : List ℕ) → IsPut q block → IsAtRest v depth (vectors_of depth stream) s n → n < most_queries → Comes v s (messages.Query q)
  put_comes s n q block put rest less = record {
    is = subst (λ x. IsMessage x (messages.Query q)) (sym rest.version) (record { has_spelling = query-fits v depth q put.speaks put.fits; to_helper = refl; in_range = tt });
    same = ap (λ x. spelling x (messages.Query q)) (sym rest.version);
    may = ap (λ h. elim h as (λ _. Bool) [ Whole d ↦ may_ask d s q | _ ↦ false ]) rest.heard
        ∙ and_from _ _ (and_from _ _ (and_from _ _ (ap is_none rest.closed) (ap (λ m. nat_lt m most_queries) rest.queries ∙ lt-ltb n most_queries less)) put.built) (fits_below depth q put.fits);
  }

  -- ---- one question, by the row of its kind

  module _ (q : Query) (block : List ℕ) (put : IsPut q block) where
    -- what is said for it
    said_asked : (kind : Kind) (b : List ℕ) (bs : List (List ℕ)) (tail : List Round) → IsAskable v depth stream (kind.protocol block) → length bs ≤ length block
        → said_by_kind (built kind) (record { query = q; block = block; replies = b ∷ bs }) ++ exchange v tail ≡ exchange v (question_rounds q block (b ∷ bs) tail)
    said_asked kind b bs tail can few =
        ap (λ u. asked_unless u (kind.protocol block).rules.version (messages.Query q) block (b ∷ bs) ++ exchange v tail) can.asked
        ∙ ap (λ x. asked x (messages.Query q) block (b ∷ bs) ++ exchange v tail) can.version ∙ asked_is v q block b bs tail few

    pub said_accepted : (row : KindRow) (replies : List (List ℕ)) (a : Answer) (tail : List Round) → Holds (AskableOrKnown v depth stream block) row → Holds (λ kind. IsAccepted (kind.protocol block) block replies a) row
        → said_by_kind row (record { query = q; block = block; replies = replies }) ++ exchange v tail ≡ exchange v (question_rounds q block replies tail)
    said_accepted missing replies a tail how accepts = absurd how
    said_accepted (built kind) replies a tail (inl can) accepts = by_replies replies (accepted_asked (kind.protocol block) block replies a can.asked accepts).all
      where
        by_replies : (rs : List (List ℕ)) → length rs ≡ length block → said_by_kind (built kind) (record { query = q; block = block; replies = rs }) ++ exchange v tail ≡ exchange v (question_rounds q block rs tail)
        by_replies [] all = absurd (omega (arith, all, put.at.size, some))
        by_replies (b ∷ bs) all = said_asked kind b bs tail can (omega (arith, all))
    said_accepted (built kind) replies a tail (inr known) accepts =
        let none = accepted_unasked (kind.protocol block) block replies a known.0 known.1 accepts in
        ap (λ u. asked_unless u (kind.protocol block).rules.version (messages.Query q) block replies ++ exchange v tail) known.1 ∙ ap (λ l. exchange v (question_rounds q block l tail)) (sym none.0)

    pub said_faulty : (row : KindRow) (b : List ℕ) (bs : List (List ℕ)) (fault : Fault) (tail : List Round) → Holds (AskableOrKnown v depth stream block) row → Holds (λ kind. replied.IsFaulty (kind.protocol block) block (b ∷ bs) fault) row
        → said_by_kind row (record { query = q; block = block; replies = b ∷ bs }) ++ exchange v tail ≡ exchange v (question_rounds q block (b ∷ bs) tail)
    said_faulty missing b bs fault tail how faulty = absurd how
    said_faulty (built kind) b bs fault tail (inl can) faulty = said_asked kind b bs tail can (omega (arith, faulty.taken))
    said_faulty (built kind) b bs fault tail (inr known) faulty = absurd (let both = sym known.1 ∙ faulty.asked in cc)

    -- replies with a fault are some
    pub some_taken : (row : KindRow) (fault : Fault) → Holds (λ kind. replied.IsFaulty (kind.protocol block) block [] fault) row → ⊥
    some_taken missing fault faulty = faulty
    some_taken (built kind) fault faulty = absurd (omega (arith, faulty.taken, put.at.size, some))

    -- the rounds of one that is refused
    barred_row : (row : KindRow) (replies : List (List ℕ)) (a : Answer) → Holds (AskableOrKnown v depth stream block) row → Holds (λ kind. IsAccepted (kind.protocol block) block replies a) row → IsBarred v depth stream q
        → (Last : List ℕ → List ℕ → Type 0) (tail : List Round) (s : HelperState) (n : ℕ) → IsAtRest v depth (vectors_of depth stream) s n → n < most_queries → Walk Last v s tail → Walk Last v s (question_rounds q block replies tail)
    barred_row missing replies a how accepts barred Last tail s n rest less on = absurd how
    barred_row (built kind) replies a (inl can) accepts barred Last tail s n rest less on = by_replies replies (accepted_asked (kind.protocol block) block replies a can.asked accepts)
      where
        by_replies : (rs : List (List ℕ)) → IsStated (kind.protocol block) block rs a → Walk Last v s (question_rounds q block rs tail)
        by_replies [] stated = absurd (omega (arith, stated.all, put.at.size, some))
        by_replies (b ∷ bs) stated = barred_accepted v depth stream q (kind.protocol block) can block barred Last s n rest (put_comes s n q block put rest less) b bs a stated tail
    barred_row (built kind) replies a (inr known) accepts barred Last tail s n rest less on =
        let none = accepted_unasked (kind.protocol block) block replies a known.0 known.1 accepts in
        subst (λ l. Walk Last v s (question_rounds q block l tail)) (sym none.0) on

    barred_fault : (row : KindRow) (b : List ℕ) (bs : List (List ℕ)) (fault : Fault) → Holds (AskableOrKnown v depth stream block) row → Holds (λ kind. replied.IsFaulty (kind.protocol block) block (b ∷ bs) fault) row → IsBarred v depth stream q
        → (s : HelperState) (n : ℕ) → IsAtRest v depth (vectors_of depth stream) s n → n < most_queries → Walk (RightLast v depth stream q fault.reason) v s (question_rounds q block (b ∷ bs) [])
    barred_fault missing b bs fault how faulty barred s n rest less = absurd how
    barred_fault (built kind) b bs fault (inl can) faulty barred s n rest less = barred_faulty v depth stream q (kind.protocol block) can block b fault barred s n rest (put_comes s n q block put rest less) bs faulty
    barred_fault (built kind) b bs fault (inr known) faulty barred s n rest less = absurd (let both = sym known.1 ∙ faulty.asked in cc)

    -- a fault of an honest helper's replies is one for which it may be dropped
    pub walk_fault : (b : List ℕ) (bs : List (List ℕ)) (fault : Fault) → IsFaulty v depth stream (record { query = q; block = block; replies = b ∷ bs }) fault
        → (s : HelperState) (n : ℕ) → IsAtRest v depth (vectors_of depth stream) s n → n < most_queries → Walk (RightLast v depth stream q fault.reason) v s (question_rounds q block (b ∷ bs) [])
    walk_fault b bs fault faulty s n rest less = elim (few_or_barred v depth stream legal q put.built put.narrow) [
      | inl few ↦
          let is = posed q block put few in
          walk_weaker (FaultLast fault.reason) (RightLast v depth stream q fault.reason) right v s (question_rounds q block (b ∷ bs) [])
          (fault_row v depth stream some legal q block is (kind_row v depth stream q) b bs fault (how v depth stream some legal q block is) faulty s n rest less)
      | inr barred ↦ barred_fault (kind_row v depth stream q) b bs fault (askable_or_known v depth stream q block put.built) faulty barred s n rest less
    ]
      where
        right : (c o : List ℕ) → FaultLast fault.reason c o → RightLast v depth stream q fault.reason c o
        right c o (inl is) = inl (subst (IsRight depth stream q) (sym is) (inl refl))
        right c o (inr cut) = inr cut

  -- ---- questions one after another

  abbrev pub Put : Question → Type 0
  Put t = IsPut t.query t.block

  pub said_own : (done : List (Accepted v depth stream)) (tail : List Round) → All Put (map (λ (a : Accepted v depth stream). a.question) done)
      → flat_map (said_for v depth stream) (map (λ (a : Accepted v depth stream). a.question) done) ++ exchange v tail ≡ exchange v (done_rounds v depth stream some legal done tail)
  said_own [] tail put = refl
  said_own (a ∷ done) tail put =
      let t = a.question in
      let later : List Question = map (λ (x : Accepted v depth stream). x.question) done in
      let here = All-head Put t later put in
      append_assoc (said_for v depth stream t) (flat_map (said_for v depth stream) later) (exchange v tail)
      ∙ ap (λ l. said_for v depth stream t ++ l) (said_own done tail (All-tail Put t later put))
      ∙ said_accepted t.query t.block here (kind_row v depth stream t.query) t.replies a.answer (done_rounds v depth stream some legal done tail) (askable_or_known v depth stream t.query t.block here.built) a.accepts

  -- replies that were accepted leave the helper at rest
  pub walk_own : (Last : List ℕ → List ℕ → Type 0) (done : List (Accepted v depth stream)) (tail : List Round) → All Put (map (λ (a : Accepted v depth stream). a.question) done)
      → (s : HelperState) (n : ℕ) → IsAtRest v depth (vectors_of depth stream) s n → n + length done ≤ most_queries
      → ((t : HelperState) (m : ℕ) → m ≤ n + length done → IsAtRest v depth (vectors_of depth stream) t m → Walk Last v t tail) → Walk Last v s (done_rounds v depth stream some legal done tail)
  walk_own Last [] tail put s n rest room on = on s n (omega arith) rest
  walk_own Last (a ∷ done) tail put s n rest room on =
      let t = a.question in
      let later : List Question = map (λ (x : Accepted v depth stream). x.question) done in
      let here = All-head Put t later put in
      let others = All-tail Put t later put in
      elim (few_or_barred v depth stream legal t.query here.built here.narrow) [
        | inl few ↦
            let is = posed t.query t.block here few in
            walk_done v depth stream some legal Last (a ∷ []) (done_rounds v depth stream some legal done tail) (All-cons (Posed v depth stream some legal) t [] is (All-nil (Posed v depth stream some legal)))
            s n rest (let fits : n + 1 ≤ most_queries = omega (arith, room) in fits)
            (λ u m most at lines. walk_own Last done tail others u m at (omega (arith, room, most)) (λ w k less again. on w k (omega (arith, less, most)) again))
        | inr barred ↦
            barred_row t.query t.block here (kind_row v depth stream t.query) t.replies a.answer (askable_or_known v depth stream t.query t.block here.built) a.accepts barred Last (done_rounds v depth stream some legal done tail)
            s n rest (omega (arith, room)) (walk_own Last done tail others s n rest (omega (arith, room)) (λ w k less again. on w k (omega (arith, less)) again))
      ]

  -- ---- an answer

  -- accepted replies of an honest helper to a query that can be answered state the stream's own answer
  module _ (q : Query) (block : List ℕ) (put : IsPut q block) (few : HasFewEntries v depth stream q) (b : List ℕ) (bs : List (List ℕ)) (given : Answer)
      (s : HelperState) (n : ℕ) (rest : IsAtRest v depth (vectors_of depth stream) s n) (less : n < most_queries) where
    abbrev IsOwn : Type 0
    IsOwn = given ≡ answer depth stream q

    abbrev bye : List Round
    bye = silent messages.Bye ∷ []

    answer_row : (row : KindRow) → Holds (AskedOrKnown v depth stream q block) row → Holds (λ kind. IsAccepted (kind.protocol block) block (b ∷ bs) given) row
        → (flat_map (λ l. l) (honest_in row block) ≡ joined (b ∷ bs) → IsOwn) → Walk (λ _ _. IsOwn) v s (question_rounds q block (b ∷ bs) bye)
    answer_row missing how accepts right = absurd how
    answer_row (built kind) (inl asked) accepts right =
        walk_accepted (λ _ _. IsOwn) v depth stream q block (kind.protocol block) (kind.honest block) asked (not_refused v depth stream some legal q few) (reveals_fit v block put.at.below) put.at.size some
        s n rest (put_comes s n q block put rest less) b bs given (accepted_asked (kind.protocol block) block (b ∷ bs) given asked.asked accepts) bye (λ t at same. silent_bye IsOwn v t (right (ap joined (sym same))))
    answer_row (built kind) (inr known) accepts right = absurd (let none = (accepted_unasked (kind.protocol block) block (b ∷ bs) given known.known known.unasked accepts).0 in cc)

    pub walk_answer : Accepts v depth stream (record { query = q; block = block; replies = b ∷ bs }) given → Walk (λ _ _. IsOwn) v s (question_rounds q block (b ∷ bs) [])
    walk_answer accepts =
        subst (λ l. Walk (λ _ _. IsOwn) v s (record { message = messages.Query q; reply = b } ∷ l)) (sym (append-nil (reveals block bs)))
        (without_last IsOwn v s (record { message = messages.Query q; reply = b }) (reveals block bs) messages.Bye
        (answer_row (kind_row v depth stream q) (how v depth stream some legal q block (posed q block put few)) accepts
        (λ e. (question_done v depth stream some legal q block (b ∷ bs) given [] [] put.fits put.speaks few put.at accepts (ap (λ l. l ++ []) e)).1)))
