-- The rounds of a query by its kind, and of queries one after another.
use Rattle.std.proofs.Common.{◌≡◌, ℕ, ◌+◌, ◌^◌, ◌<◌, ◌≤◌, Bool, true, false, IsTrue, List, [], ◌∷◌, ◌++◌, length, map, Some, None, inl, inr, refl, sym, ap, ◌∙◌, subst, append_assoc, append-nil, arith}
use Rattle.std.specs.Prelude.{All, nat_lt, is_none}
use Rattle.std.specs.List.{flat_map}
use Rattle.std.proofs.lemmas.Bool.{and_from, lt-ltb}
use Rattle.std.proofs.lemmas.Bool.Decides.{nat_tests}
use Rattle.std.proofs.lemmas.List.Elements.{All-cons, All-nil, All-head, All-tail}
use Rattle.sip_field.specs.Moduli.{m61_modulus}
use Rattle.sip_ports.specs.Ports.{outs, ins}
use Rattle.sip_vector.specs.Answers.{Answer, Fits, answer}
use Rattle.sip_vector.specs.Built.{is_built}
use Rattle.sip_vector.specs.Streams.{IsLegal}
use Rattle.sip_vector.specs.declared.query.Query.{Query}
use Rattle.sip_vector.specs.declared.query.Query.TheVariants.{Sub, Range, F2, Inner, Heavy, Share, Above}
use Rattle.sip_vector.specs.declared.update.Update.{Update}
use Rattle.sip_wire.specs.declared.message.Message.TheVariants as messages
use Rattle.sip_wire.specs.declared.version.Version.{Version}
use Rattle.sip_wire.specs.Spelling.{fits, has_room, all_hold, spelling}
use Rattle.sip_wire.specs.Table.{most_queries}
use Rattle.sip_wire.specs.Versions.{Speaks}
use Rattle.sip_wire.proofs.Asking.{query-fits}
use Rattle.sip_replies.specs.Replies as replied
use Rattle.sip_replies.specs.Replies.{Fault, IsAccepted, IsStated, joined}
use Rattle.sip_replies.specs.Talks.{asked, asked_unless, exchanged, sent}
use Rattle.sip_helper.specs.declared.heard.Heard.TheVariants.{Whole}
use Rattle.sip_helper.specs.Kinds.{is_below}
use Rattle.sip_helper.specs.Serving.{IsMessage}
use Rattle.sip_helper.specs.Streams.{vectors_of}
use Rattle.sip_helper.specs.Turns.{HelperState, may_ask}
use Rattle.sip_verifier.specs.CompletenessClause.{HasFewEntries, honest_in}
use Rattle.sip_verifier.specs.Kinds.{KindRow, built, missing, kind_row, Holds}
use Rattle.sip_verifier.specs.Questions.{Accepted, Question, said_by_kind, said_for, IsFaulty}
use Rattle.sip_verifier.specs.Reports.{line, report_of}
use Rattle.sip_verifier.proofs.Blocks.{IsBlock}
use Rattle.sip_verifier.proofs.HonestQuestions.{question_done}
use Rattle.sip_duel.proofs.WalkLemmas.{Round, exchange, Comes, Walk}
use Rattle.sip_duel.proofs.RevealLemmas.{reveals}
use Rattle.sip_duel.proofs.KindLemmas.{AskedOrKnown, asked_or_known, not_refused}
use Rattle.sip_duel.proofs.QueryLemmas.{IsAtRest, walk_accepted}
use Rattle.sip_duel.proofs.FaultLemmas.{FaultLast, walk_faulty}

-- ---- messages that may come

reveal_fits : (v : Version) (r : ℕ) → r < m61_modulus → IsTrue (fits v (messages.Reveal r))
unfolding fits has_room all_hold
reveal_fits v r lt = grind (arith, nat_tests)

pub reveals_fit : (v : Version) (rs : List ℕ) → All (λ r. r < m61_modulus) rs → All (λ c. IsMessage v (messages.Reveal c)) rs
reveals_fit v [] below = All-nil (λ c. IsMessage v (messages.Reveal c))
reveals_fit v (r ∷ rs) below =
    All-cons (λ c. IsMessage v (messages.Reveal c)) r rs (record { has_spelling = reveal_fits v r (All-head (λ x. x < m61_modulus) r rs below); to_helper = refl; in_range = tt })
    (reveals_fit v rs (All-tail (λ x. x < m61_modulus) r rs below))

pub fits_below : (depth : ℕ) (q : Query) → Fits depth q → is_below depth q ≡ true
fits_below depth (Sub lo hi) fits = lt-ltb hi (2 ^ depth) fits.1
fits_below depth (Range side lo hi) fits = lt-ltb hi (2 ^ depth) fits.1
fits_below depth (F2 side) fits = refl
fits_below depth Inner fits = refl
fits_below depth (Heavy side t) fits = refl
fits_below depth (Share side num den) fits = refl
fits_below depth (Above side t) fits = refl

-- ---- rounds of a question

abbrev pub question_rounds : Query → List ℕ → List (List ℕ) → List Round → List Round
question_rounds q block [] tail = tail
question_rounds q block (b ∷ bs) tail = record { message = messages.Query q; reply = b } ∷ (reveals block bs ++ tail)

pub exchanged_is : (v : Version) (block : List ℕ) (b : List ℕ) (bs : List (List ℕ)) (tail : List Round) → length bs ≤ length block → ins b ++ exchange v (reveals block bs ++ tail) ≡ exchanged v (b ∷ bs) block ++ exchange v tail
exchanged_is v block b [] tail few = refl
exchanged_is v [] b (n ∷ bs) tail few = absurd (omega (arith, few))
exchanged_is v (r ∷ rs) b (n ∷ bs) tail few =
    ap (λ l. ins b ++ (outs (spelling v (messages.Reveal r)) ++ l)) (exchanged_is v rs n bs tail (omega (arith, few)))
    ∙ ap (λ l. ins b ++ l) (sym (append_assoc (outs (spelling v (messages.Reveal r))) (exchanged v (n ∷ bs) rs) (exchange v tail)))
    ∙ sym (append_assoc (ins b) (outs (spelling v (messages.Reveal r)) ++ exchanged v (n ∷ bs) rs) (exchange v tail))
    ∙ ap (λ l. l ++ exchange v tail) (sym (append_assoc (ins b) (outs (spelling v (messages.Reveal r))) (exchanged v (n ∷ bs) rs))
    ∙ ap (λ l. (ins b ++ outs l) ++ exchanged v (n ∷ bs) rs) (sym (append-nil (spelling v (messages.Reveal r)))))

pub asked_is : (v : Version) (q : Query) (block : List ℕ) (b : List ℕ) (bs : List (List ℕ)) (tail : List Round) → length bs ≤ length block → asked v (messages.Query q) block (b ∷ bs) ++ exchange v tail ≡ exchange v (question_rounds q block (b ∷ bs) tail)
asked_is v q block b bs tail few =
    append_assoc (sent v (messages.Query q ∷ [])) (exchanged v (b ∷ bs) block) (exchange v tail)
    ∙ ap (λ l. outs l ++ (exchanged v (b ∷ bs) block ++ exchange v tail)) (append-nil (spelling v (messages.Query q)))
    ∙ ap (λ l. outs (spelling v (messages.Query q)) ++ l) (sym (exchanged_is v block b bs tail few))

module _ (v : Version) (depth : ℕ) (stream : List Update) (some : 1 ≤ depth) (legal : IsLegal depth stream) where
  -- a query that can be put, at its block
  pub record IsPosed (q : Query) (block : List ℕ) : Type 0 where
    pub fits : Fits depth q
    pub speaks : Speaks v depth q
    pub few : HasFewEntries v depth stream q
    pub built : IsTrue (is_built q)
    pub at : IsBlock depth block

  query_comes : (s : HelperState) (n : ℕ) (q : Query) (block : List ℕ) → IsPosed q block → IsAtRest v depth (vectors_of depth stream) s n → n < most_queries → Comes v s (messages.Query q)
  query_comes s n q block posed rest less = record {
    is = subst (λ x. IsMessage x (messages.Query q)) (sym rest.version) (record { has_spelling = query-fits v depth q posed.speaks posed.fits; to_helper = refl; in_range = tt });
    same = ap (λ x. spelling x (messages.Query q)) (sym rest.version);
    may = ap (λ h. elim h as (λ _. Bool) [ Whole d ↦ may_ask d s q | _ ↦ false ]) rest.heard
        ∙ and_from _ _ (and_from _ _ (and_from _ _ (ap is_none rest.closed) (ap (λ m. nat_lt m most_queries) rest.queries ∙ lt-ltb n most_queries less)) posed.built) (fits_below depth q posed.fits);
  }

  -- by the row of its kind
  module _ (q : Query) (block : List ℕ) (posed : IsPosed q block) where
    said_row : (row : KindRow) (replies : List (List ℕ)) (a : Answer) (tail : List Round) → Holds (AskedOrKnown v depth stream q block) row → Holds (λ kind. IsAccepted (kind.protocol block) block replies a) row
        → said_by_kind row (record { query = q; block = block; replies = replies }) ++ exchange v tail ≡ exchange v (question_rounds q block replies tail)
    said_row missing replies a tail how accepts = absurd how
    said_row (built kind) replies a tail (inl asked) accepts =
        ap (λ u. asked_unless u (kind.protocol block).rules.version (messages.Query q) block replies ++ exchange v tail) asked.asked
        ∙ ap (λ x. Rattle.sip_replies.specs.Talks.asked x (messages.Query q) block replies ++ exchange v tail) asked.version
        ∙ by_replies replies (subst (λ u. elim u as (λ _. Type 0) [ None ↦ IsStated (kind.protocol block) block replies a | Some known ↦ (replies ≡ []) × (a ≡ known) ]) asked.asked accepts).all
      where
        by_replies : (rs : List (List ℕ)) → length rs ≡ length block → Rattle.sip_replies.specs.Talks.asked v (messages.Query q) block rs ++ exchange v tail ≡ exchange v (question_rounds q block rs tail)
        by_replies [] all = absurd (omega (arith, all, posed.at.size, some))
        by_replies (b ∷ bs) all = asked_is v q block b bs tail (let few : length bs ≤ length block = omega (arith, all) in few)
    said_row (built kind) replies a tail (inr known) accepts =
        let none = subst (λ u. elim u as (λ _. Type 0) [ None ↦ IsStated (kind.protocol block) block replies a | Some x ↦ (replies ≡ []) × (a ≡ x) ]) known.unasked accepts in
        ap (λ u. asked_unless u (kind.protocol block).rules.version (messages.Query q) block replies ++ exchange v tail) known.unasked ∙ ap (λ l. exchange v (question_rounds q block l tail)) (sym none.0)

    walk_row : (Last : List ℕ → List ℕ → Type 0) (row : KindRow) (replies : List (List ℕ)) (a : Answer) (tail : List Round) → Holds (AskedOrKnown v depth stream q block) row → Holds (λ kind. IsAccepted (kind.protocol block) block replies a) row
        → (flat_map (λ l. l) (honest_in row block) ≡ joined replies → a ≡ answer depth stream q)
        → (s : HelperState) (n : ℕ) → IsAtRest v depth (vectors_of depth stream) s n → n < most_queries
        → ((t : HelperState) (m : ℕ) → m ≤ n + 1 → IsAtRest v depth (vectors_of depth stream) t m → a ≡ answer depth stream q → Walk Last v t tail) → Walk Last v s (question_rounds q block replies tail)
    walk_row Last missing replies a tail how accepts right s n rest less on = absurd how
    walk_row Last (built kind) replies a tail (inl asked) accepts right s n rest less on =
        by_replies replies (subst (λ u. elim u as (λ _. Type 0) [ None ↦ IsStated (kind.protocol block) block replies a | Some known ↦ (replies ≡ []) × (a ≡ known) ]) asked.asked accepts) right
      where
        by_replies : (rs : List (List ℕ)) → IsStated (kind.protocol block) block rs a → (flat_map (λ l. l) (kind.honest block) ≡ joined rs → a ≡ answer depth stream q) → Walk Last v s (question_rounds q block rs tail)
        by_replies [] stated right = absurd (omega (arith, stated.all, posed.at.size, some))
        by_replies (b ∷ bs) stated right =
            walk_accepted Last v depth stream q block (kind.protocol block) (kind.honest block) asked (not_refused v depth stream some legal q posed.few) (reveals_fit v block posed.at.below) posed.at.size some
            s n rest (query_comes s n q block posed rest less) b bs a stated tail (λ t at same. on t (n + 1) (omega arith) at (right (ap joined (sym same))))
    walk_row Last (built kind) replies a tail (inr known) accepts right s n rest less on =
        let none = subst (λ u. elim u as (λ _. Type 0) [ None ↦ IsStated (kind.protocol block) block replies a | Some x ↦ (replies ≡ []) × (a ≡ x) ]) known.unasked accepts in
        subst (λ l. Walk Last v s (question_rounds q block l tail)) (sym none.0) (on s n (omega arith) rest (right (ap joined (known.none ∙ sym none.0))))

    -- a fault
    pub said_fault : (row : KindRow) (b : List ℕ) (bs : List (List ℕ)) (fault : Fault) (tail : List Round) → Holds (AskedOrKnown v depth stream q block) row → Holds (λ kind. replied.IsFaulty (kind.protocol block) block (b ∷ bs) fault) row
        → said_by_kind row (record { query = q; block = block; replies = b ∷ bs }) ++ exchange v tail ≡ exchange v (question_rounds q block (b ∷ bs) tail)
    said_fault missing b bs fault tail how faulty = absurd how
    said_fault (built kind) b bs fault tail (inl asked) faulty =
        ap (λ u. asked_unless u (kind.protocol block).rules.version (messages.Query q) block (b ∷ bs) ++ exchange v tail) asked.asked
        ∙ ap (λ x. Rattle.sip_replies.specs.Talks.asked x (messages.Query q) block (b ∷ bs) ++ exchange v tail) asked.version
        ∙ asked_is v q block b bs tail (let few : length bs ≤ length block = omega (arith, faulty.taken) in few)
    said_fault (built kind) b bs fault tail (inr known) faulty = absurd (let both = sym known.unasked ∙ faulty.asked in cc)

    pub fault_row : (row : KindRow) (b : List ℕ) (bs : List (List ℕ)) (fault : Fault) → Holds (AskedOrKnown v depth stream q block) row → Holds (λ kind. replied.IsFaulty (kind.protocol block) block (b ∷ bs) fault) row
        → (s : HelperState) (n : ℕ) → IsAtRest v depth (vectors_of depth stream) s n → n < most_queries → Walk (FaultLast fault.reason) v s (question_rounds q block (b ∷ bs) [])
    fault_row missing b bs fault how faulty s n rest less = absurd how
    fault_row (built kind) b bs fault (inl asked) faulty s n rest less =
        walk_faulty v depth stream q block (kind.protocol block) (kind.honest block) asked (not_refused v depth stream some legal q posed.few) (reveals_fit v block posed.at.below) posed.at.size some b bs fault faulty s n rest (query_comes s n q block posed rest less)
    fault_row (built kind) b bs fault (inr known) faulty s n rest less = absurd (let both = sym known.unasked ∙ faulty.asked in cc)

    pub taken_row : (row : KindRow) (fault : Fault) → Holds (λ kind. replied.IsFaulty (kind.protocol block) block [] fault) row → ⊥
    taken_row missing fault faulty = faulty
    taken_row (built kind) fault faulty = absurd (omega (arith, faulty.taken, posed.at.size, some))

  -- ---- queries one after another

  abbrev pub done_rounds : List (Accepted v depth stream) → List Round → List Round
  done_rounds [] tail = tail
  done_rounds (a ∷ done) tail = question_rounds a.question.query a.question.block a.question.replies (done_rounds done tail)

  abbrev pub Posed : Question → Type 0
  Posed t = IsPosed t.query t.block

  pub how : (q : Query) (block : List ℕ) → IsPosed q block → Holds (AskedOrKnown v depth stream q block) (kind_row v depth stream q)
  how q block posed = asked_or_known v depth stream some legal q block posed.fits posed.speaks posed.few posed.at

  pub said_done : (done : List (Accepted v depth stream)) (tail : List Round) → All Posed (map (λ (a : Accepted v depth stream). a.question) done)
      → flat_map (said_for v depth stream) (map (λ (a : Accepted v depth stream). a.question) done) ++ exchange v tail ≡ exchange v (done_rounds done tail)
  said_done [] tail posed = refl
  said_done (a ∷ done) tail posed =
      let t = a.question in
      let later : List Question = map (λ (x : Accepted v depth stream). x.question) done in
      let here = All-head Posed t later posed in
      append_assoc (said_for v depth stream t) (flat_map (said_for v depth stream) later) (exchange v tail)
      ∙ ap (λ l. said_for v depth stream t ++ l) (said_done done tail (All-tail Posed t later posed))
      ∙ said_row t.query t.block here (kind_row v depth stream t.query) t.replies a.answer (done_rounds done tail) (how t.query t.block here) a.accepts

  pub walk_done : (Last : List ℕ → List ℕ → Type 0) (done : List (Accepted v depth stream)) (tail : List Round) → All Posed (map (λ (a : Accepted v depth stream). a.question) done)
      → (s : HelperState) (n : ℕ) → IsAtRest v depth (vectors_of depth stream) s n → n + length done ≤ most_queries
      → ((t : HelperState) (m : ℕ) → m ≤ n + length done → IsAtRest v depth (vectors_of depth stream) t m
      → flat_map (λ (a : Accepted v depth stream). line a.question.query a.answer) done ≡ report_of depth stream (map (λ (x : Question). x.query) (map (λ (a : Accepted v depth stream). a.question) done)) → Walk Last v t tail)
      → Walk Last v s (done_rounds done tail)
  walk_done Last [] tail posed s n rest room on = on s n (omega arith) rest refl
  walk_done Last (a ∷ done) tail posed s n rest room on =
      let t = a.question in
      let later : List Question = map (λ (x : Accepted v depth stream). x.question) done in
      let here = All-head Posed t later posed in
      walk_row t.query t.block here Last (kind_row v depth stream t.query) t.replies a.answer (done_rounds done tail) (how t.query t.block here) a.accepts
      (λ e. (question_done v depth stream some legal t.query t.block t.replies a.answer [] [] here.fits here.speaks here.few here.at a.accepts (ap (λ l. l ++ []) e)).1)
      s n rest (omega (arith, room))
      (λ u m most at right. walk_done Last done tail (All-tail Posed t later posed) u m at (omega (arith, room, most))
      (λ w k less again lines. on w k (omega (arith, less, most)) again
      (ap (λ y. line t.query y ++ flat_map (λ (x : Accepted v depth stream). line x.question.query x.answer) done) right ∙ ap (λ l. line t.query (answer depth stream t.query) ++ l) lines)))
