-- Questions that were judged, accepted or not: where the bytes that two runs heard agree, and what
-- follows them, they came to the same verdicts.
use Rattle.std.proofs.Common.{◌≡◌, ◌⊎◌, ℕ, Option, Some, None, Result, Ok, Err, List, [], ◌∷◌, ◌++◌, length, inl, inr, refl, sym, ap, subst, ◌∙◌, arith, append_assoc}
use Rattle.std.specs.Prelude.{map}
use Rattle.sip_replies.specs.Protocols.{Protocol}
use Rattle.sip_replies.specs.Replies as general
use Rattle.sip_replies.specs.Replies.{Fault, in_round, joined, run, verdict}
use Rattle.sip_replies.proofs.Turns.{same_fault}
use Rattle.sip_replies.proofs.Unasked.{accepted_asked, accepted_unasked}
use Rattle.sip_vector.specs.Answers.{Answer}
use Rattle.sip_vector.specs.Steps.{◌>>=◌}
use Rattle.sip_vector.specs.declared.query.Query.{Query}
use Rattle.sip_vector.specs.declared.update.Update.{Update}
use Rattle.sip_wire.specs.declared.message.Reason.{Reason}
use Rattle.sip_wire.specs.declared.message.Reason.TheVariants as reasons
use Rattle.sip_wire.specs.declared.version.Version.{Version}
use Rattle.sip_verifier.specs.Kinds.{Holds, KindRow, built, kind_row, missing}
use Rattle.sip_verifier.specs.Questions.{Question}
use Rattle.sip_verifier.proofs.HeardTalks.{replied}
use Rattle.sip_transcript.proofs.SameReplies.{IsCut, same_replies}

abbrev pub Outcome : Type 0
Outcome = Result Answer Fault

-- ---- one question

-- what its replies come to
abbrev pub IsJudged : {S : Type 0} → Protocol S → List ℕ → List (List ℕ) → Outcome → Type 0
IsJudged P block replies (Ok answer) = general.IsAccepted P block replies answer
IsJudged P block replies (Err fault) = general.IsFaulty P block replies fault

-- nothing follows where the end of the link is the fault
abbrev pub Closes : Outcome → List ℕ → Type 0
Closes (Ok answer) behind = Unit {0}
Closes (Err fault) behind = fault.reason ≡ reasons.Closed → behind ≡ []

ok_no_fault : (answer : Answer) (fault : Fault) → ◌≡◌ {A = Outcome} (Ok answer) (Err fault) → ⊥
ok_no_fault answer fault e = cc

round_of : {X : Type 0} (round : ℕ) (r : Result X Reason) (fault : Fault) → in_round round r ≡ Err fault → fault.round ≡ round
round_of round (Ok x) fault e = absurd cc
round_of round (Err reason) fault e = ap (λ (f : Fault). f.round) (sym (same_fault (record { round = round; reason = reason }) fault e))

module _ {S : Type 0} (P : Protocol S) (block : List ℕ) (replies : List (List ℕ)) where
  -- a fault of a reply is the verdict
  reply_fault : (fault : Fault) → run P.rules block replies ≡ Err fault → verdict P block replies ≡ Err fault
  reply_fault fault is = ap (λ (r : Result S Fault). r >>= λ s. in_round (length block) (P.finish s)) is

  -- behind the last reply it is that of the tests
  tests_fault : (s : S) → run P.rules block replies ≡ Ok s → verdict P block replies ≡ in_round (length block) (P.finish s)
  tests_fault s is = ap (λ (r : Result S Fault). r >>= λ t. in_round (length block) (P.finish t)) is

module _ {S : Type 0} (P : Protocol S) (block : List ℕ) (replies : List (List ℕ)) (behind : List ℕ) where
  stated_cut : (answer : Answer) → general.IsStated P block replies answer → IsCut P.rules (length block) 0 block P.rules.start replies behind
  stated_cut answer own =
      let long = own.all in
      let none : (fault : Fault) → run P.rules block replies ≡ Err fault → ⊥ = λ fault e. ok_no_fault answer fault (sym own.found ∙ reply_fault P block replies fault e) in record {
        few = omega (arith, long);
        all = λ t e. omega (arith, long);
        last = λ fault e. absurd (none fault e);
        closed = λ fault e is. absurd (none fault e);
        shortest = λ fault e other. absurd (none fault e);
      }

  faulty_cut : (fault : Fault) → general.IsFaulty P block replies fault → Closes (Err fault) behind → IsCut P.rules (length block) 0 block P.rules.start replies behind
  faulty_cut fault own closes =
      let long = own.taken in
      let is : (f : Fault) → run P.rules block replies ≡ Err f → f ≡ fault = λ f e. same_fault {X = Answer} f fault (sym (reply_fault P block replies f e) ∙ own.found) in record {
        few = omega (arith, long);
        all = λ t e. let last = round_of (length block) (P.finish t) fault (sym (tests_fault P block replies t e) ∙ own.found) in omega (arith, long, last);
        last = λ f e. let same = ap (λ (g : Fault). g.round) (is f e) in omega (arith, long, same);
        closed = λ f e at. closes (ap (λ (g : Fault). g.reason) (sym (is f e)) ∙ at);
        shortest = λ f e other earlier front byte at. (
          record { round = length earlier; reason = reasons.Closed },
          own.shortest earlier front byte at (λ closed. other (ap (λ (g : Fault). g.reason) (is f e) ∙ closed)),
          refl,
        );
      }

  pub judged_cut : (o : Outcome) → P.unasked ≡ None → IsJudged P block replies o → Closes o behind → IsCut P.rules (length block) 0 block P.rules.start replies behind
  judged_cut (Ok answer) is own closes = stated_cut answer (accepted_asked P block replies answer is own)
  judged_cut (Err fault) is own closes = faulty_cut fault own closes

  pub judged_found : (o : Outcome) → P.unasked ≡ None → IsJudged P block replies o → verdict P block replies ≡ o
  judged_found (Ok answer) is own = let stated = accepted_asked P block replies answer is own in stated.found
  judged_found (Err fault) is own = own.found

  -- where nothing is asked
  pub judged_known : (o : Outcome) (known : Answer) → P.unasked ≡ Some known → IsJudged P block replies o → ([] ≡ replies) × (o ≡ Ok known)
  judged_known (Ok answer) known is own = let x = accepted_unasked P block replies answer known is own in (sym x.0, ap (λ (y : Answer). Ok y) x.1)
  judged_known (Err fault) known is own = absurd (let asked = own.asked in let both : None ≡ Some known = sym asked ∙ is in cc)

one_judged : {S : Type 0} (P : Protocol S) (block : List ℕ) (ones others : List (List ℕ)) (one other : Outcome) (b a : List ℕ) (unasked : Option Answer) → P.unasked ≡ unasked
    → IsJudged P block ones one → IsJudged P block others other → Closes one b → Closes other a → joined ones ++ b ≡ joined others ++ a → (b ≡ a) × (other ≡ one)
one_judged P block ones others one other b a None is p q f g e =
    let same = same_replies P.rules (length block) 0 block P.rules.start ones others b a (judged_cut P block ones b one is p f) (judged_cut P block others a other is q g) e in
    (same.1, sym (judged_found P block others a other is q) ∙ ap (verdict P block) (sym same.0) ∙ judged_found P block ones b one is p)
one_judged P block ones others one other b a (Some known) is p q f g e =
    let x = judged_known P block ones b one known is p in
    let y = judged_known P block others a other known is q in
    (ap (λ (l : List (List ℕ)). joined l ++ b) x.0 ∙ e ∙ ap (λ (l : List (List ℕ)). joined l ++ a) (sym y.0), y.1 ∙ sym x.1)

-- by the row of its query
abbrev pub RowJudged : KindRow → List ℕ → List (List ℕ) → Outcome → Type 0
RowJudged row block replies o = Holds (λ kind. IsJudged (kind.protocol block) block replies o) row

row_judged : (row : KindRow) (block : List ℕ) (ones others : List (List ℕ)) (one other : Outcome) (b a : List ℕ) → RowJudged row block ones one → RowJudged row block others other
    → Closes one b → Closes other a → joined ones ++ b ≡ joined others ++ a → (b ≡ a) × (other ≡ one)
row_judged (built kind) block ones others one other b a p q f g e = one_judged (kind.protocol block) block ones others one other b a (kind.protocol block).unasked refl p q f g e
row_judged missing block ones others one other b a p q f g e = absurd p

-- ---- all questions

pub ok_or_fault : (o : Outcome) → ((answer : Answer) × (o ≡ Ok answer)) ⊎ ((fault : Fault) × (o ≡ Err fault))
ok_or_fault (Ok answer) = inl (answer, refl)
ok_or_fault (Err fault) = inr (fault, refl)

module _ (version : Version) (depth : ℕ) (stream : List Update) where
  -- a question that was judged
  pub record Judged : Type 0 where
    pub question : Question
    pub outcome : Outcome
    pub judged : RowJudged (kind_row version depth stream question.query) question.block question.replies outcome

  -- their replies
  abbrev pub replies_of : List Judged → List ℕ
  replies_of xs = replied (map (λ (x : Judged). x.question) xs)

  -- their queries, and what came of these
  abbrev pub verdict_of : Judged → Query × Outcome
  verdict_of x = (x.question.query, x.outcome)

  abbrev pub verdicts : List Judged → List (Query × Outcome)
  verdicts xs = map verdict_of xs

  both_same : (x y : Judged) (vs us : List (Query × Outcome)) → y.question.query ≡ x.question.query → y.outcome ≡ x.outcome → vs ≡ us → verdict_of y ∷ vs ≡ verdict_of x ∷ us
  both_same x y vs us e f same = cc

  -- none is asked behind a fault
  abbrev pub GoesOn : Outcome → List Judged → Type 0 → Type 0
  GoesOn (Ok answer) xs rest = rest
  GoesOn (Err fault) xs rest = xs ≡ []

  -- they are these queries at their blocks, up to a fault or to the last one
  abbrev pub AreOf : List Judged → List Query → List (List ℕ) → Type 0
  AreOf [] [] blocks = Unit {0}
  AreOf [] (q ∷ queries) blocks = ⊥
  AreOf (x ∷ xs) [] blocks = ⊥
  AreOf (x ∷ xs) (q ∷ queries) [] = ⊥
  AreOf (x ∷ xs) (q ∷ queries) (b ∷ blocks) =
      (x.question.query ≡ q) × (x.question.block ≡ b) × GoesOn x.outcome xs (AreOf xs queries blocks)

  -- nothing follows where the end of the link is a fault
  abbrev pub AllClose : List Judged → List ℕ → Type 0
  AllClose [] behind = Unit {0}
  AllClose (x ∷ xs) behind = Closes x.outcome behind × AllClose xs behind

  pub closes_on : (o : Outcome) (xs : List Judged) (behind : List ℕ) (rest : Type 0) → GoesOn o xs rest → Closes o behind → Closes o (replies_of xs ++ behind)
  closes_on (Ok answer) xs behind rest on closes = tt
  closes_on (Err fault) xs behind rest none closes = λ is. ap (λ (l : List Judged). replies_of l ++ behind) none ∙ closes is

  first_same : (x y : Judged) (b a : List ℕ) → x.question.query ≡ y.question.query → x.question.block ≡ y.question.block → Closes x.outcome b → Closes y.outcome a
      → joined x.question.replies ++ b ≡ joined y.question.replies ++ a → (b ≡ a) × (y.outcome ≡ x.outcome)
  first_same x y b a same at f g e =
      let own = subst (λ (query : Query). RowJudged (kind_row version depth stream query) y.question.block y.question.replies y.outcome) (sym same) y.judged in
      let here = subst (λ (block : List ℕ). RowJudged (kind_row version depth stream x.question.query) block y.question.replies y.outcome) (sym at) own in
      row_judged (kind_row version depth stream x.question.query) x.question.block x.question.replies y.question.replies x.outcome y.outcome b a x.judged here f g e

  pub same_verdicts : (xs ys : List Judged) (queries : List Query) (blocks : List (List ℕ)) (b a : List ℕ) → AreOf xs queries blocks → AreOf ys queries blocks → AllClose xs b → AllClose ys a
      → replies_of xs ++ b ≡ replies_of ys ++ a → (b ≡ a) × (verdicts ys ≡ verdicts xs)
  same_verdicts [] [] queries blocks b a p q f g e = (e, refl)
  same_verdicts [] (y ∷ ys) [] blocks b a p q f g e = absurd q
  same_verdicts [] (y ∷ ys) (query ∷ queries) blocks b a p q f g e = absurd p
  same_verdicts (x ∷ xs) [] [] blocks b a p q f g e = absurd p
  same_verdicts (x ∷ xs) [] (query ∷ queries) blocks b a p q f g e = absurd q
  same_verdicts (x ∷ xs) (y ∷ ys) [] blocks b a p q f g e = absurd p
  same_verdicts (x ∷ xs) (y ∷ ys) (query ∷ queries) [] b a p q f g e = absurd p
  same_verdicts (x ∷ xs) (y ∷ ys) (query ∷ queries) (block ∷ blocks) b a p q f g e =
      let T = AreOf xs queries blocks in
      let U = AreOf ys queries blocks in
      let one = first_same x y (replies_of xs ++ b) (replies_of ys ++ a) (p.0 ∙ sym q.0) (p.1 ∙ sym q.1)
      (closes_on x.outcome xs b T p.2 f.0) (closes_on y.outcome ys a U q.2 g.0)
      (sym (append_assoc (joined x.question.replies) (replies_of xs) b) ∙ e ∙ append_assoc (joined y.question.replies) (replies_of ys) a) in
      let query_same : y.question.query ≡ x.question.query = q.0 ∙ sym p.0 in
      elim (ok_or_fault x.outcome) [
        | inl m ↦
            let rest = same_verdicts xs ys queries blocks b a (subst (λ (o : Outcome). GoesOn o xs T) m.1 p.2)
            (subst (λ (o : Outcome). GoesOn o ys U) (one.1 ∙ m.1) q.2) f.1 g.1 one.0 in
            (rest.0, both_same x y (verdicts ys) (verdicts xs) query_same one.1 rest.1)
        | inr m ↦
            let none : xs ≡ [] = subst (λ (o : Outcome). GoesOn o xs T) m.1 p.2 in
            let nil : ys ≡ [] = subst (λ (o : Outcome). GoesOn o ys U) (one.1 ∙ m.1) q.2 in (
              ap (λ (l : List Judged). replies_of l ++ b) (sym none) ∙ one.0 ∙ ap (λ (l : List Judged). replies_of l ++ a) nil,
              both_same x y (verdicts ys) (verdicts xs) query_same one.1 (ap verdicts (nil ∙ sym none)),
            )
      ]
