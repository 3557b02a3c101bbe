-- Two runs of one inquiry in two versions, over the same messages: they come to the same verdicts.
use Rattle.std.proofs.Common.{◌≡◌, ℕ, None, List, [], ◌∷◌, ◌++◌, inl, inr, refl, sym, ap, subst, ◌∙◌, append_assoc}
use Rattle.sip_ports.specs.declared.port.TalkEvent.{TalkEvent}
use Rattle.sip_stream.specs.Records.{records}
use Rattle.sip_vector.specs.Pieces.{cut}
use Rattle.sip_vector.specs.Extensions.{ones}
use Rattle.sip_vector.specs.Streams.{int_sum, vector}
use Rattle.sip_vector.specs.Thresholds.{share_of}
use Rattle.sip_vector.specs.declared.query.Query.{Query}
use Rattle.sip_vector.specs.declared.query.Query.TheVariants.{Sub, Range, F2, Inner, Heavy, Share, Above}
use Rattle.sip_vector.specs.declared.update.Side.TheVariants.{First, Second}
use Rattle.sip_vector.specs.declared.update.Update.{Update}
use Rattle.sip_wire.specs.declared.message.Message.{Message}
use Rattle.sip_wire.specs.declared.version.Version.{Version}
use Rattle.sip_replies.specs.Replies.{joined}
use Rattle.sip_verifier.specs.declared.status.Status.{Status}
use Rattle.sip_verifier.specs.Inquiries.{Inquiry}
use Rattle.sip_verifier.specs.Kinds.{heavy_kind, kind_row, sub_kind, sum_kind}
use Rattle.sip_transcript.specs.Replaying.{Follows}
use Rattle.sip_transcript.proofs.Respelled.{AreBoth, SameEnd, bytes_end, bytes_in}
use Rattle.sip_transcript.proofs.RespelledRuns.{IsAlike, ends_as, one_alike}
use Rattle.sip_transcript.proofs.RunVerdicts.{IsJudgedRun, came_to, told}
use Rattle.sip_transcript.proofs.SameVerdicts.{AllClose, AreOf, Closes, GoesOn, Judged, Outcome, RowJudged, closes_on, ok_or_fault, replies_of, verdicts}

-- ---- one question

-- Each kind's protocol is the same in both versions, but for the version.
row_alike : (v w : Version) (depth : ℕ) (stream : List Update) (query : Query) (block : List ℕ) (ones_replies others : List (List ℕ)) (one other : Outcome) (b a : List ℕ) (ms : List Message) → AreBoth v w ms
    → RowJudged (kind_row v depth stream query) block ones_replies one → RowJudged (kind_row w depth stream query) block others other → Closes one b → Closes other a
    → joined ones_replies ++ b ≡ bytes_in v ms → joined others ++ a ≡ bytes_in w ms → IsAlike v w one other b a
row_alike v w depth stream (Sub lo hi) block xs ys one other b a ms are p q f g e d =
    one_alike ((sub_kind v (vector depth stream First) lo hi).protocol block) w block xs ys one other b a ms None refl are p q f g e d
row_alike v w depth stream (Range side lo hi) block xs ys one other b a ms are p q f g e d =
    one_alike ((sum_kind v depth (vector depth stream side) (ones depth lo hi)).protocol block) w block xs ys one other b a ms None refl are p q f g e d
row_alike v w depth stream (F2 side) block xs ys one other b a ms are p q f g e d =
    one_alike ((sum_kind v depth (vector depth stream side) (vector depth stream side)).protocol block) w block xs ys one other b a ms None refl are p q f g e d
row_alike v w depth stream Inner block xs ys one other b a ms are p q f g e d =
    one_alike ((sum_kind v depth (vector depth stream First) (vector depth stream Second)).protocol block) w block xs ys one other b a ms None refl are p q f g e d
row_alike v w depth stream (Heavy side at_least) block xs ys one other b a ms are p q f g e d =
    let P = (heavy_kind v depth stream side at_least).protocol block in
    one_alike P w block xs ys one other b a ms P.unasked refl are p q f g e d
row_alike v w depth stream (Above side at_least) block xs ys one other b a ms are p q f g e d = absurd p
row_alike v w depth stream (Share side num den) block xs ys one other b a ms are p q f g e d =
    let P = (heavy_kind v depth stream side (share_of num den (int_sum (vector depth stream side)))).protocol block in
    one_alike P w block xs ys one other b a ms P.unasked refl are p q f g e d

-- ---- all questions

pair_same : (p q : Query) (x y : Outcome) (us vs : List (Query × Outcome)) → p ≡ q → x ≡ y → us ≡ vs → ◌≡◌ {A = List (Query × Outcome)} ((p, x) ∷ us) ((q, y) ∷ vs)
pair_same p q x y us vs e f same = cc

module _ (v w : Version) (depth : ℕ) (stream : List Update) where
  abbrev J : Type 0
  J = Judged v depth stream

  abbrev K : Type 0
  K = Judged w depth stream

  first_alike : (x : J) (y : K) (b a : List ℕ) (ms : List Message) → AreBoth v w ms → x.question.query ≡ y.question.query → x.question.block ≡ y.question.block → Closes x.outcome b → Closes y.outcome a
      → joined x.question.replies ++ b ≡ bytes_in v ms → joined y.question.replies ++ a ≡ bytes_in w ms → IsAlike v w x.outcome y.outcome b a
  first_alike x y b a ms are same at f g e d =
      let own = subst (λ (query : Query). RowJudged (kind_row w depth stream query) y.question.block y.question.replies y.outcome) (sym same) y.judged in
      let here = subst (λ (block : List ℕ). RowJudged (kind_row w depth stream x.question.query) block y.question.replies y.outcome) (sym at) own in
      row_alike v w depth stream x.question.query x.question.block x.question.replies y.question.replies x.outcome y.outcome b a ms are x.judged here f g e d

  pub verdicts_alike : (xs : List J) (ys : List K) (queries : List Query) (blocks : List (List ℕ)) (b a : List ℕ) (ms : List Message) → AreBoth v w ms
      → AreOf v depth stream xs queries blocks → AreOf w depth stream ys queries blocks → AllClose v depth stream xs b → AllClose w depth stream ys a
      → replies_of v depth stream xs ++ b ≡ bytes_in v ms → replies_of w depth stream ys ++ a ≡ bytes_in w ms → SameEnd b a × (verdicts w depth stream ys ≡ verdicts v depth stream xs)
  verdicts_alike [] [] queries blocks b a ms are p q f g e d = (ends_as (bytes_in v ms) b (bytes_in w ms) a (sym e) (sym d) (bytes_end v w ms), refl)
  verdicts_alike [] (y ∷ ys) [] blocks b a ms are p q f g e d = absurd q
  verdicts_alike [] (y ∷ ys) (query ∷ queries) blocks b a ms are p q f g e d = absurd p
  verdicts_alike (x ∷ xs) [] [] blocks b a ms are p q f g e d = absurd p
  verdicts_alike (x ∷ xs) [] (query ∷ queries) blocks b a ms are p q f g e d = absurd q
  verdicts_alike (x ∷ xs) (y ∷ ys) [] blocks b a ms are p q f g e d = absurd p
  verdicts_alike (x ∷ xs) (y ∷ ys) (query ∷ queries) [] b a ms are p q f g e d = absurd p
  verdicts_alike (x ∷ xs) (y ∷ ys) (query ∷ queries) (block ∷ blocks) b a ms are p q f g e d =
      let T = AreOf v depth stream xs queries blocks in
      let U = AreOf w depth stream ys queries blocks in
      let behind = replies_of v depth stream xs ++ b in
      let left = replies_of w depth stream ys ++ a in
      let one = first_alike x y behind left ms are (p.0 ∙ sym q.0) (p.1 ∙ sym q.1) (closes_on v depth stream x.outcome xs b T p.2 f.0) (closes_on w depth stream y.outcome ys a U q.2 g.0)
      (sym (append_assoc (joined x.question.replies) (replies_of v depth stream xs) b) ∙ e) (sym (append_assoc (joined y.question.replies) (replies_of w depth stream ys) a) ∙ d) in
      let query_same : y.question.query ≡ x.question.query = q.0 ∙ sym p.0 in
      elim (ok_or_fault x.outcome) [
        | inl m ↦
            let next = one.on m.0 m.1 in
            let rest = verdicts_alike xs ys queries blocks b a next.0 next.1 (subst (λ (o : Outcome). GoesOn v depth stream o xs T) m.1 p.2)
            (subst (λ (o : Outcome). GoesOn w depth stream o ys U) (one.same ∙ m.1) q.2) f.1 g.1 next.2 next.3 in
            (rest.0, pair_same y.question.query x.question.query y.outcome x.outcome (verdicts w depth stream ys) (verdicts v depth stream xs) query_same one.same rest.1)
        | inr m ↦
            let none : xs ≡ [] = subst (λ (o : Outcome). GoesOn v depth stream o xs T) m.1 p.2 in
            let nil : ys ≡ [] = subst (λ (o : Outcome). GoesOn w depth stream o ys U) (one.same ∙ m.1) q.2 in (
              ends_as behind b left a (ap (λ (l : List J). replies_of v depth stream l ++ b) none) (ap (λ (l : List K). replies_of w depth stream l ++ a) nil) one.ends,
              pair_same y.question.query x.question.query y.outcome x.outcome (verdicts w depth stream ys) (verdicts v depth stream xs) query_same one.same
                  (ap (verdicts w depth stream) nil ∙ sym (ap (verdicts v depth stream) none)),
            )
      ]

-- ---- two runs

abbrev pub inquiry_as : Version → Inquiry → Inquiry
inquiry_as w i = record i { version = w }

-- They heard fronts of the same messages, each in its version. They came to the same and wrote the same lines, and heard all of
-- the bytes, both or neither.
pub runs_alike : (i : Inquiry) (w : Version) (bytes : List ℕ) (ms : List Message) (talk other : List TalkEvent) (b a wrote lines : List ℕ) (status given : Status) → AreBoth i.version w ms
    → IsJudgedRun i bytes talk wrote status → IsJudgedRun (inquiry_as w i) bytes other lines given → Follows (bytes_in i.version ms) talk b → Follows (bytes_in w ms) other a
    → SameEnd b a × (given ≡ status) × (lines ≡ wrote)
runs_alike i w bytes ms talk other b a wrote lines status given are p q first second =
    let us : List Update = (records i.depth i.form bytes).legal in
    let same : q.challenges ≡ p.challenges = let c = p.drawn in let d = q.drawn in cc in
    let blocks = cut i.depth p.challenges in
    let of_other = subst (λ (c : List ℕ). AreOf w i.depth us q.judged i.queries (cut i.depth c)) same q.are in
    let both = verdicts_alike i.version w i.depth us p.judged q.judged i.queries blocks b a ms are p.are of_other (p.closes (bytes_in i.version ms) b first) (q.closes (bytes_in w ms) a second)
    (ap (λ (l : List ℕ). l ++ b) (sym p.heard) ∙ sym first.came) (ap (λ (l : List ℕ). l ++ a) (sym q.heard) ∙ sym second.came) in
    (both.0, q.ends ∙ ap (came_to 0) both.1 ∙ sym p.ends, q.report ∙ ap (told 0) both.1 ∙ sym p.report)
