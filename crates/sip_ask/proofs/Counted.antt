-- Plans of the seats of a sketch are counted.
use Rattle.std.proofs.Common.{◌≡◌, ◌≢◌, ℕ, ◌*◌, ◌-◌, ◌^◌, ◌<◌, ◌≤◌, true, List, [], ◌∷◌, ◌++◌, length, map, take, drop, All, Option, Some, None, refl, ap, arith}
use Rattle.std.specs.Prelude.{IfSome}
use Rattle.std.proofs.lemmas.List.Elements.{All-cons, All-head, All-nil, All-tail}
use Rattle.sip_field.specs.Moduli.{m61_modulus}
use Rattle.sip_counts.specs.Clauses.{FewAndCounted}
use Rattle.sip_counts.specs.Late.{IsBounded, IsWithin, fooled_late, plan_bounds, seat_of, seats_at, unasked}
use Rattle.sip_counts.specs.Strategies.{IsOfBytes, Strategy, fooled, replies, takes_wrong}
use Rattle.sip_counts.proofs.AnyOrder.{few_fooled, never_fooled}
use Rattle.sip_counts.proofs.Vectors.{counted-none}
use Rattle.sip_vector.specs.declared.update.Update.{Update}
use Rattle.sip_vector.specs.Answers.{Answer}
use Rattle.sip_vector.specs.Answers as answers
use Rattle.sip_wire.specs.declared.version.Version.{Version}
use Rattle.sip_verifier.specs.CountClause.{accepts_in, bound_of}
use Rattle.sip_verifier.specs.JointClause.{asked_by}
use Rattle.sip_verifier.specs.Kinds.{Holds, Kind, KindRow, built, missing, kind_row}
use Rattle.sip_verifier.proofs.CountedQuestions.{few_wrong, question_counts}
use Rattle.sip_above.proofs.LargeCounts.{few_large, large_counts}
use Rattle.sip_lookup.proofs.WrittenLooks.{few_looks, look_counts}
use Rattle.sip_moments.proofs.WrittenMoments.{few_moments, moment_counts}
use Rattle.sip_questions.specs.Counting.{CountsOf}
use Rattle.sip_questions.specs.Honest.{answer}
use Rattle.sip_questions.specs.Questions.{AcceptsOf, Answered, Posed, to_large, to_lookup, to_moment, to_query}
use Rattle.sip_questions.specs.declared.question.Question.{Question}
use Rattle.sip_questions.specs.declared.question.Question.TheVariants as questions
use Rattle.sip_ask.specs.Counting.{Asked, IsCounted, IsSound, SeatPlan, counted, counted_by, counted_or_none, plan_of}
use Rattle.sip_ask.proofs.Premises.{lookup-fits, moment-counts, query-counts, query-fits}

-- ---- each question alone

module _ (version : Version) (depth : ℕ) (stream : List Update) where
  abbrev asked_of : Question → Asked
  asked_of question = record { version = version; stream = stream; question = question }

  -- no strategy wins at more blocks than the row's bound
  abbrev FewIn : Kind → Type 0
  FewIn kind = kind.CanBeCounted → (strategy : Strategy) → IsOfBytes strategy
      → fooled m61_modulus depth (accepts_in kind) kind.is_right strategy ≤ bound_of depth kind * m61_modulus ^ (depth - 1)

  row-few : (row : KindRow) → Holds FewIn row → Holds (λ kind. kind.CanBeCounted) row → IsBounded m61_modulus depth (asked_by accepts_in depth row)
  row-few (built kind) few can = few can
  row-few missing few can = absurd few

  question-few : (q : Question) → IsCounted depth (asked_of q) → IsBounded m61_modulus depth (counted_by depth (asked_of q) q)
  question-few (questions.Query query) is =
      row-few (kind_row version depth stream query) (few_wrong version depth stream query (query-fits depth query is.fitting) is.legal)
      (query-counts version depth stream query is.fitting is.unsigned)
  question-few (questions.Lookup lookup) is = few_looks version depth stream is.legal lookup (lookup-fits depth lookup is.fitting)
  question-few (questions.Moment moment) is = few_moments version depth stream is.legal moment (moment-counts depth stream moment is.fitting is.low)
  question-few (questions.Large large) is = few_large version depth stream large is.legal

  -- a wrong answer that was accepted is one that the row counts
  row-counts : (row : KindRow) (block : List ℕ) (taken : List (List ℕ)) (written right : Answer) (strategy : Strategy)
      → Holds (λ kind. kind.CanBeCounted → FewAndCounted m61_modulus depth (bound_of depth kind) (accepts_in kind) kind.is_right block taken (Some written) right) row
      → Holds (λ kind. kind.CanBeCounted) row → replies strategy block ≡ map Some taken → written ≢ right
      → takes_wrong (asked_by accepts_in depth row).accepts (asked_by accepts_in depth row).is_right strategy block ≡ true
  row-counts (built kind) block taken written right strategy counts can talk wrong = (counts can).counts strategy written talk refl wrong
  row-counts missing block taken written right strategy counts can talk wrong = absurd counts

  pub question-counts : (t : Posed) (q : Question) (written : Answered) (strategy : Strategy) → IsCounted depth (asked_of q)
      → AcceptsOf version depth stream t q written → written ≢ answer depth stream q → replies strategy t.block ≡ map Some t.replies
      → takes_wrong (counted_by depth (asked_of q) q).accepts (counted_by depth (asked_of q) q).is_right strategy t.block ≡ true
  question-counts t (questions.Query query) (to_query written) strategy is accepts wrong talk =
      row-counts (kind_row version depth stream query) t.block t.replies written (answers.answer depth stream query) strategy
      (question_counts version depth stream query t.block t.replies written (query-fits depth query is.fitting).1 is.legal accepts)
      (query-counts version depth stream query is.fitting is.unsigned) talk (λ same. wrong (ap to_query same))
  question-counts t (questions.Lookup lookup) (to_lookup written) strategy is accepts wrong talk =
      (look_counts version depth stream is.legal (record { query = lookup; block = t.block; replies = t.replies }) written (lookup-fits depth lookup is.fitting) accepts).counts
      strategy written talk refl (λ same. wrong (ap to_lookup same))
  question-counts t (questions.Moment moment) (to_moment written) strategy is accepts wrong talk =
      (moment_counts version depth stream is.legal (record { query = moment; block = t.block; replies = t.replies }) written accepts
      (moment-counts depth stream moment is.fitting is.low)).counts
      strategy written talk refl (λ same. wrong (ap to_moment same))
  question-counts t (questions.Large large) (to_large written) strategy is accepts wrong talk =
      (large_counts version depth stream (record { query = large; block = t.block; replies = t.replies }) written is.legal accepts).counts
      strategy written talk refl (λ same. wrong (ap to_large same))
  question-counts t (questions.Query query) (to_large written) strategy is accepts wrong talk = absurd accepts
  question-counts t (questions.Lookup lookup) (to_large written) strategy is accepts wrong talk = absurd accepts
  question-counts t (questions.Moment moment) (to_large written) strategy is accepts wrong talk = absurd accepts
  question-counts t (questions.Large large) (to_query written) strategy is accepts wrong talk = absurd accepts
  question-counts t (questions.Large large) (to_lookup written) strategy is accepts wrong talk = absurd accepts
  question-counts t (questions.Large large) (to_moment written) strategy is accepts wrong talk = absurd accepts
  question-counts t (questions.Query query) (to_lookup written) strategy is accepts wrong talk = absurd accepts
  question-counts t (questions.Query query) (to_moment written) strategy is accepts wrong talk = absurd accepts
  question-counts t (questions.Lookup lookup) (to_query written) strategy is accepts wrong talk = absurd accepts
  question-counts t (questions.Lookup lookup) (to_moment written) strategy is accepts wrong talk = absurd accepts
  question-counts t (questions.Moment moment) (to_query written) strategy is accepts wrong talk = absurd accepts
  question-counts t (questions.Moment moment) (to_lookup written) strategy is accepts wrong talk = absurd accepts

  -- where that is promised of a line
  pub question-found : (t : Posed) (q : Question) (written : Answered) (strategy : Strategy) → IsCounted depth (asked_of q)
      → CountsOf version depth stream t q written → written ≢ answer depth stream q → replies strategy t.block ≡ map Some t.replies
      → takes_wrong (counted_by depth (asked_of q) q).accepts (counted_by depth (asked_of q) q).is_right strategy t.block ≡ true
  question-found t (questions.Query query) (to_query written) strategy is counts wrong talk =
      row-counts (kind_row version depth stream query) t.block t.replies written (answers.answer depth stream query) strategy
      counts (query-counts version depth stream query is.fitting is.unsigned) talk (λ same. wrong (ap to_query same))
  question-found t (questions.Lookup lookup) (to_lookup written) strategy is counts wrong talk =
      counts.counts strategy written talk refl (λ same. wrong (ap to_lookup same))
  question-found t (questions.Moment moment) (to_moment written) strategy is counts wrong talk =
      (counts (moment-counts depth stream moment is.fitting is.low)).counts strategy written talk refl (λ same. wrong (ap to_moment same))
  question-found t (questions.Large large) (to_large written) strategy is counts wrong talk =
      counts.counts strategy written talk refl (λ same. wrong (ap to_large same))
  question-found t (questions.Query query) (to_large written) strategy is counts wrong talk = absurd counts
  question-found t (questions.Lookup lookup) (to_large written) strategy is counts wrong talk = absurd counts
  question-found t (questions.Moment moment) (to_large written) strategy is counts wrong talk = absurd counts
  question-found t (questions.Large large) (to_query written) strategy is counts wrong talk = absurd counts
  question-found t (questions.Large large) (to_lookup written) strategy is counts wrong talk = absurd counts
  question-found t (questions.Large large) (to_moment written) strategy is counts wrong talk = absurd counts
  question-found t (questions.Query query) (to_lookup written) strategy is counts wrong talk = absurd counts
  question-found t (questions.Query query) (to_moment written) strategy is counts wrong talk = absurd counts
  question-found t (questions.Lookup lookup) (to_query written) strategy is counts wrong talk = absurd counts
  question-found t (questions.Lookup lookup) (to_moment written) strategy is counts wrong talk = absurd counts
  question-found t (questions.Moment moment) (to_query written) strategy is counts wrong talk = absurd counts
  question-found t (questions.Moment moment) (to_lookup written) strategy is counts wrong talk = absurd counts

-- ---- plans

none-bounded : (depth : ℕ) → IsBounded m61_modulus depth unasked
none-bounded depth = λ strategy bytes.
    omega (arith, counted-none m61_modulus depth (takes_wrong unasked.accepts unasked.is_right strategy) (λ v _. never_fooled strategy v))

module _ (depth bound : ℕ) where
  -- what a plan comes to is bounded
  abbrev MayBe : Asked → Type 0
  MayBe a = IsCounted depth a × ((counted depth a).bound ≤ bound)

  some-bounded : (o : Option Asked) → IfSome o MayBe → IsBounded m61_modulus depth (counted_or_none depth o)
  some-bounded None may = none-bounded depth
  some-bounded (Some a) may = question-few a.version depth a.stream a.question may.0

  some-most : (o : Option Asked) → IfSome o MayBe → (counted_or_none depth o).bound ≤ bound
  some-most None may = omega arith
  some-most (Some a) may = may.1

seat-within : (depth : ℕ) (p : SeatPlan) (earlier block later : List ℕ) → IsSound depth p → IsWithin m61_modulus depth (seat_of (plan_of depth p) earlier block later)
seat-within depth p earlier block later sound = record {
  few = some-bounded depth p.bound (p.asked earlier later) (sound.asked earlier later);
  most = some-most depth p.bound (p.asked earlier later) (sound.asked earlier later);
  bytes = sound.bytes earlier later;
}

seats-within : (depth : ℕ) (plans : List SeatPlan) (earlier v : List ℕ) → All (IsSound depth) plans
    → All (IsWithin m61_modulus depth) (seats_at depth (map (plan_of depth) plans) earlier v)
seats-within depth [] earlier v sound = All-nil (IsWithin m61_modulus depth)
seats-within depth (p ∷ plans) earlier v sound =
    All-cons (IsWithin m61_modulus depth) (seat_of (plan_of depth p) earlier (take depth v) (drop depth v))
    (seats_at depth (map (plan_of depth) plans) (earlier ++ take depth v) (drop depth v))
    (seat-within depth p earlier (take depth v) (drop depth v) (All-head (IsSound depth) p plans sound))
    (seats-within depth plans (earlier ++ take depth v) (drop depth v) (All-tail (IsSound depth) p plans sound))

pub few-mislead : (depth : ℕ) (plans : List SeatPlan) → 0 < depth → All (IsSound depth) plans
    → fooled_late m61_modulus depth (map (plan_of depth) plans)
    ≤ plan_bounds (map (plan_of depth) plans) * m61_modulus ^ (length (map (plan_of depth) plans) * depth - 1)
few-mislead depth plans some sound =
    few_fooled m61_modulus depth (map (plan_of depth) plans) some (λ v size below. seats-within depth plans [] v sound)
