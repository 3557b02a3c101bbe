-- What came of a question in the manner of its kind came of it in the manner of questions.
use Rattle.std.proofs.Common.{◌≡◌, ℕ, ℤ, ◌%◌, ◌^◌, List, ◌++◌, Option, Result, Ok, Err, refl, subst, ap, ◌∙◌, inl, inr}
use Rattle.sip_field.specs.Moduli.{m61_modulus}
use Rattle.sip_mle.specs.StandsFor.{PointStandsFor}
use Rattle.sip_ports.specs.declared.port.TalkEvent.{TalkEvent}
use Rattle.sip_ports.specs.Ports.{GoesOn}
use Rattle.sip_replies.specs.Replies.{Fault}
use Rattle.sip_replies.specs.Talks.{IsPrefix, ending}
use Rattle.sip_vector.specs.declared.query.Query.{Query}
use Rattle.sip_vector.specs.declared.update.Entry.{Entry}
use Rattle.sip_vector.specs.declared.update.Update.{Update}
use Rattle.sip_vector.specs.Answers.{Answer, number, pairs}
use Rattle.sip_wire.specs.declared.version.Version.{Version}
use Rattle.sip_verifier.specs.declared.asker.Unanswered.{Unanswered}
use Rattle.sip_verifier.specs.declared.asker.Unanswered.TheVariants.{Fault as Failed, Rejected}
use Rattle.sip_verifier.specs.declared.session.SessionFault.{SessionFault}
use Rattle.sip_verifier.specs.declared.session.SessionFault.TheVariants as faults
use Rattle.sip_verifier.specs.declared.session.Verdict.{Verdict}
use Rattle.sip_verifier.specs.declared.session.Verdict.TheVariants as verdicts
use Rattle.sip_verifier.specs.AskClause.{AskClause, came_of}
use Rattle.sip_verifier.specs.Asking as sessions
use Rattle.sip_verifier.specs.runs.Askers.{Asks}
use Rattle.sip_verifier.specs.runs.Asking.{IsAnswered, IsInterrupted, IsUnrecorded, question_of}
use Rattle.sip_verifier.specs.runs.Manners.{Manner}
use Rattle.sip_verifier.specs.Snapshots.{SinkState, between}
use Rattle.sip_verifier.proofs.KeptAsks.{given_keeps, stop_keeps}
use Rattle.sip_above.specs.declared.large.Large.{Large}
use Rattle.sip_lookup.specs.declared.answer.LookAnswer.{LookAnswer}
use Rattle.sip_lookup.specs.declared.lookup.Lookup.{Lookup}
use Rattle.sip_lookup.specs.Lookups.{Looked}
use Rattle.sip_lookup.specs.Sittings.{looked_of}
use Rattle.sip_moments.specs.declared.moment.Moment.{Moment}
use Rattle.sip_moments.specs.AcceptsMoment.{power_at}
use Rattle.sip_moments.specs.Manner.{numbers_of}
use Rattle.sip_questions.specs.declared.asker.QuestionGiven.{QuestionGiven}
use Rattle.sip_questions.specs.declared.asker.QuestionGiven.TheVariants as givens
use Rattle.sip_questions.specs.declared.question.Question.{Question}
use Rattle.sip_questions.specs.declared.question.Question.TheVariants as questions
use Rattle.sip_questions.specs.Questions.{Answered, asking, by_large, by_query, by_lookup, by_moment, to_large, to_query, to_lookup, to_moment}
use Rattle.sip_questions.specs.Sittings.{query_given, stated}

-- a question is asked and judged as what it is made of
pub record IsLike {Q A : Type 0} (m : Manner Q A) (n : Manner Question Answered) (query : Q) (question : Question) (block : List ℕ) (to : A → Answered) : Type 0 where
  pub said : (replies : List (List ℕ)) → m.said_for (question_of query block replies) ≡ n.said_for (question_of question block replies)
  pub accepts : (replies : List (List ℕ)) (answer : A) → m.Accepts (question_of query block replies) answer → n.Accepts (question_of question block replies) (to answer)
  pub faulty : (replies : List (List ℕ)) (fault : Fault) → m.IsFaulty (question_of query block replies) fault → n.IsFaulty (question_of question block replies) fault
  pub waits : (replies : List (List ℕ)) → m.IsWaiting (question_of query block replies) → n.IsWaiting (question_of question block replies)
  pub unjudged : (replies : List (List ℕ)) (ended : List TalkEvent) → m.IsUnjudged (question_of query block replies) ended → n.IsUnjudged (question_of question block replies) ended

module _ (version : Version) (depth : ℕ) (stream : List Update) (block : List ℕ) where
  pub query_like : (query : Query) → IsLike (by_query version depth stream) (asking version depth stream) query (questions.Query query) block to_query
  query_like query = record { said = λ replies. refl; accepts = λ replies answer is. is; faulty = λ replies fault is. is; waits = λ replies is. is; unjudged = λ replies ended is. is }

  pub lookup_like : (lookup : Lookup) → IsLike (by_lookup version depth stream) (asking version depth stream) lookup (questions.Lookup lookup) block to_lookup
  lookup_like lookup = record { said = λ replies. refl; accepts = λ replies answer is. is; faulty = λ replies fault is. is; waits = λ replies is. is; unjudged = λ replies ended is. is }

  pub moment_like : (moment : Moment) → IsLike (by_moment version depth stream) (asking version depth stream) moment (questions.Moment moment) block to_moment
  moment_like moment = record { said = λ replies. refl; accepts = λ replies answer is. is; faulty = λ replies fault is. is; waits = λ replies is. is; unjudged = λ replies ended is. is }

  pub large_like : (large : Large) → IsLike (by_large version depth stream) (asking version depth stream) large (questions.Large large) block to_large
  large_like large = record { said = λ replies. refl; accepts = λ replies answer is. is; faulty = λ replies fault is. is; waits = λ replies is. is; unjudged = λ replies ended is. is }

module _ {Q A : Type 0} (m : Manner Q A) (n : Manner Question Answered) (query : Q) (question : Question) (block : List ℕ) (to : A → Answered) (like : IsLike m n query question block to)
    (old new : Option (List TalkEvent)) where
  -- an answer
  pub answered_as : (answer : A) → IsAnswered m query block old new answer → IsAnswered n question block old new (to answer)
  answered_as answer x = record {
    replies = x.replies;
    talk = subst (GoesOn old new) (like.said x.replies) x.talk;
    accepted = like.accepts x.replies answer x.accepted;
  }

  pub interrupted_as : IsInterrupted m query block old new → IsInterrupted n question block old new
  interrupted_as x = record {
    replies = x.replies;
    said = x.said;
    talk = x.talk;
    order = subst (IsPrefix x.said) (like.said x.replies) x.order;
    waits = like.waits x.replies x.waits;
  }

  pub unrecorded_as : IsUnrecorded m query block old new → IsUnrecorded n question block old new
  unrecorded_as x = record {
    replies = x.replies;
    ended = x.ended;
    talk = subst (λ (l : List TalkEvent). GoesOn old new (l ++ x.ended)) (like.said x.replies) x.talk;
    unjudged = like.unjudged x.replies x.ended x.unjudged;
  }

  -- no answer
  pub stopped_as : {G H : Type 0} (States : G → A → Type 0) (Also : H → Answered → Type 0) (stop : Unanswered) → Asks m (query, block) old new States (Err stop) → Asks n (question, block) old new Also (Err stop)
  stopped_as States Also (Rejected round reason) x = record {
    replies = x.replies;
    talk = subst (λ (l : List TalkEvent). GoesOn old new (l ++ ending reason)) (like.said x.replies) x.talk;
    faulty = like.faulty x.replies (record { round = round; reason = reason }) x.faulty;
  }
  stopped_as States Also (Failed faults.PeerFault) x = interrupted_as x
  stopped_as States Also (Failed faults.KeepFault) x = unrecorded_as x
  stopped_as States Also (Failed faults.OutOfMemory) (inl x) = inl (interrupted_as x)
  stopped_as States Also (Failed faults.OutOfMemory) (inr x) = inr (unrecorded_as x)

-- ---- each kind

module _ (version : Version) (depth : ℕ) (stream : List Update) (block : List ℕ) (old new : Option (List TalkEvent)) (entries : List Entry) where
  -- a query, by what a seat answers
  module _ (query : Query) where
    abbrev own : Manner Query Answer
    own = by_query version depth stream

    pub query_came : (result : Result Verdict SessionFault) → sessions.Asks version depth stream query block old new entries result
        → Asks (asking version depth stream) (questions.Query query, block) old new (λ given answer. stated entries given ≡ (questions.Query query, answer)) (query_given query result)
    query_came (Ok (verdicts.Number value)) x = record {
      answer = to_query (number value);
      answered = answered_as own (asking version depth stream) query (questions.Query query) block to_query (query_like version depth stream block query) old new (number value) x;
      states = refl;
    }
    query_came (Ok verdicts.Pairs) x = record {
      answer = to_query (pairs entries);
      answered = answered_as own (asking version depth stream) query (questions.Query query) block to_query (query_like version depth stream block query) old new (pairs entries) x;
      states = refl;
    }
    query_came (Ok (verdicts.Rejected round reason)) x =
        stopped_as own (asking version depth stream) query (questions.Query query) block to_query (query_like version depth stream block query) old new {G = ℤ} {H = QuestionGiven} (λ given answer. given ≡ given)
        (λ given answer. stated entries given ≡ (questions.Query query, answer)) (Rejected round reason) x
    query_came (Err faults.PeerFault) x =
        interrupted_as own (asking version depth stream) query (questions.Query query) block to_query (query_like version depth stream block query) old new x
    query_came (Err faults.KeepFault) x =
        unrecorded_as own (asking version depth stream) query (questions.Query query) block to_query (query_like version depth stream block query) old new x
    query_came (Err faults.OutOfMemory) (inl x) =
        inl (interrupted_as own (asking version depth stream) query (questions.Query query) block to_query (query_like version depth stream block query) old new x)
    query_came (Err faults.OutOfMemory) (inr x) =
        inr (unrecorded_as own (asking version depth stream) query (questions.Query query) block to_query (query_like version depth stream block query) old new x)

  -- a lookup
  pub lookup_given : (lookup : Lookup) (answer : LookAnswer) → Asks (by_lookup version depth stream) (lookup, block) old new (λ given looked. looked_of given ≡ looked) (Ok answer)
      → Asks (asking version depth stream) (questions.Lookup lookup, block) old new (λ given answered. stated entries given ≡ (questions.Lookup lookup, answered)) (Ok (givens.Lookup lookup answer))
  lookup_given lookup answer x = record {
    answer = to_lookup x.answer;
    answered = answered_as (by_lookup version depth stream) (asking version depth stream) lookup (questions.Lookup lookup) block to_lookup (lookup_like version depth stream block lookup) old new x.answer x.answered;
    states = ap (λ (looked : Looked). (questions.Lookup lookup, to_lookup looked)) x.states;
  }

  -- a moment
  pub moment_given : (moment : Moment) (value : ℤ) → Asks (by_moment version depth stream) (moment, block) old new (λ (given said : ℤ). given ≡ said) (Ok value)
      → Asks (asking version depth stream) (questions.Moment moment, block) old new (λ given answered. stated entries given ≡ (questions.Moment moment, answered)) (Ok (givens.Moment moment value))
  moment_given moment value x = record {
    answer = to_moment x.answer;
    answered = answered_as (by_moment version depth stream) (asking version depth stream) moment (questions.Moment moment) block to_moment (moment_like version depth stream block moment) old new x.answer x.answered;
    states = ap (λ (said : ℤ). (questions.Moment moment, to_moment said)) x.states;
  }

  -- large entries
  pub large_given : (large : Large) → Asks (by_large version depth stream) (large, block) old new (λ (_ : Unit {0}) (answer : List Entry). entries ≡ answer) (Ok tt)
      → Asks (asking version depth stream) (questions.Large large, block) old new (λ given answered. stated entries given ≡ (questions.Large large, answered)) (Ok (givens.Large large))
  large_given large x = record {
    answer = to_large x.answer;
    answered = answered_as (by_large version depth stream) (asking version depth stream) large (questions.Large large) block to_large (large_like version depth stream block large) old new x.answer x.answered;
    states = ap (λ (es : List Entry). (questions.Large large, to_large es)) x.states;
  }

-- the power of an extension that stands for the stream
pub power_is : (depth : ℕ) (stream : List Update) (moment : Moment) (block : List ℕ) (value extension : ℕ) → extension ≡ value → PointStandsFor m61_modulus block value (numbers_of depth stream moment)
    → (extension ^ moment.degree) % m61_modulus ≡ power_at m61_modulus moment.degree (numbers_of depth stream moment) block
power_is depth stream moment block value extension is stands = ap (λ (n : ℕ). (n ^ moment.degree) % m61_modulus) (is ∙ stands.same)

-- and what is kept of the talk about a query
pub query_keeps : (query : Query) (version : Version) (old new before now : SinkState) (result : Result Verdict SessionFault) → AskClause version (between old new) (between before now) (came_of result)
    → AskClause version (between old new) (between before now) (query_given query result)
query_keeps query version old new before now (Ok (verdicts.Number value)) k = given_keeps version old new before now _ _ k
query_keeps query version old new before now (Ok verdicts.Pairs) k = given_keeps version old new before now _ _ k
query_keeps query version old new before now (Ok (verdicts.Rejected round reason)) k = stop_keeps version old new before now (Rejected round reason) k
query_keeps query version old new before now (Err fault) k = stop_keeps version old new before now (Failed fault) k
