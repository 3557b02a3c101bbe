-- What an honest helper does with questions: with each what one of its kind does.
use Rattle.std.specs.Prelude.{ℕ, List}
use Rattle.sip_vector.specs.declared.update.Update.{Update}
use Rattle.sip_wire.specs.declared.version.Version.{Version}
use Rattle.sip_verifier.specs.CompletenessClause as queries
use Rattle.sip_verifier.specs.runs.CompletenessClause.{Honesty}
use Rattle.sip_above.specs.Manner as larges
use Rattle.sip_lookup.specs.Honest as lookups
use Rattle.sip_moments.specs.Manner as moments
use Rattle.sip_questions.specs.declared.question.Question.{Question}
use Rattle.sip_questions.specs.declared.question.Question.TheVariants as questions
use Rattle.sip_questions.specs.Questions.{Answered, to_large, to_lookup, to_moment, to_query}

-- it can answer this question
abbrev pub CanAnswer : Version → ℕ → List Update → Question → Type 0
CanAnswer version depth stream (questions.Query query) =
    queries.honesty.CanAnswer version depth stream query
CanAnswer version depth stream (questions.Lookup lookup) =
    lookups.honesty.CanAnswer version depth stream lookup
CanAnswer version depth stream (questions.Moment moment) =
    moments.honesty.CanAnswer version depth stream moment
CanAnswer version depth stream (questions.Large large) =
    larges.honesty.CanAnswer version depth stream large

-- the bytes of all its replies at this block
abbrev pub honest_bytes : Version → ℕ → List Update → List ℕ → Question → List ℕ
honest_bytes version depth stream block (questions.Query query) =
    queries.honesty.honest_bytes version depth stream (query, block)
honest_bytes version depth stream block (questions.Lookup lookup) =
    lookups.honesty.honest_bytes version depth stream (lookup, block)
honest_bytes version depth stream block (questions.Moment moment) =
    moments.honesty.honest_bytes version depth stream (moment, block)
honest_bytes version depth stream block (questions.Large large) =
    larges.honesty.honest_bytes version depth stream (large, block)

-- the answer that the stream's own vectors give
abbrev pub answer : ℕ → List Update → Question → Answered
answer depth stream (questions.Query query) =
    to_query (queries.honesty.answer depth stream query)
answer depth stream (questions.Lookup lookup) =
    to_lookup (lookups.honesty.answer depth stream lookup)
answer depth stream (questions.Moment moment) =
    to_moment (moments.honesty.answer depth stream moment)
answer depth stream (questions.Large large) =
    to_large (larges.honesty.answer depth stream large)

abbrev pub honesty : Honesty Question Answered
honesty = record {
  CanAnswer = CanAnswer;
  honest_bytes = λ version depth stream ask. honest_bytes version depth stream ask.1 ask.0;
  answer = answer;
}
