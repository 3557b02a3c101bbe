-- Counts of questions: those of their kinds.
use Rattle.std.specs.Prelude.{ℕ, List}
use Rattle.sip_vector.specs.declared.update.Update.{Update}
use Rattle.sip_wire.specs.declared.version.Version.{Version}
use Rattle.sip_verifier.specs.CountClause as queries
use Rattle.sip_verifier.specs.runs.CountClause.{Counting}
use Rattle.sip_above.specs.Manner as larges
use Rattle.sip_lookup.specs.Promises as lookups
use Rattle.sip_moments.specs.Manner as moments
use Rattle.sip_questions.specs.declared.question.Question.{Question}
use Rattle.sip_questions.specs.declared.question.Question.TheVariants as questions
use Rattle.sip_questions.specs.Questions.{Answered, Posed, as_of, to_query, to_lookup, to_moment}
use Rattle.sip_questions.specs.Questions.{to_large}

-- no helper has a wrong answer to this question accepted at more than few blocks
abbrev pub FewFor : Version → ℕ → List Update → Question → Type 0
FewFor version depth stream (questions.Query query) = queries.FewFor version depth stream query
FewFor version depth stream (questions.Lookup lookup) = lookups.FewFor version depth stream lookup
FewFor version depth stream (questions.Moment moment) = moments.FewFor version depth stream moment
FewFor version depth stream (questions.Large large) = larges.FewFor version depth stream large

-- what a call that writes this answer promises of a helper that lies
abbrev pub CountsOf : Version → ℕ → List Update → Posed → Question → Answered → Type 0
CountsOf version depth stream q (questions.Query query) (to_query answer) =
    queries.CountsFor version depth stream (as_of q query) answer
CountsOf version depth stream q (questions.Lookup lookup) (to_lookup answer) =
    lookups.CountsFor version depth stream (as_of q lookup) answer
CountsOf version depth stream q (questions.Moment moment) (to_moment answer) =
    moments.CountsFor version depth stream (as_of q moment) answer
CountsOf version depth stream q (questions.Large large) (to_large answer) =
    larges.CountsFor version depth stream (as_of q large) answer
CountsOf version depth stream q _ _ = ⊥

abbrev pub counting : Counting Question Answered
counting = record {
  FewFor = FewFor;
  CountsFor = λ version depth stream q answer. CountsOf version depth stream q q.query answer;
}
