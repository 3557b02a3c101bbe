-- A question that waits for a reply has no fault so far: none of its kind has.
use Rattle.std.specs.Prelude.{ℕ, List}
use Rattle.sip_vector.specs.declared.update.Update.{Update}
use Rattle.sip_wire.specs.declared.version.Version.{Version}
use Rattle.sip_verifier.specs.LawProofs.Waiting as queries
use Rattle.sip_lookup.specs.LawProofs.Waiting as lookups
use Rattle.sip_moments.specs.LawProofs.Waiting as moments
use Rattle.sip_questions.specs.declared.question.Question.{Question}
use Rattle.sip_questions.specs.declared.question.Question.TheVariants as questions
use Rattle.sip_questions.specs.Questions.{IsUnfinishedOf, IsWaitingOf, Posed, as_of}

by_kind : (version : Version) (depth : ℕ) (stream : List Update) (q : Posed) (question : Question)
    → IsWaitingOf version depth stream q question → IsUnfinishedOf version depth stream q question
by_kind version depth stream q (questions.Query query) waits =
    queries.waits_lawful version depth stream (as_of q query) waits
by_kind version depth stream q (questions.Lookup lookup) waits =
    lookups.waits_lawful version depth stream (as_of q lookup) waits
by_kind version depth stream q (questions.Moment moment) waits =
    moments.waits_lawful version depth stream (as_of q moment) waits
by_kind version depth stream q (questions.Large large) waits = waits.1

pub waits_lawful : (version : Version) (depth : ℕ) (stream : List Update) (q : Posed)
    → IsWaitingOf version depth stream q q.query → IsUnfinishedOf version depth stream q q.query
waits_lawful version depth stream q waits = by_kind version depth stream q q.query waits
