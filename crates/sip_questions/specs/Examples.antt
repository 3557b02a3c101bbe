-- What the examples work out: a helper of questions behind a stream that adds up to (3, 0, 5, 1).
use Rattle.std.specs.Prelude.{false, List, [], ◌∷◌}
use Rattle.sip_vector.specs.Examples.{stream}
use Rattle.sip_vector.specs.declared.query.Query.TheVariants as queries
use Rattle.sip_wire.specs.declared.message.Message.{Message}
use Rattle.sip_wire.specs.declared.message.Message.TheVariants as messages
use Rattle.sip_helper.specs.Streams.{stream_heard}
use Rattle.sip_questions.specs.Serving.{QuestionHelper, after_answer, fresh_questions, step}

abbrev pub behind_stream : QuestionHelper
behind_stream = record fresh_questions { helper = stream_heard 1 2 (stream ∷ []) }

-- these messages were heard, each behind the reply that was owed
abbrev pub having_heard : QuestionHelper → List Message → QuestionHelper
having_heard s [] = s
having_heard s (m ∷ ms) = having_heard (step (after_answer s) false m) ms

-- a lookup was asked; and then the query about its interval
abbrev pub sought : QuestionHelper
sought = having_heard behind_stream (messages.AskLook 3 1 ∷ [])

abbrev pub asked_about : QuestionHelper
asked_about = having_heard sought (messages.Query (queries.Sub 1 2) ∷ [])

-- the third moment of side 0 was asked for; and then the challenge 2 was revealed
abbrev pub asked_cubes : QuestionHelper
asked_cubes = having_heard behind_stream (messages.AskMoment 0 3 ∷ [])

abbrev pub challenged_cubes : QuestionHelper
challenged_cubes = having_heard asked_cubes (messages.Reveal 2 ∷ [])
