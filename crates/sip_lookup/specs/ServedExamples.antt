-- A helper of lookups behind a stream that adds up to (3, 0, 5, 1): the nearest entry at item 1 or
-- above it is asked for, then the query for items 1 to 2, and then the challenge 2 is revealed.
use Rattle.std.specs.Prelude.{false, List, [], ◌∷◌}
use Rattle.sip_vector.specs.Examples.{stream}
use Rattle.sip_vector.specs.declared.query.Query.TheVariants as queries
use Rattle.sip_wire.specs.declared.message.Message.{Message}
use Rattle.sip_wire.specs.declared.message.Message.TheVariants as messages
use Rattle.sip_helper.specs.Streams.{stream_heard}
use Rattle.sip_lookup.specs.Serving.{LookHelper, after_answer, fresh_look, step}

abbrev pub behind_stream : LookHelper
behind_stream = record fresh_look { helper = stream_heard 1 2 (stream ∷ []) }

-- these messages were heard, each behind the reply that was owed
abbrev pub having_heard : LookHelper → List Message → LookHelper
having_heard s [] = s
having_heard s (m ∷ ms) = having_heard (step (after_answer s) false m) ms

abbrev pub asked_above : LookHelper
asked_above = having_heard behind_stream (messages.AskLook 3 1 ∷ [])

abbrev pub asked_about : LookHelper
asked_about = having_heard asked_above (messages.Query (queries.Sub 1 2) ∷ [])

abbrev pub challenged : LookHelper
challenged = having_heard asked_about (messages.Reveal 2 ∷ [])
