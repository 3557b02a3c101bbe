-- The state of a helper behind a whole stream, and behind a query of it.
use Rattle.std.specs.Prelude.{ℕ, false, List, [], ◌∷◌}
use Rattle.sip_vector.specs.declared.query.Query.{Query}
use Rattle.sip_vector.specs.declared.update.Side.TheVariants.{First, Second}
use Rattle.sip_vector.specs.declared.update.Update.{Update}
use Rattle.sip_vector.specs.Vectors.{side_vector}
use Rattle.sip_wire.specs.declared.message.Message.TheVariants as messages
use Rattle.sip_helper.specs.Turns.{HelperState, after_answer, fresh, step}
use Rattle.sip_helper.specs.Vectors.{Vectors}

-- the vectors of a stream
abbrev pub vectors_of : ℕ → List Update → Vectors
vectors_of depth stream = record {
  first = side_vector depth stream First;
  second = side_vector depth stream Second;
}

-- these frames of updates were heard, and no memory was refused
abbrev pub updates_heard : HelperState → List (List Update) → HelperState
updates_heard s [] = s
updates_heard s (us ∷ pieces) =
    updates_heard (step s false (messages.Updates (record { items = us }))) pieces

-- an opening was heard, and the updates of a stream in pieces, and its end
abbrev pub stream_heard : ℕ → ℕ → List (List Update) → HelperState
stream_heard number depth pieces =
    step (updates_heard (step fresh false (messages.Open number depth)) pieces) false
    messages.EndStream

-- these challenges were revealed, each behind the reply that was owed
abbrev pub challenges_heard : HelperState → List ℕ → HelperState
challenges_heard s [] = s
challenges_heard s (r ∷ revealed) =
    challenges_heard (step (after_answer s) false (messages.Reveal r)) revealed

-- a query of a stream was heard, and these challenges behind it
abbrev pub query_heard : HelperState → Query → List ℕ → HelperState
query_heard s query revealed = challenges_heard (step s false (messages.Query query)) revealed
