-- What a helper of moments is told in a talk that keeps to the turns, where no memory is refused.
use Rattle.std.specs.Prelude.{◌≡◌, ℕ, ◌<◌, All, false, List, [], ◌∷◌, ◌++◌, flat_map, length, map}
use Rattle.sip_field.specs.Moduli.{m61_modulus}
use Rattle.sip_vector.specs.declared.update.Update.{Update}
use Rattle.sip_wire.specs.declared.message.Message.{Message}
use Rattle.sip_wire.specs.declared.message.Message.TheVariants as messages
use Rattle.sip_helper.specs.Rules.{Turn}
use Rattle.sip_helper.specs.Streams.{stream_heard}
use Rattle.sip_moments.specs.declared.moment.Moment.{Moment}
use Rattle.sip_moments.specs.Manner.{CanBeCounted}
use Rattle.sip_moments.specs.Questions.{ask_of}
use Rattle.sip_moments.specs.Serving.{MomentHelper, after_answer, fresh_moments, step}

-- ---- states

-- it has heard a stream in pieces, and was asked for no moment yet
abbrev pub behind_stream : ℕ → ℕ → List (List Update) → MomentHelper
behind_stream number depth pieces =
    record fresh_moments { helper = stream_heard number depth pieces }

-- these challenges were revealed, each behind the reply that was owed
abbrev pub challenged : MomentHelper → List ℕ → MomentHelper
challenged s [] = s
challenged s (r ∷ revealed) = challenged (step (after_answer s) false (messages.Reveal r)) revealed

-- a moment was asked, and these challenges were revealed behind it
abbrev pub question_heard : MomentHelper → Moment → List ℕ → MomentHelper
question_heard s m revealed = challenged (step s false (ask_of m)) revealed

-- ---- turns

-- a message that was heard, and for which no memory was refused
abbrev pub turn : Message → Turn
turn m = record { message = m; refused = false }

-- an opening, the updates of a stream in pieces, and its end
abbrev pub stream_turns : ℕ → ℕ → List (List Update) → List Turn
stream_turns number depth pieces =
    turn (messages.Open number depth)
    ∷ map (λ us. turn (messages.Updates (record { items = us }))) pieces
    ++ turn messages.EndStream ∷ []

-- the challenges of a block that are revealed: all but the last
abbrev pub reveals : List ℕ → List Turn
reveals [] = []
reveals (last ∷ []) = []
reveals (r ∷ next ∷ block) = turn (messages.Reveal r) ∷ reveals (next ∷ block)

-- what a verifier says about a moment at its block
abbrev pub question_turns : Moment × List ℕ → List Turn
question_turns (m, block) = turn (ask_of m) ∷ reveals block

-- all that it says in a run, but for the end
abbrev pub run_turns : ℕ → ℕ → List (List Update) → List (Moment × List ℕ) → List Turn
run_turns number depth pieces asks =
    stream_turns number depth pieces ++ flat_map question_turns asks

-- a moment for which a claim has room, and a block of as many challenges as there are levels
pub record CanBeServed (depth : ℕ) (stream : List Update) (ask : Moment × List ℕ) : Type 0 where
  pub can : CanBeCounted stream ask.0
  pub block : length ask.1 ≡ depth
  pub elements : All (λ r. r < m61_modulus) ask.1
