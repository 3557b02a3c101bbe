-- The turns of a verifier that keeps to the order of its talk, so that what a helper of lookups
-- says in them can be told.
use Rattle.std.specs.Prelude.{ℕ, ◌≡◌, ◌-◌, ◌<◌, false, ℤ, All, List, ◌∷◌, flat_map, length, map}
use Rattle.std.specs.Prelude.{take}
use Rattle.sip_field.specs.Moduli.{m61_modulus}
use Rattle.sip_vector.specs.declared.query.Query.TheVariants.{Sub}
use Rattle.sip_vector.specs.declared.update.Update.{Update}
use Rattle.sip_wire.specs.declared.message.Message.{Message}
use Rattle.sip_wire.specs.declared.message.Message.TheVariants as messages
use Rattle.sip_helper.specs.Rules.{Turn}
use Rattle.sip_helper.specs.Streams.{stream_heard}
use Rattle.sip_lookup.specs.Frames.{ask_message}
use Rattle.sip_lookup.specs.Lookups.{CanLook, honest_found, range_of}
use Rattle.sip_lookup.specs.Serving.{LookHelper, fresh_look}
use Rattle.sip_lookup.specs.declared.lookup.Lookup.{Lookup}

-- a lookup and its block of challenges: the item is one of the stream, and the block is whole
pub record CanFollow (depth : ℕ) (ask : Lookup × List ℕ) : Type 0 where
  pub item : CanLook depth ask.0
  pub whole : length ask.1 ≡ depth
  pub elements : All (λ r. r < m61_modulus) ask.1

-- a message for which no memory is refused
abbrev pub plain : Message → Turn
plain m = record { message = m; refused = false }

-- the turns of one lookup: the Ask, the query about the interval of the place that an honest helper
-- finds, and all challenges but the last
abbrev pub turns_for : ℕ → List ℤ → Lookup × List ℕ → List Turn
turns_for depth numbers ask =
    plain (ask_message ask.0)
    ∷ plain (messages.Query (Sub (range_of depth ask.0 (honest_found numbers ask.0)).0
    (range_of depth ask.0 (honest_found numbers ask.0)).1))
    ∷ map (λ r. plain (messages.Reveal r)) (take (depth - 1) ask.1)

-- those of several, one after another
abbrev pub all_turns : ℕ → List ℤ → List (Lookup × List ℕ) → List Turn
all_turns depth numbers asks = flat_map (turns_for depth numbers) asks

-- a helper of lookups behind a stream in these pieces, for which no memory was refused
abbrev pub behind_pieces : ℕ → ℕ → List (List Update) → LookHelper
behind_pieces number depth pieces =
    record fresh_look { helper = stream_heard number depth pieces }
