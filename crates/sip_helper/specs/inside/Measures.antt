-- How many turns a talk has left at most.
use Rattle.std.specs.Prelude.{ℕ, ◌+◌, ◌-◌, ◌*◌, ◌^◌, length, Option, Some, None}
use Rattle.sip_vector.specs.Limits.{most_depth}
use Rattle.sip_vector.specs.Streams.{most_weight}
use Rattle.sip_wire.specs.Table.{most_queries}
use Rattle.sip_helper.specs.declared.heard.Heard.{Heard}
use Rattle.sip_helper.specs.declared.heard.Heard.TheVariants.{Nothing, Part, Whole}
use Rattle.sip_helper.specs.Turns.{HelperState, OpenQuery}

-- the opening, and the end of the stream
abbrev pub stream_left : Heard → ℕ
stream_left Nothing = 2
stream_left (Part depth) = 1
stream_left (Whole depth) = 0

-- the challenges of the open query
abbrev pub challenges_left : Option OpenQuery → ℕ
challenges_left None = 0
challenges_left (Some o) = most_depth - 1 - length o.revealed

-- an update weighs 1 at least, and a query has fewer challenges than a talk has levels
abbrev pub turns_left : HelperState → ℕ
turns_left s =
    stream_left s.heard + (most_weight - s.weights.first) + (most_weight - s.weights.second)
    + most_depth * (most_queries - s.queries) + challenges_left s.open_query

-- the most turns that a talk may have left: that of a helper that has heard nothing, and room for a
-- few questions around each query
abbrev pub most_turns : ℕ
most_turns = 2 ^ 32

-- how many bytes of a talk may have been received before the turns that are left
abbrev pub most_received : ℕ
most_received = 2 ^ 63
