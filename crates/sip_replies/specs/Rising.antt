-- Indices that rise from frame to frame of a reply.
use Rattle.std.specs.Prelude.{ℕ, Bool, true, nat_lt, Option, Some, None}

-- an index is above the last one, where there is one
abbrev pub is_above : Option ℕ → ℕ → Bool
is_above None i = true
is_above (Some last) i = nat_lt last i
