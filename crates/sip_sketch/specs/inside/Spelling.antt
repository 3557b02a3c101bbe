-- How a file is written, part by part.
use Rattle.std.specs.Prelude.{◌≡◌, ℕ, List, ◌++◌}
use Rattle.sip_sketch.specs.Fields.{Fields, spelled_behind}

-- behind the old bytes these fields have these values, and behind the new ones those stand
pub record Puts (old new : List ℕ) (fields behind : Fields) (values : List ℕ) : Type 0 where
  pub puts : (rest : List ℕ)
      → spelled_behind old fields (values ++ rest) ≡ spelled_behind new behind rest
