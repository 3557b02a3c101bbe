-- The answer that a session gave.
use Rattle.std.specs.Prelude.{◌≡◌, List, ℤ, Option, Some, None}
use Rattle.sip_vector.specs.declared.query.Query.{Query}
use Rattle.sip_vector.specs.declared.update.Entry.{Entry}
use Rattle.sip_vector.specs.Answers.{Answer, pairs, number}
use Rattle.sip_verifier.specs.declared.queries.QueryGiven.{QueryGiven}
use Rattle.sip_verifier.specs.Sittings.{Sitting}

-- a number, or the pairs that are shown
abbrev pub stated : List Entry → Option ℤ → Answer
stated entries (Some n) = number n
stated entries None = pairs entries

-- with what the session shows, what was given states this answer to this query
pub record States (s : Sitting) (given : QueryGiven) (query : Query)
    (answer : Answer) : Type 0 where
  pub asked : given.query ≡ query
  pub same : answer ≡ stated s.entries given.number
