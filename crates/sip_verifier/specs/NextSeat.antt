-- The seat of the next query.
use Rattle.std.specs.Prelude.{◌≡◌, ℕ, List, ◌∷◌}
use Rattle.sip_vector.specs.declared.query.Query.{Query}
use Rattle.sip_vector.specs.declared.update.Update.{Update}
use Rattle.sip_verifier.specs.QuerySeats.{Seated, StandsFor}

-- of the seats that were not asked yet this is the first; it has this query, and stands for this
-- stream
pub record IsNext (depth : ℕ) (stream : List Update) (left : List Seated) (query : Query)
    (seat : Seated) : Type 0 where
  pub more : List Seated
  pub first : left ≡ seat ∷ more
  pub asks : seat.query ≡ query
  pub stands : StandsFor depth stream seat
