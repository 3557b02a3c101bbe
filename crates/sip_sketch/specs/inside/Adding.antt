-- Seats whose numbers add up.
use Rattle.std.specs.Prelude.{◌≡◌, false}
use Rattle.sip_verifier.specs.Running.{FitTogether}
use Rattle.sip_sketch.specs.Seats.{numbers_kept}
use Rattle.sip_sketch.specs.Sketches.{SeatValues}

-- they are of one kind and at the same challenges, and a total that is kept stays within the
-- greatest weight
pub record AddUp (s more : SeatValues) : Type 0 where
  pub kind : more.kind ≡ s.kind
  pub block : more.block ≡ s.block
  pub total : s.is_used ≡ false → FitTogether (numbers_kept s.kind s.first s.second)
      (numbers_kept more.kind more.first more.second)
