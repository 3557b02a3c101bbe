-- The seats of a run of moments show the extension of each one's side.
use Rattle.std.proofs.Common.{◌≡◌, ℕ, zero, suc, ◌%◌, ◌^◌, Some, List, [], ◌∷◌, map, ap}
use Rattle.std.specs.List.{slice_get}
use Rattle.sip_vector.specs.declared.update.Update.{Update}
use Rattle.sip_field.specs.Moduli.{m61_modulus}
use Rattle.sip_verifier.specs.SeatNumbers.{IsPointAt, point_side_at}
use Rattle.sip_verifier.specs.Seats.{AreSeats, Seating}
use Rattle.sip_moments.specs.declared.moment.Moment.{Moment}
use Rattle.sip_moments.specs.AcceptsMoment.{power_at}
use Rattle.sip_moments.specs.Manner.{numbers_of}
use Rattle.sip_moments.specs.Sittings.{square_of}

-- the seat of each moment keeps the extension of its side
pub side_at : (moments : List Moment) (k : ℕ) (m : Moment) → slice_get moments k ≡ Some m
    → point_side_at (map square_of moments) k ≡ Some m.side
side_at [] k m e = absurd cc
side_at (x ∷ moments) zero m e = let same : x ≡ m = cc in ap (λ (y : Moment). Some y.side) same
side_at (x ∷ moments) (suc k) m e = side_at moments k m e

-- so the number that it shows is the extension, and its power is that at the challenges
pub power_is : (s : Seating) (moments : List Moment) (k : ℕ) (m : Moment) (block : List ℕ)
    (value depth : ℕ) (blocks : List (List ℕ)) (stream : List Update)
    → slice_get moments k ≡ Some m → IsPointAt s k block value
    → AreSeats depth (map square_of moments) blocks stream s
    → (value ^ m.degree) % m61_modulus
    ≡ power_at m61_modulus m.degree (numbers_of depth stream m) block
power_is s moments k m block value depth blocks stream at point are =
    ap (λ (n : ℕ). (n ^ m.degree) % m61_modulus)
    ((point depth (map square_of moments) blocks stream are).1 m.side (side_at moments k m at)).same

-- and the challenges are its block
pub block_is : (s : Seating) (moments : List Moment) (k : ℕ) (block : List ℕ) (value depth : ℕ)
    (blocks : List (List ℕ)) (stream : List Update) → IsPointAt s k block value
    → AreSeats depth (map square_of moments) blocks stream s → slice_get blocks k ≡ Some block
block_is s moments k block value depth blocks stream point are =
    (point depth (map square_of moments) blocks stream are).0
