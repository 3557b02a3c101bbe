-- The moments that are left of a run, each with its block.
use Rattle.std.proofs.Common.{◌≡◌, ℕ, zero, suc, ◌-◌, Some, List, [], ◌∷◌, length, map, drop, sym, ap, ◌∙◌, arith, length-drop}
use Rattle.std.specs.List.{slice_get, zip}
use Rattle.std.proofs.lemmas.List.{length-map}
use Rattle.std.proofs.lemmas.Slice.Zip.{length-zip}
use Rattle.sip_verifier.specs.QuerySeats.{Seated}
use Rattle.sip_verifier.specs.Seats.{Seating}
use Rattle.sip_moments.specs.declared.moment.Moment.{Moment}
use Rattle.sip_moments.specs.Sittings.{blocks_of, square_of}

-- each moment has a block
pub paired : (moments : List Moment) (seats : Seating)
    → map (λ s. s.query) seats.seats ≡ map square_of moments
    → length (blocks_of seats) ≡ length moments
paired moments seats same =
    length-map seats.seats (λ (s : Seated). s.block)
    ∙ sym (length-map seats.seats (λ (s : Seated). s.query))
    ∙ ap length same ∙ length-map moments square_of

-- so as many are left as were not asked
pub left_is : (asked : ℕ) (moments : List Moment) (seats : Seating)
    → map (λ s. s.query) seats.seats ≡ map square_of moments
    → length (drop asked (zip moments (blocks_of seats))) ≡ length moments - asked
left_is asked moments seats same =
    let pairs = zip moments (blocks_of seats) in
    omega (
      arith,
      length-drop asked pairs,
      length-zip moments (blocks_of seats),
      paired moments seats same,
    )

-- the first that is left is the next of both lists
pub first_at : (moments : List Moment) (blocks : List (List ℕ)) (k : ℕ) (ask : Moment × List ℕ)
    (more : List (Moment × List ℕ)) → drop k (zip moments blocks) ≡ ask ∷ more
    → (slice_get moments k ≡ Some ask.0) × (slice_get blocks k ≡ Some ask.1)
first_at [] blocks zero ask more e = absurd cc
first_at [] blocks (suc k) ask more e = absurd cc
first_at (m ∷ moments) [] zero ask more e = absurd cc
first_at (m ∷ moments) [] (suc k) ask more e = absurd cc
first_at (m ∷ moments) (b ∷ blocks) zero ask more e =
    let same : (m, b) ≡ ask = cc in (
      ap (λ (a : Moment × List ℕ). Some a.0) same,
      ap (λ (a : Moment × List ℕ). Some a.1) same,
    )
first_at (m ∷ moments) (b ∷ blocks) (suc k) ask more e = first_at moments blocks k ask more e
