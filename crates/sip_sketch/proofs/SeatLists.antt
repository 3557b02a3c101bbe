-- Seats, one behind the other.
use Rattle.std.proofs.Common.{◌≡◌, ℕ, suc, List, [], ◌∷◌, ◌++◌, All, flat_map, length, sym, ap, ◌∙◌}
use Rattle.std.proofs.lemmas.List.{append-nil}
use Rattle.std.proofs.lemmas.List.Elements.{All-push}
use Rattle.std.proofs.lemmas.Grind.{flat_map-append}
use Rattle.sip_sketch.specs.Fields.{Field}
use Rattle.sip_sketch.specs.Sketches.{SeatValues, seat_fields, seat_numbers, seats_fields}

pub seats_at : (d : ℕ) (number : ℕ → ℕ → Field) (n m : ℕ) → n ≡ suc m
    → seats_fields d number n ≡ seat_fields d number (seats_fields d number m)
seats_at d number n m e = ap (λ k. seats_fields d number k) e

pub numbers_on : (xs : List SeatValues) (x : SeatValues)
    → flat_map seat_numbers xs ++ seat_numbers x ≡ flat_map seat_numbers (xs ++ x ∷ [])
numbers_on xs x = sym (flat_map-append seat_numbers xs (x ∷ []) ∙ ap (λ k. flat_map seat_numbers xs ++ k) (append-nil (seat_numbers x)))

pub blocks_on : (d : ℕ) (xs : List SeatValues) (x : SeatValues) → All (λ s. length s.block ≡ d) xs
    → length x.block ≡ d → All (λ s. length s.block ≡ d) (xs ++ x ∷ [])
blocks_on d xs x all one = All-push (λ s. length s.block ≡ d) xs x all one
