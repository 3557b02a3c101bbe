-- What is linear in a list of numbers, and so adds up over streams.
use Rattle.std.specs.Prelude.{◌≡◌, ℕ, ◌+◌, ◌%◌, ◌<◌, ℤ, ◌+ℤ◌, List, ◌++◌, length, map}
use Rattle.std.specs.List.{zip}
use Rattle.sip_vector.specs.declared.update.Side.{Side}
use Rattle.sip_vector.specs.declared.update.Update.{Update}
use Rattle.sip_vector.specs.Streams.{vector}

-- the entrywise sum of two lists of numbers
abbrev pub added_numbers : List ℤ → List ℤ → List ℤ
added_numbers numbers others = map (λ x. x.0 +ℤ x.1) (zip numbers others)

-- a number that is kept of a list at some challenges: of an entrywise sum it is the sum modulo p
abbrev pub IsLinear : (ℕ → List ℤ → List ℕ → ℕ) → Type 0
IsLinear kept =
    (p : ℕ) (numbers others : List ℤ) (challenges : List ℕ)
    → 0 < p → length numbers ≡ length others
    → kept p (added_numbers numbers others) challenges
    ≡ (kept p numbers challenges + kept p others challenges) % p

-- and so it is of two streams, one behind the other
abbrev pub AddsUp : (ℕ → List ℤ → List ℕ → ℕ) → Type 0
AddsUp kept =
    (p depth : ℕ) (stream more : List Update) (side : Side) (challenges : List ℕ)
    → 0 < p
    → kept p (vector depth (stream ++ more) side) challenges
    ≡ (kept p (vector depth stream side) challenges
    + kept p (vector depth more side) challenges)
    % p
