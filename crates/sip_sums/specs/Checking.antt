-- What a check of a sum keeps.
use Rattle.std.specs.Prelude.{ℕ, ◌+◌, Bool, false, List, drop}
use Rattle.sip_sums.specs.AcceptsSum.{Coefficients, adds_up, value_at}

-- `expected` is what the next polynomial's values at 0 and 1 have to add up to, once the challenge
-- of the last one was revealed; `given` and `revealed` count the polynomials and the challenges.
pub record Kept : Type 0 where
  pub challenges : List ℕ
  pub expected : ℕ
  pub last : Coefficients
  pub given : ℕ
  pub revealed : ℕ
  pub spent : Bool

-- no polynomial
abbrev pub zero_polynomial : Coefficients
zero_polynomial = record { c0 = 0; c1 = 0; c2 = 0 }

-- a check at whose start this value is expected
abbrev pub begun : List ℕ → ℕ → Kept
begun challenges expected = record {
  challenges = challenges;
  expected = expected;
  last = zero_polynomial;
  given = 0;
  revealed = 0;
  spent = false;
}

-- once one more polynomial was given
abbrev pub with_polynomial : Kept → Coefficients → Kept
with_polynomial check c = record check { last = c; given = check.given + 1 }

-- once one more challenge was revealed
abbrev pub with_revealed : ℕ → Kept → ℕ → Kept
with_revealed p check r =
    record check { expected = value_at p check.last r; revealed = check.revealed + 1 }

-- the polynomials that are still to come add up to the product, from what a check expects on and at
-- the challenges that it did not reveal
abbrev pub adds_up_from : ℕ → ℕ → Kept → List Coefficients → Bool
adds_up_from p product check more =
    adds_up p product check.expected more (drop check.revealed check.challenges)
