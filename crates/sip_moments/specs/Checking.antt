-- What a check of a moment keeps.
use Rattle.std.specs.Prelude.{ℕ, ◌+◌, Bool, false, List, drop, slice_index}
use Rattle.sip_counts.specs.Rounds.{adds_up, value_at}

-- `expected` is what the next polynomial's values at 0 and 1 have to add up to, or, behind the last
-- one, what the power of the extension has to be; `given` and `revealed` count the polynomials and
-- the challenges.
pub record Kept : Type 0 where
  pub challenges : List ℕ
  pub degree : ℕ
  pub expected : ℕ
  pub given : ℕ
  pub revealed : ℕ
  pub spent : Bool

-- a check at whose start this value is expected
abbrev pub begun : List ℕ → ℕ → ℕ → Kept
begun challenges degree expected = record {
  challenges = challenges;
  degree = degree;
  expected = expected;
  given = 0;
  revealed = 0;
  spent = false;
}

-- once one more polynomial was given: its value at the challenge is expected, before that is
-- revealed
abbrev pub with_polynomial : ℕ → Kept → List ℕ → Kept
with_polynomial p check c = record check {
  expected = value_at p c (slice_index check.challenges check.given);
  given = check.given + 1;
}

-- once one more challenge was revealed
abbrev pub with_revealed : Kept → Kept
with_revealed check = record check { revealed = check.revealed + 1 }

-- the polynomials that are still to come add up to the last value, from what a check expects on and
-- at the challenges for which none was given
abbrev pub adds_up_from : ℕ → ℕ → Kept → List (List ℕ) → Bool
adds_up_from p last check more =
    adds_up p check.degree last check.expected more (drop check.given check.challenges)
