-- The tests that the worked counts try.
use Rattle.std.specs.Prelude.{ℕ, ◌+◌, ◌*◌, ◌%◌, ◌==◌, nat_lt, nat_eq, if◌then◌else◌, Bool, true}
use Rattle.std.specs.Prelude.{false, Option, Some, None, List, [], ◌∷◌, ◌++◌, sum}
use Rattle.std.specs.Cmp.Lexicographic.{pointwise}
use Rattle.sip_counts.specs.Late.{CountedQuestion, Plan, Use, unasked}

-- (1 - r_1) * (1 - r_2) is 0 modulo 31
abbrev pub one_is_one : List ℕ → Bool
one_is_one (r ∷ s ∷ []) = ((1 + 30 * r) * (1 + 30 * s)) % 31 == 0
one_is_one _ = false

-- each challenge so far is 2 or more
abbrev pub all_above_one : List ℕ → Bool
all_above_one [] = true
all_above_one (x ∷ xs) = if nat_lt 1 x then all_above_one xs else false

-- the challenges are (1, 2), in this order
abbrev pub is_one_two : List ℕ → Bool
is_one_two (x ∷ y ∷ []) = if x == 1 then y == 2 else false
is_one_two _ = false

-- a query whose wrong answer is accepted where its one challenge is 0
abbrev pub zero_query : CountedQuestion
zero_query =
    record { accepts = λ r all. pointwise nat_eq r (0 ∷ []); is_right = λ all. false; bound = 1 }

-- a query whose wrong answer is accepted where the one reply is the challenge
abbrev pub guess_query : CountedQuestion
guess_query =
    record {
      accepts = λ r all. pointwise (pointwise nat_eq) all (r ∷ []);
      is_right = λ all. false;
      bound = 1;
    }

-- a reply before a challenge is known, and one after the challenge 1 alone
abbrev pub two_replies : List ℕ → Option (List ℕ)
two_replies [] = Some []
two_replies (x ∷ []) = if x == 1 then Some [] else None
two_replies _ = None

-- a seat that is asked this query, and whose one reply is a number by the challenges of the others
abbrev pub replies_by : (ℕ → ℕ) → Plan
replies_by number = record {
  question = λ earlier later. guess_query;
  strategy = λ earlier later revealed. Some (number (sum (earlier ++ later)) ∷ []);
  bound = 1;
}

-- two seats, each of which knows the other's challenge: the first replies it, and the second the
-- one behind it
abbrev pub crossed : List Plan
crossed = replies_by (λ other. other % 5) ∷ replies_by (λ other. (other + 1) % 5) ∷ []

-- a seat that is used only where the others' challenges are 0
abbrev pub used_at_zero : Plan
used_at_zero = record {
  question = λ earlier later. if sum (earlier ++ later) == 0 then zero_query else unasked;
  strategy = λ earlier later revealed. Some [];
  bound = 1;
}

-- what the first of the crossed seats does where both challenges are 2
abbrev pub said_two : Use
said_two = record { question = guess_query; taken = (2 ∷ []) ∷ [] }
