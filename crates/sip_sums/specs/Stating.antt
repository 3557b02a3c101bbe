-- What whole replies state, as bytes, and what it comes to.
--
-- A claim and one polynomial for each challenge give two lists. The expected values are e_0, which
-- is the claim, and e_j, which is the value of polynomial j at challenge j. The given values are
-- the sums of each polynomial's values at 0 and 1, and behind them the product. What is stated is
-- accepted where the two lists are the same.
use Rattle.std.specs.Prelude.{◌≡◌, ◌<◌, ◌≤◌, ℕ, ◌==◌, true, not, ℤ, nat_abs, List, [], ◌∷◌, ◌++◌}
use Rattle.std.specs.Prelude.{length, map, All, Option, Some, None, Result, Ok, Err, if◌then◌else◌}
use Rattle.std.specs.List.{position_from, zip}
use Rattle.sip_field.specs.Moduli.{m61_modulus}
use Rattle.sip_field.specs.Residue.{residue}
use Rattle.sip_vector.specs.Answers.{Answer, number}
use Rattle.sip_wire.specs.declared.message.Message.TheVariants as messages
use Rattle.sip_wire.specs.declared.message.Reason.{Reason}
use Rattle.sip_wire.specs.declared.message.Reason.TheVariants as reasons
use Rattle.sip_wire.specs.declared.version.Version.{Version}
use Rattle.sip_wire.specs.Spelling.{spelling}
use Rattle.sip_wire.specs.Table.{most_claim}
use Rattle.sip_replies.specs.Replies.{Fault}
use Rattle.sip_sums.specs.AcceptsSum.{Coefficients, Stated, adds_up, sum_of_ends, value_at}
use Rattle.sip_sums.specs.Honest.{poly_message}

-- ---- bytes

-- a claim in front of reply 0
abbrev pub with_claim : Version → ℤ → List (List ℕ) → List (List ℕ)
with_claim version claim [] = []
with_claim version claim (bytes ∷ more) =
    (spelling version (messages.Claim claim) ++ bytes) ∷ more

-- the replies that state a claim and polynomials
abbrev pub stated_replies : Version → Stated → List (List ℕ)
stated_replies version s =
    with_claim version s.claim (map (λ c. spelling version (poly_message c)) s.polynomials)

-- the coefficients are elements of the field of a run
abbrev pub AreElements : Coefficients → Type 0
AreElements c = (c.c0 < m61_modulus) × (c.c1 < m61_modulus) × (c.c2 < m61_modulus)

-- messages have room for all numbers
pub record HasSpelling (s : Stated) : Type 0 where
  pub claim : nat_abs s.claim ≤ most_claim
  pub elements : All AreElements s.polynomials

-- ---- what it comes to

-- e_0, e_1, ..
abbrev pub expected_values : ℕ → List ℕ → Stated → List ℕ
expected_values p challenges s =
    residue p s.claim ∷ map (λ x. value_at p x.0 x.1) (zip s.polynomials challenges)

-- what they have to be
abbrev pub given_values : ℕ → ℕ → Stated → List ℕ
given_values p product s = map (sum_of_ends p) s.polynomials ++ product ∷ []

-- the first place where the two differ
abbrev pub first_difference : ℕ → ℕ → List ℕ → Stated → Option ℕ
first_difference p product challenges s =
    position_from (λ x. not (x.0 == x.1)) 0
    (zip (given_values p product s) (expected_values p challenges s))

-- the reason of a difference: the last of d values is the product
abbrev pub reason_at : ℕ → ℕ → Reason
reason_at d j = if j == d then reasons.Root else reasons.Sum

-- the claim, or the fault of a difference
abbrev pub outcome : ℕ → ℤ → Option ℕ → Result Answer Fault
outcome d claim None = Ok (number claim)
outcome d claim (Some j) = Err (record { round = j; reason = reason_at d j })

-- what is stated comes to its claim, or to the fault of the first difference
abbrev pub judged : ℕ → ℕ → List ℕ → Stated → Result Answer Fault
judged p product challenges s =
    outcome (length challenges) s.claim (first_difference p product challenges s)

-- These replies state a claim, which is the answer, and a polynomial for each challenge, and the
-- polynomials add up from the claim to the product.
pub record States (version : Version) (p product : ℕ) (challenges : List ℕ)
    (replies : List (List ℕ)) (answer : Answer) (s : Stated) : Type 0 where
  pub bytes : replies ≡ stated_replies version s
  pub spelled : HasSpelling s
  pub each : length s.polynomials ≡ length challenges
  pub claim : answer ≡ number s.claim
  pub sum : adds_up p product (residue p s.claim) s.polynomials challenges ≡ true
