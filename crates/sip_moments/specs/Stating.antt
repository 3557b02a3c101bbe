-- What whole replies state, as bytes.
use Rattle.std.specs.Prelude.{◌≡◌, ◌<◌, ◌≤◌, ℕ, ◌+◌, true, nat_abs, List, length, map, All}
use Rattle.sip_field.specs.Moduli.{m61_modulus}
use Rattle.sip_field.specs.Residue.{residue}
use Rattle.sip_vector.specs.Answers.{Answer, number}
use Rattle.sip_wire.specs.declared.message.Message.{Message}
use Rattle.sip_wire.specs.declared.message.Message.TheVariants as messages
use Rattle.sip_wire.specs.declared.version.Version.{Version}
use Rattle.sip_wire.specs.Spelling.{spelling}
use Rattle.sip_wire.specs.Table.{most_claim}
use Rattle.sip_counts.specs.Rounds.{adds_up}
use Rattle.sip_sums.specs.Stating.{with_claim}
use Rattle.sip_moments.specs.AcceptsMoment.{Stated}

-- the message of a polynomial
abbrev pub power_message : List ℕ → Message
power_message c = messages.Power (record { items = c })

-- the replies that state a claim and polynomials
abbrev pub stated_replies : Version → Stated → List (List ℕ)
stated_replies version s =
    with_claim version s.claim (map (λ c. spelling version (power_message c)) s.polynomials)

-- a polynomial of degree k, whose coefficients are elements of the field of a run
pub record IsPolynomial (k : ℕ) (c : List ℕ) : Type 0 where
  pub long : length c ≡ k + 1
  pub elements : All (λ n. n < m61_modulus) c

-- messages have room for all numbers
pub record HasSpelling (k : ℕ) (s : Stated) : Type 0 where
  pub claim : nat_abs s.claim ≤ most_claim
  pub polynomials : All (IsPolynomial k) s.polynomials

-- These replies state a claim, which is the answer, and a polynomial for each challenge, and the
-- polynomials add up from the claim to this power of the extension.
pub record States (version : Version) (p k power : ℕ) (challenges : List ℕ)
    (replies : List (List ℕ)) (answer : Answer) (s : Stated) : Type 0 where
  pub bytes : replies ≡ stated_replies version s
  pub spelled : HasSpelling k s
  pub each : length s.polynomials ≡ length challenges
  pub claim : answer ≡ number s.claim
  pub sum : adds_up p k power (residue p s.claim) s.polynomials challenges ≡ true
