-- The replies to a query for a sum as a protocol of the general talk.
--
-- Reply 0 is a Claim frame and a Poly frame; each later reply is one Poly frame.
use Rattle.std.specs.Prelude.{ℕ, ◌==◌, ℤ, Option, Some, None, is_none, Result, Ok, Err}
use Rattle.std.specs.Prelude.{if◌then◌else◌}
use Rattle.sip_field.specs.Residue.{residue}
use Rattle.sip_vector.specs.Answers.{Answer, number}
use Rattle.sip_vector.specs.Steps.{◌>>=◌, needs}
use Rattle.sip_wire.specs.declared.kind.Place.TheVariants as places
use Rattle.sip_wire.specs.declared.message.Message.{Message}
use Rattle.sip_wire.specs.declared.message.Message.TheVariants as messages
use Rattle.sip_wire.specs.declared.message.Reason.{Reason}
use Rattle.sip_wire.specs.declared.message.Reason.TheVariants as reasons
use Rattle.sip_wire.specs.declared.version.Version.{Version}
use Rattle.sip_replies.specs.declared.check.More.{More}
use Rattle.sip_replies.specs.declared.check.More.TheVariants as mores
use Rattle.sip_replies.specs.Protocols.{Rules, Protocol}
use Rattle.sip_sums.specs.AcceptsSum.{Coefficients, sum_of_ends, value_at}
use Rattle.sip_sums.specs.Checking.{zero_polynomial}

-- ---- the rules

-- what replies state so far: the claim, once it came; what the next polynomial's values at 0 and 1
-- have to add up to; and the last polynomial
pub record SumState : Type 0 where
  pub claim : Option ℤ
  pub expected : ℕ
  pub last : Coefficients

-- a claim: it begins reply 0
abbrev pub claim_step : ℕ → SumState → Option ℤ → ℤ → Result (More × SumState) Reason
claim_step p s None claim =
    Ok (mores.Due, record s { claim = Some claim; expected = residue p claim })
claim_step p s (Some before) claim = Err reasons.BadKind

-- a polynomial: it completes a reply
abbrev pub poly_step : ℕ → SumState → Option ℤ → Coefficients → Result (More × SumState) Reason
poly_step p s None c = Err reasons.BadKind
poly_step p s (Some claim) c =
    needs (sum_of_ends p c == s.expected) reasons.Sum
    >>= λ _. Ok (mores.Complete, record s { last = c })

-- one frame
abbrev pub sum_step : ℕ → SumState → Message → Result (More × SumState) Reason
sum_step p s (messages.Claim claim) = claim_step p s s.claim claim
sum_step p s (messages.Poly a b c) = poly_step p s s.claim (record { c0 = a; c1 = b; c2 = c })
sum_step p s (messages.Refuse code) = Err (reasons.Refused code)
sum_step p s _ = Err reasons.BadKind

-- How the replies to a query for a sum are read, modulo p.
abbrev pub sum_rules : Version → ℕ → Rules SumState
sum_rules version p = record {
  version = version;
  start = record { claim = None; expected = 0; last = zero_polynomial };
  place = λ s. if is_none s.claim then places.Claim else places.Poly;
  step = sum_step p;
  learn = λ s r. record s { expected = value_at p s.last r };
}

-- ---- what they come to

-- All that the definitions need: the sum is asked for in this version, modulo p, and the product of
-- the two extensions at the challenges is this.
pub record SumAsked : Type 0 where
  pub version : Version
  pub modulus : ℕ
  pub product : ℕ

abbrev pub sum_asked : Version → ℕ → ℕ → SumAsked
sum_asked version p product =
    record { version = version; modulus = p; product = product }

-- the claim, where the last expected value is the product
abbrev pub claimed : SumAsked → SumState → Option ℤ → Result Answer Reason
claimed asked s None = Err reasons.Root
claimed asked s (Some claim) =
    needs (s.expected == asked.product) reasons.Root >>= λ _. Ok (number claim)

-- no answer is known without a reply
abbrev pub sum_protocol : SumAsked → Protocol SumState
sum_protocol asked = record {
  rules = sum_rules asked.version asked.modulus;
  finish = λ s. claimed asked s s.claim;
  unasked = None;
}
