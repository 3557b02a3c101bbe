-- The replies to a question for a moment as a protocol of the general talk.
--
-- Reply 0 is a Claim frame and a Power frame; each later reply is one Power frame.
use Rattle.std.specs.Prelude.{ℕ, ◌+◌, ◌==◌, ℤ, List, [], length, Option, Some, None, is_none}
use Rattle.std.specs.Prelude.{Result, Ok, Err, if◌then◌else◌}
use Rattle.sip_field.specs.Residue.{residue}
use Rattle.sip_vector.specs.Answers.{Answer, number}
use Rattle.sip_vector.specs.Steps.{◌>>=◌, needs}
use Rattle.sip_wire.specs.declared.kind.Place.TheVariants as places
use Rattle.sip_wire.specs.declared.message.Message.{Message}
use Rattle.sip_wire.specs.declared.message.Message.TheVariants as messages
use Rattle.sip_wire.specs.declared.message.Reason.{Reason}
use Rattle.sip_wire.specs.declared.message.Reason.TheVariants as reasons
use Rattle.sip_wire.specs.declared.version.Version.{Version}
use Rattle.sip_counts.specs.Rounds.{sum_of_ends, value_at}
use Rattle.sip_replies.specs.declared.check.More.{More}
use Rattle.sip_replies.specs.declared.check.More.TheVariants as mores
use Rattle.sip_replies.specs.Protocols.{Rules, Protocol}

-- ---- the rules

-- what replies state so far: the claim, once it came; what the next polynomial's values at 0 and 1
-- have to add up to; and the last polynomial, by its coefficients
pub record MomentState : Type 0 where
  pub claim : Option ℤ
  pub expected : ℕ
  pub last : List ℕ

-- a claim: it begins reply 0
abbrev pub claim_step : ℕ → MomentState → Option ℤ → ℤ → Result (More × MomentState) Reason
claim_step p s None claim =
    Ok (mores.Due, record s { claim = Some claim; expected = residue p claim })
claim_step p s (Some before) claim = Err reasons.BadKind

-- a polynomial of degree k: it completes a reply. The place of a Power frame leaves it no other
-- number of coefficients.
abbrev pub power_step : ℕ → ℕ → MomentState → Option ℤ → List ℕ
    → Result (More × MomentState) Reason
power_step p k s None c = Err reasons.BadKind
power_step p k s (Some claim) c =
    needs (length c == k + 1) reasons.BadLength
    >>= λ _. needs (sum_of_ends p c == s.expected) reasons.Sum
    >>= λ _. Ok (mores.Complete, record s { last = c })

-- one frame
abbrev pub moment_step : ℕ → ℕ → MomentState → Message → Result (More × MomentState) Reason
moment_step p k s (messages.Claim claim) = claim_step p s s.claim claim
moment_step p k s (messages.Power c) = power_step p k s s.claim c.items
moment_step p k s (messages.Refuse code) = Err (reasons.Refused code)
moment_step p k s _ = Err reasons.BadKind

-- How the replies to a question for a moment of degree k are read, modulo p.
abbrev pub moment_rules : Version → ℕ → ℕ → Rules MomentState
moment_rules version p k = record {
  version = version;
  start = record { claim = None; expected = 0; last = [] };
  place = λ s. if is_none s.claim then places.Claim else places.Power k;
  step = moment_step p k;
  learn = λ s r. record s { expected = value_at p s.last r };
}

-- ---- what they come to

-- All that the definitions need: the moment of this degree is asked for in this version, modulo p,
-- and this is the same power of the vector's extension at the challenges.
pub record MomentAsked : Type 0 where
  pub version : Version
  pub modulus : ℕ
  pub degree : ℕ
  pub power : ℕ

abbrev pub moment_asked : Version → ℕ → ℕ → ℕ → MomentAsked
moment_asked version p k power =
    record { version = version; modulus = p; degree = k; power = power }

-- the claim, where the last expected value is the power
abbrev pub claimed : MomentAsked → MomentState → Option ℤ → Result Answer Reason
claimed asked s None = Err reasons.Root
claimed asked s (Some claim) =
    needs (s.expected == asked.power) reasons.Root >>= λ _. Ok (number claim)

-- no answer is known without a reply
abbrev pub moment_protocol : MomentAsked → Protocol MomentState
moment_protocol asked = record {
  rules = moment_rules asked.version asked.modulus asked.degree;
  finish = λ s. claimed asked s s.claim;
  unasked = None;
}
