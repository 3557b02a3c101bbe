-- What holds of a helper of moments all the time, what a prover says, and how many turns are left
-- at most.
use Rattle.std.specs.Prelude.{◌≡◌, ℕ, ◌+◌, ◌-◌, ◌*◌, ◌≤◌, ℤ, Bool, true, false, IfSome, List, []}
use Rattle.std.specs.Prelude.{◌∷◌, ◌++◌, length, Option, Some, None}
use Rattle.sip_field.specs.Moduli.{m61_modulus}
use Rattle.sip_vector.specs.Limits.{most_depth}
use Rattle.sip_wire.specs.declared.message.Message.{Message}
use Rattle.sip_wire.specs.declared.message.Message.TheVariants as messages
use Rattle.sip_helper.specs.Turns.{HelperState}
use Rattle.sip_helper.specs.inside.Measures.{turns_left}
use Rattle.sip_wire.specs.Table.{most_queries}
use Rattle.sip_moments.specs.declared.under_way.MomentUnderWay.{MomentUnderWay}
use Rattle.sip_moments.specs.Honest.{Proving, its_polynomial}
use Rattle.sip_moments.specs.Serving.{MomentHelper, OpenMoment}
use Rattle.sip_moments.specs.Stating.{power_message}
use Rattle.sip_moments.specs.UnderWay.{CanReply}

-- few moments were asked, no query ever is, and the open moment can be answered
pub record IsCoherent (helper : HelperState) (asked : ℕ)
    (question : Option MomentUnderWay) : Type 0 where
  pub few : asked ≤ most_queries
  pub none : helper.open_query ≡ None
  pub ready : IfSome question (CanReply helper)

-- what a prover says: the moment, if that is due, and the polynomial of the present round
abbrev pub claim_due : Bool → ℤ → List Message
claim_due true claim = messages.Claim claim ∷ []
claim_due false claim = []

abbrev pub its_messages : Bool → Proving → List Message
its_messages is_first s =
    claim_due is_first s.claim ++ power_message (its_polynomial m61_modulus s) ∷ []

-- the challenges of the open moment
abbrev pub challenges_left : Option OpenMoment → ℕ
challenges_left None = 0
challenges_left (Some o) = most_depth - 1 - length o.revealed

-- the turns of the stream, and those of a moment: it and fewer challenges than a talk has levels
abbrev pub moments_left : MomentHelper → ℕ
moments_left s =
    turns_left s.helper + most_depth * (most_queries - s.asked) + challenges_left s.question
