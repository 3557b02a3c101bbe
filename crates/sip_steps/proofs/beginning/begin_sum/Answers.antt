-- A sum takes no places, and the events are a talk by the protocol of the product.
use Rattle.std.proofs.Common.{[], List, ℕ, refl, subst}
use Rattle.sip_field.specs.Elements.{m61_number}
use Rattle.sip_field.specs.Moduli.{m61_modulus}
use Rattle.sip_sums.specs.Asking.{SumStands, phase_of}
use Rattle.sip_sums.specs.Protocol.{sum_asked, sum_protocol}
use Rattle.sip_steps.specs.Openings.{message_of}
use Rattle.sip_steps.specs.Asked.{IsAsked}
use Rattle.sip_steps.proofs.beginning.begin_sum.Goals as goal

pub begin-requires-clause-stood : goal.begin-requires-clause-stood
begin-requires-clause-stood c = (sum_asked c.args.version m61_modulus (m61_number c.args.product), refl, c.start-check.ensures.stands c.args.version _)

pub returns : goal.returns
returns c = record {
  posed = λ depth running kind.
      let asked = sum_asked c.args.version m61_modulus (m61_number c.args.product) in
      let talk = c.in_ok-asking.ensures.asked asked refl (c.start-check.ensures.stands c.args.version _) in
      (asked, record { asks = c.in_ok-asking.ensures.request; talk = subst (λ (b : List ℕ). IsAsked (sum_protocol asked) (SumStands asked) phase_of message_of (message_of c.args.opening) b [] c.in_ok-asking.asking) c.start-check.ensures.block talk }, kind);
}
