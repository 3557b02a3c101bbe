-- A moment takes no places, and the events are a talk by the protocol of the power.
use Rattle.std.proofs.Common.{◌%◌, ◌^◌, [], List, ℕ, refl, subst, arith}
use Rattle.sip_field.specs.Elements.{m61_number}
use Rattle.sip_field.specs.Moduli.{m61_modulus}
use Rattle.sip_moments.specs.Asking.{MomentStands, phase_of}
use Rattle.sip_moments.specs.Protocol.{moment_asked, moment_protocol}
use Rattle.sip_moments.specs.Questions.{ask_of}
use Rattle.sip_moments.proofs.AskFrames.{ask_fits}
use Rattle.sip_steps.specs.Openings.{message_of}
use Rattle.sip_steps.specs.Asked.{IsAsked}
use Rattle.sip_steps.proofs.beginning.begin_moment.Goals as goal

pub begin-requires-clause-fits : goal.begin-requires-clause-fits
begin-requires-clause-fits c = ask_fits c.args.version c.args.moment (omega (arith, c.requires.degree.most))

pub begin-requires-clause-stood : goal.begin-requires-clause-stood
begin-requires-clause-stood c = (moment_asked c.args.version m61_modulus c.args.moment.degree ((m61_number c.args.extension ^ c.args.moment.degree) % m61_modulus), refl, c.start-check.ensures.stands c.args.version _)

pub returns : goal.returns
returns c = record {
  posed = λ depth running kind.
      let moment = c.args.moment in
      let power = (m61_number c.args.extension ^ moment.degree) % m61_modulus in
      let asked = moment_asked c.args.version m61_modulus moment.degree power in
      let talk = c.in_ok-asking.ensures.asked asked refl (c.start-check.ensures.stands c.args.version _) in
      (moment, power, record { asks = c.in_ok-asking.ensures.request; talk = subst (λ (b : List ℕ). IsAsked (moment_protocol asked) (MomentStands asked) phase_of message_of (ask_of moment) b [] c.in_ok-asking.asking) c.start-check.ensures.block talk }, kind);
}
