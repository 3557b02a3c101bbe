-- The polynomial is sent behind the claim.
use Rattle.std.proofs.Common.{sym, subst}
use Rattle.sip_ports.specs.Ports.{SendsWhole}
use Rattle.sip_wire.specs.declared.message.Message.TheVariants as messages
use Rattle.sip_field.specs.Moduli.{m61_modulus}
use Rattle.sip_wire.specs.Spelling.{spelling}
use Rattle.sip_helper.proofs.Sending.{sends_after}
use Rattle.sip_moments.specs.Honest.{its_polynomial}
use Rattle.sip_moments.specs.Stating.{power_message}
use Rattle.sip_moments.proofs.MomentReplies.{first_bytes}
use Rattle.sip_moments.proofs.under_way.put_honest.Goals as goal

pub returns-clause-talk : goal.returns-clause-talk
returns-clause-talk g c =
    let version = c.args.version in
    let prover = c.args.prover.now in
    let before = g.K.Sink.talk c.args.out.now in
    let between = g.K.Sink.talk c.put_claim.new.out in
    let after = g.K.Sink.talk c.put_polynomial-2.new.out in
    subst (SendsWhole before after c.put_polynomial-2.result)
    (sym (first_bytes version c.args.is_first prover c.if-not-is_first.false))
    (sends_after before between after c.put_polynomial-2.result
    (spelling version (messages.Claim prover.claim))
    (spelling version (power_message (its_polynomial m61_modulus prover)))
    c.in_ok-put_claim.ensures.talk c.put_polynomial-2.ensures.talk)
