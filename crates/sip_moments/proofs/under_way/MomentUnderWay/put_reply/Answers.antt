-- The prover at hand has a round left, and what it says is the reply.
use Rattle.std.proofs.Common.{Bool, List, sym, ap, subst, ◌∙◌}
use Rattle.std.specs.List.{flat_map}
use Rattle.sip_ports.specs.Ports.{SendsWhole}
use Rattle.sip_wire.specs.declared.message.Message.{Message}
use Rattle.sip_wire.specs.Spelling.{spelling}
use Rattle.sip_moments.specs.inside.Keeping.{its_messages}
use Rattle.sip_moments.proofs.MomentReplies.{reply_honest}
use Rattle.sip_moments.proofs.OpenMoments.{tall_at_hand}
use Rattle.sip_moments.proofs.under_way.MomentUnderWay.put_reply.Goals as goal

pub put_honest-requires : goal.put_honest-requires
put_honest-requires g c = record {
  left = tall_at_hand c.requires.stands.0 c.args.self.now c.in-Some.prover c.in-Some.is
      c.requires.stands.1;
}

pub returns-clause-talk : goal.returns-clause-talk
returns-clause-talk g c = λ helper can.
    let q = c.args.self.now in
    let prover = c.in-Some.prover in
    subst (λ (ms : List Message). SendsWhole (g.K.Sink.talk c.args.out.now)
    (g.K.Sink.talk c.put_honest.new.out) c.put_honest.result
    (flat_map (spelling c.args.version) ms))
    (ap (λ (b : Bool). its_messages b prover) c.is_empty.ensures
    ∙ sym (reply_honest helper q prover c.in-Some.is can))
    c.put_honest.ensures.talk
