-- What is shown of the prover's level, or the refusal, is the reply.
use Rattle.std.proofs.Common.{ℕ, List, sym, subst, ◌∙◌}
use Rattle.std.specs.List.{flat_map}
use Rattle.sip_ports.specs.Ports.{SendsWhole}
use Rattle.sip_wire.specs.declared.message.Message.{Message}
use Rattle.sip_wire.specs.declared.version.Version.TheVariants.{Two}
use Rattle.sip_wire.specs.Spelling.{spelling}
use Rattle.sip_above.proofs.LargeReplies.{code_few, code_some, level_fits, lowest_is, refused_reply, shown_reply}
use Rattle.sip_above.proofs.under_way.LargeUnderWay.put_reply.Goals as goal

pub put_shown-requires-clause-lowest : goal.put_shown-requires-clause-lowest
put_shown-requires-clause-lowest g c =
    lowest_is c.requires.stands.0 c.requires.stands.1 c.args.self.now c.in-Ok.prover c.in-Ok.is c.requires.stands.2 ∙ sym c.is_empty.ensures

pub put_shown-requires-clause-fit : goal.put_shown-requires-clause-fit
put_shown-requires-clause-fit g c = level_fits c.requires.stands.0 c.requires.stands.1 c.args.self.now c.in-Ok.prover c.in-Ok.is c.requires.stands.2

pub put_refusal-requires-clause-some : goal.put_refusal-requires-clause-some
put_refusal-requires-clause-some g c = code_some c.requires.stands.0 c.requires.stands.1 c.args.self.now c.in-Err.code c.in-Err.is c.requires.stands.2

pub put_refusal-requires-clause-most : goal.put_refusal-requires-clause-most
put_refusal-requires-clause-most g c = code_few c.requires.stands.0 c.requires.stands.1 c.args.self.now c.in-Err.code c.in-Err.is c.requires.stands.2

pub returns-in-Ok-clause-talk : goal.returns-in-Ok-clause-talk
returns-in-Ok-clause-talk g c = λ depth side can.
    subst (λ (ms : List Message). SendsWhole (g.K.Sink.talk c.args.out.now) (g.K.Sink.talk c.put_shown.new.out) c.put_shown.result (flat_map (spelling Two) ms))
    (sym (shown_reply depth side c.args.self.now c.in-Ok.prover c.in-Ok.is can)) c.put_shown.ensures.talk

pub returns-in-Err-clause-talk : goal.returns-in-Err-clause-talk
returns-in-Err-clause-talk g c = λ depth side can.
    subst (λ (bytes : List ℕ). SendsWhole (g.K.Sink.talk c.args.out.now) (g.K.Sink.talk c.put_refusal.new.out) c.put_refusal.result bytes)
    (sym (refused_reply depth side c.args.self.now c.in-Err.code c.in-Err.is can)) c.put_refusal.ensures.talk
