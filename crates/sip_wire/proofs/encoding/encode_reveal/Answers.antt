use Rattle.std.proofs.Common.{◌≡◌, ◌++◌, ℕ, List, refl, sym, ap, subst, ◌∙◌}
use Rattle.sip_ports.specs.Ports.{SendsWhole}
use Rattle.sip_wire.specs.Spelling.{spelling}
use Rattle.sip_wire.specs.declared.message.Message.TheVariants as messages
use Rattle.sip_wire.proofs.Challenges.{reveal_body}
use Rattle.sip_wire.proofs.Whole.{encoded}
use Rattle.sip_wire.proofs.encoding.encode_reveal.Goals as goal

pub returns-clause-talk : goal.returns-clause-talk
returns-clause-talk g c =
    let P : List ℕ → Type 0 = λ b. SendsWhole (g.K.Sink.talk c.args.sink.now) (g.K.Sink.talk c.write_whole.new.sink) c.write_whole.result b in
    let body = c.put_u64.ensures.bytes ∙ ap (λ (b : List ℕ). c.put_u16.new.out.items ++ b) (sym (reveal_body c.args.version c.args.challenge)) in
    let bytes : c.put_u64.new.out.items ≡ spelling c.args.version (messages.Reveal c.args.challenge) = encoded c.args.version (messages.Reveal c.args.challenge) _ _ _ _ c.byte.result 8 c.requires c.new-out.ensures c.push.ensures.items c.byte.ensures refl c.put_u16.ensures.bytes body in
    subst P (c.deref.ensures.0 ∙ bytes) c.write_whole.ensures.talk
