use Rattle.std.proofs.Common.{refl}
use Rattle.sip_wire.specs.declared.message.Message.TheVariants as messages
use Rattle.sip_wire.specs.Spelling.{spelling}
use Rattle.sip_ports.specs.Memory.{sink_bytes}
use Rattle.sip_duel.proofs.HonestLemmas.{appended, refused, appended_front}
use Rattle.sip_duel.proofs.honest.refuse.Goals as goal

pub returns-in-Ok-clause-replies : goal.returns-in-Ok-clause-replies
returns-in-Ok-clause-replies c = λ new. refused new c.args.version (messages.Refuse 4) (sink_bytes c.args.out.now) (sink_bytes c.put_refusal.new.out) c.in-Ok.ensures.talk

pub returns-in-Err-clause-replies : goal.returns-in-Err-clause-replies
returns-in-Err-clause-replies c = λ new. appended_front (sink_bytes c.args.out.now) (sink_bytes c.put_refusal.new.out) (spelling c.args.version (messages.Refuse 4)) c.in-Err.ensures.talk

pub returns-in-Ok-clause-refusal : goal.returns-in-Ok-clause-refusal
returns-in-Ok-clause-refusal c = (refl, appended (sink_bytes c.args.out.now) (sink_bytes c.put_refusal.new.out) (spelling c.args.version (messages.Refuse 4)) c.in-Ok.ensures.talk)
