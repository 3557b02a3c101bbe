use Rattle.std.proofs.Common.{arith, refl}
use Rattle.sip_ports.specs.Memory.{sink_bytes}
use Rattle.sip_duel.proofs.GivingLemmas.{given_events, given_from, copied, copied_length}
use Rattle.sip_duel.proofs.kept.Kept.give.Goals as goal

pub returns-clause-left : goal.returns-clause-left
returns-clause-left c =
    given_from c.args.self.now.at c.min-count.result (sink_bytes c.args.self.now.out) c.copy_from_slice.new.self _
    (copied c.args.self.now.at c.min-count.result (sink_bytes c.args.self.now.out) c.bytes.result.now c.copy_from_slice.new.self c.bytes.ensures c.copy_from_slice.ensures.after)
    (copied_length c.min-count.result c.copy_from_slice.new.self c.args.buf.now (omega (arith, c.min-count.ensures)) c.copy_from_slice.ensures.len)

pub invariant_of-self-2-clause-given : goal.invariant_of-self-2-clause-given
invariant_of-self-2-clause-given c = given_events c.args.self.now.at c.min-count.result c.args.self.now.talk.items c.extend_from_slice.new.self.items c.deref.result.now c.in_ok-events.events.items (sink_bytes c.args.self.now.out) _
    c.in_ok-extend_from_slice.ensures.items c.deref.ensures.value c.in_ok-events.ensures
    (copied c.args.self.now.at c.min-count.result (sink_bytes c.args.self.now.out) c.bytes.result.now _ c.bytes.ensures refl)
    c.args.self.now.given
