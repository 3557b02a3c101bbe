use Rattle.std.proofs.Common.{◌≡◌, ◌+◌, ◌-◌, ◌≤◌, List, ℕ, ◌++◌, length, take, ap, subst, ◌∙◌, append_assoc, arith, rules}
use borrow.Rule.Slice.PartMut.{mid_len}
use Rattle.sip_ports.specs.Ports.{GoesOn}
use Rattle.sip_ports.proofs.TalkLemmas.{received_some}
use Rattle.sip_wire.proofs.Receiving.{more_taken, came_more}
use Rattle.sip_wire.proofs.frame.Frame.receive.Goals as goal

pub loop-self-preserved : goal.loop-self-preserved
loop-self-preserved g c =
    let old = c.loop-self.self in
    let kept = c.loop-self.invariant in
    let came = c.in_ok-came.came in
    let part = take came c.recv.new.buf in
    let same = ap length c.deref_mut.ensures.value in
    let asked : length c.recv.new.buf ≡ c.args.upto - old.taken = omega (arith, mid_len old.taken c.args.upto c.deref_mut.result.now (omega arith)) in
    let heard = subst (GoesOn _ _) (received_some came c.recv.new.buf (search rules)) c.in_ok-came.ensures.talk in
    let within : old.taken + came ≤ c.args.upto = omega (arith, c.in_ok-came.ensures.bound.0) in
    let taken = more_taken old.taken came c.args.upto old.buffer.len old.buffer.items c.deref_mut.result.now c.recv.new.buf _ old.buffer.ok.0 c.deref_mut.ensures.value (omega arith) c.in_ok-came.ensures.bound.0 within in
    record {
      within = within;
      came = (kept.came.0 ++ part, taken ∙ ap (λ (b : List ℕ). b ++ part) kept.came.1 ∙ append_assoc _ kept.came.0 part, came_more _ _ _ kept.came.0 part kept.came.2 heard);
      lasts = record {
        later = omega (arith, kept.lasts.later, c.recv.ensures.cause.later);
        wants_later = omega (arith, kept.lasts.wants_later, c.recv.ensures.cause.wants_later);
        sure = λ sure. c.recv.ensures.cause.sure (kept.lasts.sure sure);
      };
    }
