use Rattle.std.proofs.Common.{◌-◌, length, subst, arith, rules}
use Rattle.sip_ports.specs.declared.port.TalkEvent.TheVariants.{In}
use Rattle.sip_ports.specs.Ports.{GoesOn}
use Rattle.sip_ports.proofs.TalkLemmas.{GoesOn-trans, received_some}
use Rattle.sip_ports.proofs.Steps.{filled_more_by}
use Rattle.sip_ports.proofs.whole.recv_whole.Goals as goal

pub loop-filled-preserved : goal.loop-filled-preserved
loop-filled-preserved g c =
    let at = c.loop-filled.filled in
    let kept = c.loop-filled.invariant in
    let came = c.in_ok-came.came in
    let joined = filled_more_by In at (length c.loop-filled.buf - at) came c.loop-filled.buf c.recv.new.buf kept.within c.in_ok-came.ensures.bound.0 in
    let heard = subst (GoesOn _ _) (received_some came c.recv.new.buf (search rules)) c.in_ok-came.ensures.talk in
    record {
      within = search rules;
      came = subst (GoesOn _ _) joined (GoesOn-trans _ _ _ _ _ kept.came heard);
      later = omega (arith, c.recv.ensures.cause.later);
      wants_later = omega (arith, c.recv.ensures.cause.wants_later);
      sure = λ sure. c.recv.ensures.cause.sure (kept.sure sure);
    }
