use Rattle.std.proofs.Common.{take, ap, subst, arith, rules}
use Rattle.std.proofs.lemmas.List.{take_rest}
use Rattle.sip_ports.specs.declared.port.TalkEvent.TheVariants.{Out}
use Rattle.sip_ports.specs.Ports.{GoesOn, outs}
use Rattle.sip_ports.proofs.TalkLemmas.{GoesOn-trans}
use Rattle.sip_ports.proofs.Steps.{take_steps}
use Rattle.sip_ports.proofs.whole.write_whole.Goals as goal

pub loop-sent-preserved : goal.loop-sent-preserved
loop-sent-preserved g c =
    let kept = c.loop-sent.invariant in
    let sent = c.loop-sent.sent in
    let n = c.in_ok-sent.field-0 in
    let buf = c.args.buf.now in
    let went = subst (GoesOn _ _) (ap (λ part. outs (take n part)) (take_rest buf sent)) c.in_ok-sent.ensures.talk in
    record {
      within = search rules;
      went = subst (GoesOn _ _) (take_steps Out sent n buf) (GoesOn-trans _ _ _ _ _ kept.went went);
      later = omega (arith, c.write.ensures.cause.later);
      wants_later = omega (arith, c.write.ensures.cause.wants_later);
      sure = λ sure. c.write.ensures.cause.sure (kept.sure sure);
    }
