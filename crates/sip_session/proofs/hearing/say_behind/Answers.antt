use Rattle.std.proofs.Common.{arith}
use Rattle.std.proofs.lemmas.Result.{err_from_is_err_and}
use Rattle.sip_ports.specs.Ports.{outs}
use Rattle.sip_wire.specs.Spelling.{spelling}
use Rattle.sip_session.proofs.LinkLemmas.{links_set, links_stay}
use Rattle.sip_session.proofs.Places.{links_cut, links_more, none_said}
use Rattle.sip_session.proofs.hearing.say_behind.Goals as goal

pub returns-in_err-say-clause-talks : goal.returns-in_err-say-clause-talks
returns-in_err-say-clause-talks g c =
    let p = err_from_is_err_and c.from_residual.result c.from_residual.ensures.1 in
    rw p.1 (links_cut (λ x. x.kept.talk.items) _ c.loop-place.links c.args.gone c.loop-place.place
    (spelling c.args.version c.args.message.now) c.in_err-say.field-0.0 p.0
    c.loop-place.invariant.said (omega arith) (omega arith) c.say.new.link
    c.index-links-place.result
    (rw c.in_err-say.was at c.say.ensures.talk))

pub loop-place-preserved : goal.loop-place-preserved
loop-place-preserved g c = record {
  said = links_more (λ x. x.kept.talk.items) _ c.loop-place.links c.args.gone c.loop-place.place _
      c.loop-place.invariant.said (omega arith) (omega arith) c.say.new.link
      c.index-links-place.result
      (rw c.in_ok-say.was at c.say.ensures.talk);
  sure = links_set _ c.args.links.now c.loop-place.links c.loop-place.place c.say.new.link
      c.index-links-place.result (omega arith) (λ l held k. c.say.ensures.sure (held k))
      c.loop-place.invariant.sure;
}

pub loop-place-init : goal.loop-place-init
loop-place-init g c = record {
  said = none_said _ c.args.gone (outs (spelling c.args.version c.args.message.now));
  sure = links_stay _ _ (λ place l k. k);
}

pub returns-in_err-say-clause-sure : goal.returns-in_err-say-clause-sure
returns-in_err-say-clause-sure g c =
    links_set _ c.args.links.now c.loop-place.links c.loop-place.place c.say.new.link
    c.index-links-place.result (omega arith) (λ l held k. c.say.ensures.sure (held k))
    c.loop-place.invariant.sure
