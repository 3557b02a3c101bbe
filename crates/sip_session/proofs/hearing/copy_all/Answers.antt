use Rattle.std.proofs.Common.{Err, arith}
use Rattle.std.proofs.lemmas.Result.{err_from_is_err_and}
use Rattle.sip_ports.specs.Ports.{outs}
use Rattle.sip_wire.specs.Spelling.{spelling}
use Rattle.sip_wire.specs.declared.message.Message.TheVariants as messages
use Rattle.sip_session.proofs.LinkLemmas.{links_set, links_stay}
use Rattle.sip_session.proofs.Places.{links_cut, links_more, none_said, on_all}
use Rattle.sip_session.proofs.hearing.copy_all.Goals as goal

pub returns-in_err-copy-clause-talks : goal.returns-in_err-copy-clause-talks
returns-in_err-copy-clause-talks g c =
    let p = err_from_is_err_and c.from_residual.result c.from_residual.ensures.1 in
    rw p.1 (on_all _ _ (spelling c.args.feed.now.version
    (messages.Updates (record { items = c.args.feed.now.waiting }))) (Err p.0)
    (links_cut (λ x. x.kept.talk.items) _ c.loop-place.links 0 c.loop-place.place
    (spelling c.args.feed.now.version
    (messages.Updates (record { items = c.args.feed.now.waiting }))) c.in_err-copy.field-0.0 p.0
    c.loop-place.invariant.said (omega arith)
    (omega arith) c.copy.new.link c.index-links-place.result
    (rw c.in_err-copy.was at c.copy.ensures.talk)))

pub loop-place-preserved : goal.loop-place-preserved
loop-place-preserved g c = record {
  said = links_more (λ x. x.kept.talk.items) _ c.loop-place.links 0 c.loop-place.place _
      c.loop-place.invariant.said (omega arith)
      (omega arith) c.copy.new.link c.index-links-place.result
      (rw c.in_ok-copy.was at c.copy.ensures.talk);
  sure = links_set _ c.args.links.now c.loop-place.links c.loop-place.place c.copy.new.link
      c.index-links-place.result (omega arith) (λ l held k. c.copy.ensures.sure (held k))
      c.loop-place.invariant.sure;
}

pub loop-place-init : goal.loop-place-init
loop-place-init g c = record {
  said = none_said _ 0 (outs (spelling c.args.feed.now.version
      (messages.Updates (record { items = c.args.feed.now.waiting }))));
  sure = links_stay _ _ (λ place l k. k);
}

pub returns-in_err-copy-clause-sure : goal.returns-in_err-copy-clause-sure
returns-in_err-copy-clause-sure g c =
    links_set _ c.args.links.now c.loop-place.links c.loop-place.place c.copy.new.link
    c.index-links-place.result (omega arith) (λ l held k. c.copy.ensures.sure (held k))
    c.loop-place.invariant.sure
