use Rattle.std.proofs.Common.{◌≡◌, None, ap, ◌∙◌, arith, length-set}
use Rattle.sip_session.proofs.Places.{all_more, all_taken, links_same}
use Rattle.sip_session.proofs.farewells.let_all_go.Goals as goal

pub loop-place-preserved : goal.loop-place-preserved
loop-place-preserved g c = record {
  gone = all_more c.loop-place.links c.loop-place.place c.close_and_drop.new.self (λ x. x.helper ≡ None) (omega arith) c.loop-place.invariant.gone c.close_and_drop.ensures.gone;
  talks = links_same (λ x. x.kept.talk.items) c.loop-place.links c.loop-place.place c.close_and_drop.new.self c.index-links-place.result (omega arith) (ap (λ t. t.items) c.close_and_drop.ensures.talk) ∙ c.loop-place.invariant.talks;
  count = length-set c.loop-place.links c.loop-place.place c.close_and_drop.new.self ∙ c.loop-place.invariant.count;
}

pub returns-clause-gone : goal.returns-clause-gone
returns-clause-gone g c = all_taken c.loop-place.links c.loop-place.place (λ x. x.helper ≡ None) (omega arith) c.loop-place.invariant.gone
