-- One more was passed.
use Rattle.std.proofs.Common.{◌+◌, ◌<◌, ◌∙◌, arith}
use Rattle.sip_heavy.specs.Spots.{count_at}
use Rattle.sip_heavy.proofs.LightNodes.{light_at}
use Rattle.sip_heavy.proofs.spots.pass_light.Goals as goal

pub loop-place-preserved : goal.loop-place-preserved
loop-place-preserved c =
    let place = c.loop-place.place in
    let spots = c.args.spots.now in
    let rises = c.requires.rises in
    let less : count_at place spots + count_at (place + 1) spots < c.args.at_least = rw (c.count_at.ensures.exact, c.count_at-in-loop-place.ensures.exact) at c.if-count_at-at_least.true in
    record {
      order = omega (arith, c.loop-place.invariant.order);
      within = omega (arith, c.loop-place-test.true);
      shown = λ is_leaf. c.loop-place.invariant.shown is_leaf ∙ light_at c.args.at_least is_leaf place rises.0 rises.1 spots rises.2 c.loop-place-test.true less;
    }
