-- Updates of a side raise the numbers of its vector.
use Rattle.std.proofs.Common.{◌^◌, ◌<◌, length, All, sym, subst, ◌∙◌}
use Rattle.sip_vector.specs.declared.update.Update.{Update}
use Rattle.sip_field.specs.Moduli.{m61_modulus}
use Rattle.sip_mle.specs.StandsFor.{PointStandsFor}
use Rattle.sip_vector.specs.Streams.{weight}
use Rattle.sip_verifier.specs.QuerySeats.{RunsOn}
use Rattle.sip_verifier.specs.Running.{block_of, numbers_of}
use Rattle.sip_verifier.specs.declared.running.Running.{Running}
use Rattle.sip_sketch.specs.Seats.{beside, query_of, side_of}
use Rattle.sip_sketch.proofs.Runs.{both_after, own_all, own_is, root_further, point_further, points_further, aug_root_further, split_root_further}
use Rattle.sip_sketch.proofs.seat.raise.Goals as goal

pub returns-in-Root-clause-runs : goal.returns-in-Root-clause-runs
returns-in-Root-clause-runs c = λ depth stream updates kind sided firsts seconds runs.
    let own = c.own_of-own.ensures ∙ own_is kind c.args.side updates c.args.firsts.now c.args.seconds.now sided firsts seconds in
    let stands = subst (λ (r : Running). RunsOn depth stream (query_of kind) (block_of r) (beside (weight stream (side_of kind)) (numbers_of r))) c.in-Root.is runs in
    root_further depth stream updates _ _ kind c.own_of-own.result.now _ _ own c.update_all.ensures.stands stands

pub returns-in-Point-clause-runs : goal.returns-in-Point-clause-runs
returns-in-Point-clause-runs c = λ depth stream updates kind sided firsts seconds runs.
    let own = c.own_of-own.ensures ∙ own_is kind c.args.side updates c.args.firsts.now c.args.seconds.now sided firsts seconds in
    let stands = subst (λ (r : Running). RunsOn depth stream (query_of kind) (block_of r) (beside (weight stream (side_of kind)) (numbers_of r))) c.in-Point.is runs in
    point_further depth stream updates _ _ kind c.own_of-own.result.now _ _ own c.update_all-in-Point.ensures.stands stands

pub returns-in-Points-clause-runs : goal.returns-in-Points-clause-runs
returns-in-Points-clause-runs c = λ depth stream updates kind sided firsts seconds runs.
    let stands = subst (λ (r : Running). RunsOn depth stream (query_of kind) (block_of r) (beside (weight stream (side_of kind)) (numbers_of r))) c.in-Points.is runs in
    let one = c.update_all-in-Points.ensures in
    let two = c.update_all-in-Points-2.ensures in
    points_further depth stream updates _ _ kind _ _ _ _
    (λ numbers s. subst (PointStandsFor m61_modulus _ _) (both_after updates c.args.firsts.now c.args.seconds.now numbers firsts seconds).0 (two.first _ (one.first numbers s)))
    (λ numbers s. subst (PointStandsFor m61_modulus _ _) (both_after updates c.args.firsts.now c.args.seconds.now numbers firsts seconds).1 (two.second _ (one.second numbers s)))
    stands

pub returns-in-AugRoot-clause-runs : goal.returns-in-AugRoot-clause-runs
returns-in-AugRoot-clause-runs c = λ depth stream updates kind sided firsts seconds runs.
    let own = c.own_of-own.ensures ∙ own_is kind c.args.side updates c.args.firsts.now c.args.seconds.now sided firsts seconds in
    let stands = subst (λ (r : Running). RunsOn depth stream (query_of kind) (block_of r) (beside (weight stream (side_of kind)) (numbers_of r))) c.in-AugRoot.is runs in
    aug_root_further depth stream updates _ _ kind c.own_of-own.result.now _ _ _ _ own c.update_all-in-AugRoot.ensures.stands stands

pub returns-in-SplitRoot-clause-runs : goal.returns-in-SplitRoot-clause-runs
returns-in-SplitRoot-clause-runs c = λ depth stream updates kind sided firsts seconds runs.
    let own = c.own_of-own.ensures ∙ own_is kind c.args.side updates c.args.firsts.now c.args.seconds.now sided firsts seconds in
    let stands = subst (λ (r : Running). RunsOn depth stream (query_of kind) (block_of r) (beside (weight stream (side_of kind)) (numbers_of r))) c.in-SplitRoot.is runs in
    let Below : Running → Update → Type 0 = λ r u. u.item < 2 ^ length (block_of r) in
    let all = subst (All (Below c.args.running.now)) (sym c.own_of-own.ensures) (own_all (Below c.args.running.now) c.args.side c.args.firsts.now c.args.seconds.now c.requires.firsts c.requires.seconds) in
    let below = subst (λ (r : Running). All (Below r) c.own_of-own.result.now) c.in-SplitRoot.is all in
    split_root_further depth stream updates _ _ kind c.own_of-own.result.now _ _ own c.update_all-in-SplitRoot.ensures.seat below c.update_all-in-SplitRoot.ensures.hash stands
