-- A left child is the node above but for its index, and a right one but for the square of the challenge.
use Rattle.std.proofs.Common.{ℕ, ◌<◌, ap, ◌∙◌, arith}
use Rattle.sip_heavy.proofs.LoneNodes.{above, left_above, right_above}
use Rattle.sip_heavy.proofs.spots.raised.Goals as goal

pub returns-then-node-eq0 : goal.returns-then-node-eq0
returns-then-node-eq0 g c =
    let p : ℕ = g.F.Field.MODULUS in
    let some : 0 < p = omega (arith, g.met.F.Field.at_least) in
    c.above_one.ensures ∙ ap (above c.args.node) c.of.ensures
    ∙ left_above p (g.F.Field.number c.args.r) some c.args.node c.half-half.result c.half-half.ensures.residue c.if-node-eq0.true

pub returns : goal.returns
returns g c =
    let p : ℕ = g.F.Field.MODULUS in
    let some : 0 < p = omega (arith, g.met.F.Field.at_least) in
    c.above_one-2.ensures ∙ ap (above c.args.node) c.of-2.ensures
    ∙ right_above p (g.F.Field.number c.args.r) some c.args.node c.half-half.result c.half-half.ensures.residue c.number.result c.loose_times.result (c.number.ensures ∙ c.requires.square) c.loose_times.ensures.residue c.if-node-eq0.false
