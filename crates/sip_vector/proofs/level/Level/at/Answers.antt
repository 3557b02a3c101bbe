use Rattle.std.proofs.Common.{◌<◌, sym, ◌∙◌, arith}
use Rattle.std.proofs.Math.Nat.{mod-eq_of_lt}
use Rattle.sip_vector.proofs.Searches.{node-none, node-later, node-here}
use Rattle.sip_vector.proofs.level.Level.at.Goals as goal
use Rattle.sip_vector.proofs.level.Level.at.Goals.{in_default-via-in-Some+else-spot-index, in_default-via-in_default}

pub returns-in-Some : goal.returns-in-Some
returns-in-Some g c = sym (node-here c.args.self.now c.args.index c.in-Some.spot.index _ c.in-Some.ensures c.if-spot-index.true)

pub returns-in_default : goal.returns-in_default
returns-in_default g c =
    let some : 0 < g.F.Field.MODULUS = omega (arith, g.met.F.Field.at_least) in
    let nothing = c.of.ensures ∙ mod-eq_of_lt some in
    nothing ∙ sym (elim c.in_default.branch [
      | in_default-via-in-Some+else-spot-index w ↦ node-later c.args.self.now c.args.index w.in-Some.spot.index _ w.in-Some.ensures w.if-spot-index.false
      | in_default-via-in_default w ↦ node-none c.args.self.now c.args.index w.in_default.ensures
    ])
