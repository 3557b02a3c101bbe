use Rattle.std.proofs.Common.{ap, arith, length}
use Rattle.sip_sketch.proofs.Whole.{few_seats}
use Rattle.sip_sketch.proofs.sketch.Sketch.seats.Goals as goal

pub returns-clause-most : goal.returns-clause-most
returns-clause-most c =
    let few = (few_seats _ c.self.invariant).1 in
    let same = ap length c.deref.ensures.value in
    omega (arith, few, same)
