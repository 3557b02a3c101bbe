-- Neither weight is too great to add them.
use Rattle.std.proofs.Common.{arith}
use Rattle.sip_sketch.proofs.Grown.{seen}
use Rattle.sip_sketch.proofs.Whole.{light}
use Rattle.sip_sketch.proofs.absorbing.unlike.Goals as goal

pub overflow_add-tally : goal.overflow_add-tally
overflow_add-tally c =
    let few = light (seen c.part.inside) c.part.invariant in
    omega (arith, few.0, c.requires.first)

pub overflow_add-tally-2 : goal.overflow_add-tally-2
overflow_add-tally-2 c =
    let few = light (seen c.part.inside) c.part.invariant in
    omega (arith, few.1, c.requires.second)
