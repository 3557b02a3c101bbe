-- Nothing was said, and no byte of a frame came.
use Rattle.std.specs.Prelude.{[]}
use Rattle.sip_steps.proofs.asking.Asking.begin.Goals as goal

pub returns-clause-begun : goal.returns-clause-begun
returns-clause-begun g c =
    let stood = c.requires.stood in
    (stood.0, g.Q.Request.message c.args.request, (g.C.Check.phase c.args.check).block, [], c.over.ensures.asked stood.0 stood.1 stood.2)
