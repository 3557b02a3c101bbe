use Rattle.sip_c.proofs.Reasons.{named}
use Rattle.sip_c.proofs.absorbing.absorb.Goals as goal

pub refusal_of-requires : goal.refusal_of-requires
refusal_of-requires c = named c.args.sketch.now c.args.part.now c.in-Err.reason c.in-Err.ensures.why
