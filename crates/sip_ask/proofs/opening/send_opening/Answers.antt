-- The depth is one that an opening may have.
use Rattle.std.proofs.Common.{arith}
use Rattle.sip_verifier.proofs.FramesFit.{open_fits}
use Rattle.sip_ask.proofs.opening.send_opening.Goals as goal

pub encode-requires : goal.encode-requires
encode-requires g c = rw c.number.ensures (open_fits c.args.version c.get.result (omega arith) (omega (arith, c.requires, c.get.ensures.same)))
