-- Each seat's query has a code in the version, and the depth is not beyond it.
use Rattle.std.proofs.Common.{rules, arith}
use Rattle.sip_verifier.proofs.SeatsHead.{all-coded, all-shallow}
use Rattle.sip_verifier.proofs.session.Session.over.Goals as goal

pub invariant_of-result : goal.invariant_of-result
invariant_of-result c = (
  omega arith,
  (
    all-shallow c.args.version c.args.seats.depth c.args.seats.seats c.requires c.all.ensures.some,
    (all-coded c.args.version c.args.seats.depth c.args.seats.seats c.requires, (search rules, (search rules, (search rules, tt)))),
  ),
)
