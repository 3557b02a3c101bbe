use Rattle.std.proofs.Common.{◌^◌}
use Rattle.sip_vector.proofs.Gathers.{first-listed, first-later, first-none}
use Rattle.sip_vector.proofs.finding.first_within.Goals as goal

pub returns-in-Some : goal.returns-in-Some
returns-in-Some c vector is inside = first-listed vector c.args.list.now is c.args.from c.args.hi c.in-Some.entry c.if-entry-hi.true (c.in-Some.ensures (2 ^ vector.depth) is.sparse)

pub returns-in_default : goal.returns-in_default
returns-in_default c vector is inside = first-later vector c.args.list.now is c.args.from c.args.hi c.in-Some.entry c.if-entry-hi.false (c.in-Some.ensures (2 ^ vector.depth) is.sparse)

pub returns-in_default-2 : goal.returns-in_default-2
returns-in_default-2 c vector is inside = first-none vector c.args.list.now is c.args.from c.args.hi (c.in_default.ensures (2 ^ vector.depth) is.sparse)
