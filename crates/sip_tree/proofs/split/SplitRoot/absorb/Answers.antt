-- The new hash and weight by the clauses of the calls, and from them what the root stands for.
use Rattle.std.proofs.Common.{◌<◌, arith}
use Rattle.sip_tree.proofs.Splitting.{split_roots_stand, split_root_joins}
use Rattle.sip_tree.proofs.split.SplitRoot.absorb.Goals as goal

pub returns-clause-hash : goal.returns-clause-hash
returns-clause-hash g c = rw (c.number-self.ensures, c.plus.ensures, c.of_number.ensures, c.of_number-more.ensures)

pub returns-clause-weight : goal.returns-clause-weight
returns-clause-weight g c = omega (arith, c.requires.weight)

pub returns-clause-stands : goal.returns-clause-stands
returns-clause-stands g c values others weights more f h =
    let some : 0 < g.F.Field.MODULUS = omega (arith, g.met.F.Field.at_least) in
    split_roots_stand _ _ _ _ _ _ _ _ _ values weights others more some c.requires.seat (returns-clause-hash g c) (returns-clause-weight g c) f h

pub returns-clause-joins : goal.returns-clause-joins
returns-clause-joins g c depth s t side f h = split_root_joins _ _ _ _ depth s t side (returns-clause-stands g c _ _ _ _ f h)
