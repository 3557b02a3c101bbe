-- The new hash and total by the clauses of the calls, and from them what the root stands for.
use Rattle.std.proofs.Common.{◌<◌, sym, subst, arith}
use Rattle.std.proofs.lemmas.Int.{ints}
use Rattle.sip_tree.specs.StandsFor.{AugRootStandsFor}
use Rattle.sip_tree.proofs.StandsLemmas.{augroots_stand}
use Rattle.sip_vector.proofs.Lines.{vector_joined}
use Rattle.sip_tree.proofs.augmented.AugRoot.absorb.Goals as goal

pub returns-clause-hash : goal.returns-clause-hash
returns-clause-hash g c = rw (c.number-self.ensures, c.plus.ensures, c.of_number.ensures, c.of_number-more.ensures)

pub returns-clause-stands : goal.returns-clause-stands
returns-clause-stands g c numbers others f h =
    let some : 0 < g.F.Field.MODULUS = omega (arith, g.met.F.Field.at_least) in
    augroots_stand _ _ _ some c.requires.seat _ _ _ _ _ _ numbers others (returns-clause-hash g c) (omega (arith, ints)) f h

pub returns-clause-joins : goal.returns-clause-joins
returns-clause-joins g c depth s t side f h =
    subst (AugRootStandsFor g.F.Field.MODULUS _ _ _) (sym (vector_joined depth s t side)) (returns-clause-stands g c _ _ f h)
