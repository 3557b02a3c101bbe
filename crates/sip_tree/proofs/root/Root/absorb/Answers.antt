-- The new value by the clauses of the calls, and from it what the root stands for.
use Rattle.std.proofs.Common.{◌<◌, sym, subst, arith}
use Rattle.sip_tree.specs.StandsFor.{RootStandsFor}
use Rattle.sip_tree.proofs.StandsLemmas.{roots_stand}
use Rattle.sip_vector.proofs.Lines.{vector_joined}
use Rattle.sip_tree.proofs.root.Root.absorb.Goals as goal

pub returns-clause-value : goal.returns-clause-value
returns-clause-value g c = rw (c.number-self.ensures, c.plus.ensures, c.of_number.ensures, c.of_number-more.ensures)

pub returns-clause-stands : goal.returns-clause-stands
returns-clause-stands g c numbers others f h =
    let some : 0 < g.F.Field.MODULUS = omega (arith, g.met.F.Field.at_least) in
    roots_stand _ _ _ some c.requires _ _ _ numbers others (returns-clause-value g c) f h

pub returns-clause-joins : goal.returns-clause-joins
returns-clause-joins g c depth s t side f h =
    subst (RootStandsFor g.F.Field.MODULUS _ _) (sym (vector_joined depth s t side)) (returns-clause-stands g c _ _ f h)
