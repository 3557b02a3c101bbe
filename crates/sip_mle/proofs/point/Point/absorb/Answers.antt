-- The new value by the clauses of the calls, and from it what the point stands for.
use Rattle.std.proofs.Common.{◌<◌, sym, subst, arith}
use Rattle.sip_mle.specs.StandsFor.{PointStandsFor}
use Rattle.sip_mle.proofs.Weighing.{points_stand}
use Rattle.sip_vector.proofs.Lines.{vector_joined}
use Rattle.sip_mle.proofs.point.Point.absorb.Goals as goal

pub returns-clause-value : goal.returns-clause-value
returns-clause-value g c = rw (c.number-self.ensures, c.plus.ensures, c.of_number.ensures, c.of_number-more.ensures)

pub returns-clause-stands : goal.returns-clause-stands
returns-clause-stands g c numbers others f h =
    let some : 0 < g.F.Field.MODULUS = omega (arith, g.met.F.Field.at_least) in
    points_stand _ _ _ _ _ _ numbers others some c.requires (returns-clause-value g c) f h

pub returns-clause-joins : goal.returns-clause-joins
returns-clause-joins g c depth s t side f h =
    subst (PointStandsFor g.F.Field.MODULUS _ _) (sym (vector_joined depth s t side)) (returns-clause-stands g c _ _ f h)
