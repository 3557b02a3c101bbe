-- Each extension is the sum of two, and so that of both streams.
use Rattle.std.proofs.Common.{◌<◌, sym, subst, arith}
use Rattle.sip_field.specs.Moduli.{m61_modulus}
use Rattle.sip_mle.specs.StandsFor.{PointStandsFor}
use Rattle.sip_mle.proofs.Weighing.{points_stand}
use Rattle.sip_vector.proofs.Lines.{vector_joined}
use Rattle.sip_verifier.proofs.points.Points.absorb.Goals as goal

pub returns-clause-second_joins : goal.returns-clause-second_joins
returns-clause-second_joins c = λ depth stream more side f h.
    let some : 0 < m61_modulus = omega arith in
    rw c.absorb.ensures.seat (subst (PointStandsFor m61_modulus _ _) (sym (vector_joined depth stream more side)) (points_stand m61_modulus _ _ _ _ _ _ _ some c.requires c.plus-self.ensures f h))
