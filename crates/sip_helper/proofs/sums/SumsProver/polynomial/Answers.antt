-- The coefficients are elements of the field.
use Rattle.sip_helper.proofs.SumReplies.{element_of, polynomial_has_room}
use Rattle.sip_helper.proofs.sums.SumsProver.polynomial.Goals as goal

pub returns-clause-fits : goal.returns-clause-fits
returns-clause-fits c = λ version.
    polynomial_has_room version c.number.result c.number-2.result c.number-3.result
    (element_of c.number.result c.poly.result.c0 c.number.ensures) (element_of c.number-2.result c.poly.result.c1 c.number-2.ensures) (element_of c.number-3.result c.poly.result.c2 c.number-3.ensures)
