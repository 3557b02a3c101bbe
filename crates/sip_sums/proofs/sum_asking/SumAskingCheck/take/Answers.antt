-- The coefficients of a polynomial that has a spelling are elements of the field.
use Rattle.std.proofs.Common.{subst}
use Rattle.std.specs.Prelude.{IsTrue}
use Rattle.sip_wire.specs.declared.message.Message.{Message}
use Rattle.sip_wire.specs.Spelling.{fits}
use Rattle.sip_sums.proofs.ReadFrames.{poly_below}
use Rattle.sip_sums.proofs.sum_asking.SumAskingCheck.take.Goals as goal

pub of_number-requires : goal.of_number-requires
of_number-requires c =
    (poly_below c.requires.fits.0 c.in-Poly.c0 c.in-Poly.c1 c.in-Poly.c2
    (subst (λ (m : Message). IsTrue (fits c.requires.fits.0 m)) c.in-Poly.is c.requires.fits.1)).0

pub of_number-requires-in-Poly : goal.of_number-requires-in-Poly
of_number-requires-in-Poly c =
    (poly_below c.requires.fits.0 c.in-Poly.c0 c.in-Poly.c1 c.in-Poly.c2
    (subst (λ (m : Message). IsTrue (fits c.requires.fits.0 m)) c.in-Poly.is c.requires.fits.1)).1

pub of_number-requires-in-Poly-2 : goal.of_number-requires-in-Poly-2
of_number-requires-in-Poly-2 c =
    (poly_below c.requires.fits.0 c.in-Poly.c0 c.in-Poly.c1 c.in-Poly.c2
    (subst (λ (m : Message). IsTrue (fits c.requires.fits.0 m)) c.in-Poly.is c.requires.fits.1)).2
