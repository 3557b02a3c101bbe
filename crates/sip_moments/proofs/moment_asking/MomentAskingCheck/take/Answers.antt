-- The coefficients of a power that has a spelling are elements of the field.
use Rattle.std.proofs.Common.{◌<◌, ℕ, List, All, sym, subst}
use Rattle.std.specs.Prelude.{IsTrue}
use Rattle.sip_field.specs.Moduli.{m61_modulus}
use Rattle.sip_wire.specs.declared.message.Message.{Message}
use Rattle.sip_wire.specs.Spelling.{fits}
use Rattle.sip_moments.proofs.PowerFrames.{power_below}
use Rattle.sip_moments.proofs.moment_asking.MomentAskingCheck.take.Goals as goal

pub take_power-requires-clause-elements : goal.take_power-requires-clause-elements
take_power-requires-clause-elements c =
    subst (λ (l : List ℕ). All (λ n. n < m61_modulus) l) (sym c.deref.ensures.0)
    (power_below c.requires.fits.0 c.in-Power.coefficients
    (subst (λ (m : Message). IsTrue (fits c.requires.fits.0 m)) c.in-Power.is c.requires.fits.1))
