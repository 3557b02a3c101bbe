-- The coefficients so far are the first ones of the polynomial.
use Rattle.std.proofs.Common.{◌≡◌, map}
use Rattle.std.specs.List.{range_with_len}
use Rattle.sip_field.specs.Moduli.{m61_modulus}
use Rattle.sip_moments.specs.Honest.{its_coefficient}
use Rattle.sip_moments.proofs.under_way.polynomial_of.Given as goal

abbrev pub invariant-loop-place : goal.invariant-loop-place
invariant-loop-place l = l.coefficients.items
    ≡ map (its_coefficient m61_modulus l.prover) (range_with_len 0 l.place)
