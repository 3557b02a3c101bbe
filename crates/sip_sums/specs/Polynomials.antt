-- The coefficients of a round polynomial, as numbers.
use Rattle.std.specs.Prelude.{ℕ}
use Rattle.sip_sums.specs.declared.polynomial.Poly.{Poly}
use Rattle.sip_sums.specs.AcceptsSum.{Coefficients}

-- where `number` gives the residue of a value
abbrev pub coefficients_of : {F : Type 0} → (F → ℕ) → Poly F → Coefficients
coefficients_of number poly =
    record { c0 = number poly.c0; c1 = number poly.c1; c2 = number poly.c2 }
