use Rattle.std.proofs.Common.{◌≡◌, ◌%◌, ◌++◌, map, length, drop}
use Rattle.sip_field.specs.Polynomial.{polynomial}
use Rattle.sip_field.proofs.polynomial.horner.Given as goal

-- the iterator has the lower coefficients left, and the value is that of the polynomial of the
-- upper ones
abbrev pub invariant-loop-coefficient : goal.invariant-loop-coefficient
invariant-loop-coefficient g l =
    let lower = l.coefficient-iterator.iter.rest.now in
    let upper = drop (length lower) l.coefficients in
    record {
      all : lower ++ upper ≡ l.coefficients;
      value : g.F.Field.number l.value ≡ polynomial (g.F.Field.number l.x) (map g.F.Field.number upper) % g.F.Field.MODULUS;
    }
