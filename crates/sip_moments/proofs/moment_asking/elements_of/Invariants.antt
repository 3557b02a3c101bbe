use Rattle.std.proofs.Common.{◌≡◌, ◌++◌, drop, map}
use Rattle.sip_field.specs.Elements.{m61_number}
use Rattle.sip_moments.proofs.moment_asking.elements_of.Given as goal

-- the elements so far are the first coefficients
abbrev pub invariant-loop-coefficient : goal.invariant-loop-coefficient
invariant-loop-coefficient l =
    map m61_number l.poly.items ++ drop l.coefficient-index l.coefficients ≡ l.coefficients
