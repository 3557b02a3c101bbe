use Rattle.std.proofs.Common.{◌≡◌, ◌+◌, ◌%◌, drop, map, sum}
use Rattle.sip_counts.specs.Rounds.{sum_of_ends}
use Rattle.sip_moments.proofs.powers.sum_of_ends.Given as goal

-- with the coefficients that are left the sum is that of the values at 0 and 1
abbrev pub invariant-loop-coefficient : goal.invariant-loop-coefficient
invariant-loop-coefficient g l =
    (g.F.Field.number l.sum + sum (map g.F.Field.number (drop l.coefficient-index l.poly))) % g.F.Field.MODULUS
    ≡ sum_of_ends g.F.Field.MODULUS (map g.F.Field.number l.poly)
