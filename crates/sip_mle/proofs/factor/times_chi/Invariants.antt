use Rattle.std.proofs.Common.{◌≡◌, ◌*◌, ◌%◌, drop}
use Rattle.sip_vector.specs.Extensions.{chi}
use Rattle.sip_mle.proofs.factor.times_chi.Given as goal

-- the product, times the factor of what is left of the path, is what is wanted
abbrev pub invariant-loop-below : goal.invariant-loop-below
invariant-loop-below g l =
    let p = g.F.Field.MODULUS in
    (g.F.Field.number l.product * chi p l.path (drop l.below l.seat)) % p ≡ (g.F.Field.number l.fn.start * chi p l.index l.seat) % p
