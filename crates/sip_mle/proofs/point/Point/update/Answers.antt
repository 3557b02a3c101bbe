-- The new value by the clauses of the calls, and from it what the point stands for.
use Rattle.std.proofs.Common.{◌≡◌, ◌<◌, w64, to_z, of_z, arith}
use Rattle.std.proofs.Math.Nat.{mod-add-mod, add-mod-mod}
use Rattle.std.proofs.lemmas.Int.{to_z-of_z}
use Rattle.sip_mle.proofs.Weighing.{point_stands}
use Rattle.sip_mle.proofs.point.Point.update.Goals as goal

pub returns-clause-value : goal.returns-clause-value
returns-clause-value g c =
    let kept : to_z w64 (of_z w64 c.args.delta) ≡ c.args.delta = to_z-of_z w64 c.args.delta c.ranges.delta in
    rw (c.number-self.ensures, c.plus.ensures, c.of_number.ensures, c.times_chi-term.ensures, c.of_signed.ensures, kept) (simp (mod-add-mod, add-mod-mod))

pub returns-clause-stands : goal.returns-clause-stands
returns-clause-stands g c numbers stands =
    let some : 0 < g.F.Field.MODULUS = omega (arith, g.met.F.Field.at_least) in
    point_stands _ _ _ _ _ c.number-self.result numbers some c.requires (returns-clause-value g c) stands
