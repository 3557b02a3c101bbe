-- The new hash by the clauses of the calls, and from it what the root stands for.
use Rattle.std.proofs.Common.{◌≡◌, ◌<◌, ℤ, ◌+ℤ◌, FitsSigned, w64, to_z, of_z, arith}
use Rattle.std.proofs.lemmas.Int.{ints, to_z-of_z, fits_signed_from_abs}
use Rattle.sip_tree.proofs.StandsLemmas.{augroot_stands}
use Rattle.sip_tree.proofs.augmented.AugRoot.update.Goals as goal

pub returns-clause-hash : goal.returns-clause-hash
returns-clause-hash g c =
    let kept : to_z w64 (of_z w64 c.args.delta) ≡ c.args.delta = to_z-of_z w64 c.args.delta c.ranges.delta in
    rw (c.number-self.ensures, c.raised.ensures, c.of_number.ensures, kept)

pub returns-clause-stands : goal.returns-clause-stands
returns-clause-stands g c numbers stands =
    let some : 0 < g.F.Field.MODULUS = omega (arith, g.met.F.Field.at_least) in
    augroot_stands _ _ _ _ some c.requires.index _ _ _ _ numbers (returns-clause-hash g c) (omega (arith, ints)) stands

pub returns-clause-total : goal.returns-clause-total
returns-clause-total g c =
    let t : ℤ = c.args.self.now.total in
    let fits : FitsSigned w64 t = fits_signed_from_abs w64 t (omega (arith, c.args.self.now.within)) in
    let sum : FitsSigned w64 (t +ℤ c.args.delta) = fits_signed_from_abs w64 (t +ℤ c.args.delta) (omega (arith, c.requires.weight)) in
    let kept : to_z w64 (of_z w64 c.args.delta) ≡ c.args.delta = to_z-of_z w64 c.args.delta c.ranges.delta in
    rw (to_z-of_z w64 t fits, kept) (to_z-of_z w64 (t +ℤ c.args.delta) sum)
