-- The term of an update by the clauses of the calls.
use Rattle.std.proofs.Common.{◌≡◌, ◌<◌, w64, to_z, of_z, ◌∙◌, arith}
use Rattle.std.proofs.Math.Nat.{mod-eq_of_lt, mod-add-mod, add-mod-mod}
use Rattle.std.proofs.lemmas.Int.{to_z-of_z}
use Rattle.sip_tree.proofs.augmented.raised.Goals as goal

pub returns : goal.returns
returns g c =
    let kept : to_z w64 (of_z w64 c.args.delta) ≡ c.args.delta = to_z-of_z w64 c.args.delta c.ranges.delta in
    let above : 1 < g.F.Field.MODULUS = omega (arith, g.met.F.Field.at_least) in
    let one : g.F.Field.number c.of.result ≡ 1 = c.of.ensures ∙ mod-eq_of_lt above in
    rw (c.plus.ensures, c.times.ensures, c.of_signed.ensures, c.hash_weighted-weight.ensures, one, kept) (simp (mod-add-mod, add-mod-mod))
