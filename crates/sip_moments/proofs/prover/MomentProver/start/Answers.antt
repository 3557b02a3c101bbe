use Rattle.std.proofs.Common.{ℕ, ◌%◌, ◌^◌, w64, map, sum_by, sym, ap, ◌∙◌, arith}
use Rattle.std.proofs.lemmas.Int.{fits_signed_from_abs, to_z-of_z}
use Rattle.sip_field.specs.Residue.{residue}
use Rattle.sip_moments.proofs.LevelPowers.{powers-sum}
use Rattle.sip_moments.proofs.Residues.{residue_of_moment}
use Rattle.sip_moments.proofs.prover.MomentProver.start.Goals as goal

pub refill-requires-clause-sum : goal.refill-requires-clause-sum
refill-requires-clause-sum g c left =
    let p : ℕ = g.F.Field.MODULUS in
    let k : ℕ = c.args.degree in
    let numbers = c.args.vector.now.numbers in
    let claim = c.in_ok-claim.claim in
    c.of_signed.ensures ∙ ap (residue p) (to_z-of_z w64 claim (fits_signed_from_abs w64 claim (omega (arith, c.in_ok-claim.ensures.fits))) ∙ c.in_ok-claim.ensures.moment)
    ∙ residue_of_moment p k numbers (omega (arith, g.met.F.Field.at_least))
    ∙ ap (λ n. n % p) (powers-sum k (map (residue p) numbers)) ∙ ap (λ l. sum_by (λ x. x ^ k) l % p) (sym c.in_ok-level.ensures.residues)
