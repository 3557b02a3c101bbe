-- A share that a query has is above 0.
use Rattle.std.proofs.Common.{ℕ, ◌≤◌, w64, to_z, of_z, sym, subst, arith}
use Rattle.sip_vector.specs.declared.update.Side.{Side}
use Rattle.sip_vector.specs.Answers.{Fits}
use Rattle.sip_helper.specs.declared.hitters.Least.{Least}
use Rattle.sip_helper.specs.Hitters.{heavy_query}
use Rattle.sip_helper.proofs.HitterReplies.{share_some}
use Rattle.sip_helper.proofs.hitters.Least.threshold.Goals as goal

pub returns-in-Share-clause-some : goal.returns-in-Share-clause-some
returns-in-Share-clause-some c =
    let fits = subst (λ (l : Least). (depth : ℕ) × (side : Side) × Fits depth (heavy_query side l)) c.in-Share.is c.requires.fits in
    subst (λ (n : ℕ). 1 ≤ n) (sym c.share_of.ensures) (share_some c.in-Share.num c.in-Share.den (to_z w64 (of_z w64 c.args.total)) fits.2.0 (omega (arith, fits.2.0, fits.2.1)))
