-- The product is one with the count's residue too.
use Rattle.sip_heavy.proofs.Pairs.{half_residue}
use Rattle.sip_heavy.proofs.level.half.Goals as goal

pub returns-clause-residue : goal.returns-clause-residue
returns-clause-residue g c =
    half_residue g.F.Field.MODULUS (g.F.Field.number c.args.r) c.args.hash c.args.count c.loose_times.result (rw c.number.ensures at c.loose_times.ensures.residue)
