use Rattle.std.proofs.Common.{sym, ◌∙◌}
use Rattle.sip_vector.specs.Levels.{residue_above}
use Rattle.sip_vector.proofs.SpotsAbove.{one_above}
use Rattle.sip_vector.proofs.level.spot_above.Goals as goal

pub returns-clause-above : goal.returns-clause-above
returns-clause-above g c =
    let join = residue_above g.F.Field.MODULUS c.args.rule (g.F.Field.number c.args.r) in
    one_above g.F.Field.number join c.args.spots.now c.index-spots-0.result _ c.requires c.index-spots-0.is (sym c.begins_with_pair.ensures.same ∙ c.if-begins_with_pair.false) (c.above-value-2.ensures ∙ c.with_zero-left.ensures join)
