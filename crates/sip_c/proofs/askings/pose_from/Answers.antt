use Rattle.std.proofs.Common.{Err, sym, subst}
use Rattle.sip_c.specs.Posing.{PosesFrom}
use Rattle.sip_c.specs.declared.kept.Kept.{Kept}
use Rattle.sip_c.proofs.Posed.{placed}
use Rattle.sip_c.proofs.askings.pose_from.Goals as goal

pub returns-in-Ok-clause-poses : goal.returns-in-Ok-clause-poses
returns-in-Ok-clause-poses c =
    let r = c.begin.result in
    let new = c.begin.new.self.spot.held in
    subst (λ (k : Kept). PosesFrom c.args.codes.now c.args.told.now c.pose.new.told k r new) (sym c.in-Sketch.is)
    (placed c.args.codes.now c.args.told.now c.pose.new.told c.in-Sketch.sketch c.in-Ok.machine r new
    c.in-Ok.ensures.asked c.in-Ok.ensures.some c.in-Ok.ensures.unwritten c.begin.ensures.given c.begin.ensures.none c.begin.ensures.why)

pub returns-in-Err-clause-poses : goal.returns-in-Err-clause-poses
returns-in-Err-clause-poses c =
    subst (λ (k : Kept). PosesFrom c.args.codes.now c.args.told.now c.pose.new.told k (Err c.in-Err.why) c.args.handle.now.spot.held) (sym c.in-Sketch.is)
    (c.requires, c.in-Err.ensures.why)
