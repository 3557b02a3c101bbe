-- Bytes came or the other end closed: the talk is under way still, or has ended.
use Rattle.std.proofs.Common.{subst, sym}
use Rattle.sip_steps.specs.Served.{HasBegun}
use Rattle.sip_steps.specs.declared.serving.Serving.{Serving}
use Rattle.sip_pieces.proofs.helping.help.Goals as goal
use Rattle.sip_pieces.proofs.helping.help.Goals.{in-Ok-true, in-Ok-false}

pub loop-piece-preserved : goal.loop-piece-preserved
loop-piece-preserved g c =
    let Begun : Serving g.row.H.Denot → Type 0 = λ s. HasBegun g.H.Helps.rules g.H.Helps.turns_left g.H.Helps.is_live s in
    elim c.if-fill.branch [
      | in-Ok-true w ↦ subst Begun (sym w.serving-is) w.close.ensures.begun
      | in-Ok-false w ↦ subst Begun (sym w.serving-is) w.feed-count.ensures.begun
    ]
