-- Bytes came or the other end closed: the question is under way still, or has a verdict.
use Rattle.sip_pieces.proofs.asking.exchange.Goals as goal
use Rattle.sip_pieces.proofs.asking.exchange.Goals.{in-Ok-true, in-Ok-false}

pub loop-piece-preserved : goal.loop-piece-preserved
loop-piece-preserved g c =
    elim c.if-fill.branch [
      | in-Ok-true w ↦ rw w.asking-is w.close.ensures.begun
      | in-Ok-false w ↦ rw w.asking-is w.feed-count.ensures.begun
    ]
