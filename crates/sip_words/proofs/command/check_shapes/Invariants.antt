use Rattle.sip_words.specs.inside.Progress.{HaveShapes}
use Rattle.sip_words.proofs.command.check_shapes.Given as goal

abbrev pub invariant-loop-index : goal.invariant-loop-index
invariant-loop-index l = HaveShapes l.shapes l.words l.index
