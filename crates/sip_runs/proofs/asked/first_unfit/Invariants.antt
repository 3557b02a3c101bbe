-- All questions so far can be asked.
use Rattle.std.proofs.Common.{All, take}
use Rattle.sip_questions.specs.Promises.{CanPose}
use Rattle.sip_runs.proofs.asked.first_unfit.Given as goal

abbrev pub invariant-loop-index : goal.invariant-loop-index
invariant-loop-index l = All (CanPose l.version l.depth) (take l.index l.questions)
