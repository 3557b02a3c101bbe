-- So many records were read, and so many are left to be read.
use Rattle.std.proofs.Common.{◌≡◌, ◌+◌, ◌<◌, List, length}
use Rattle.sip_ports.specs.Ports.{Lasts}
use Rattle.sip_vector.specs.declared.update.Update.{Update}
use Rattle.sip_questions.specs.inside.StoreHearing.{Takes}
use Rattle.sip_questions.proofs.weighing.read_front.Given as goal

abbrev pub invariant-loop-left : goal.invariant-loop-left
invariant-loop-left g l = record {
  took : (us : List Update) × (length us + l.left ≡ l.fn.count) × Takes l.fn.reader l.reader (g.B.Source.left l.fn.again) (g.B.Source.left l.again) us;
  room : 0 < length l.block;
  again : Lasts g.B.Source.faults g.B.Source.wants g.B.Source.is_sure l.fn.again l.again;
}

abbrev pub decreases-loop-left : goal.decreases-loop-left
decreases-loop-left g l = l.left
