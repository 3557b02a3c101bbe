-- So many records were heard, and so many are left to be heard.
use Rattle.std.proofs.Common.{◌≡◌, ◌+◌, ◌<◌, IsSome, List, [], length}
use Rattle.sip_ports.specs.Ports.{Lasts}
use Rattle.sip_stream.specs.Reading.{IsAfter}
use Rattle.sip_vector.specs.declared.update.Update.{Update}
use Rattle.sip_questions.specs.inside.StoreHearing.{HearsOn}
use Rattle.sip_questions.proofs.store_hearing.hear_front.Given as goal

abbrev pub invariant-loop-left : goal.invariant-loop-left
invariant-loop-left g l = record {
  heard : (us : List Update) × (length us + l.left ≡ l.fn.count) × HearsOn l.fn.sizes l.fn.stream l.stream l.fn.reader l.reader (g.A.Source.left l.fn.first) (g.A.Source.left l.first) us;
  unread : IsAfter l.fn.reader [];
  room : 0 < length l.block;
  told : IsSome (g.A.Source.left l.fn.first) → IsSome (g.A.Source.left l.first);
  first : Lasts g.A.Source.faults g.A.Source.wants g.A.Source.is_sure l.fn.first l.first;
}

abbrev pub decreases-loop-left : goal.decreases-loop-left
decreases-loop-left g l = l.left
