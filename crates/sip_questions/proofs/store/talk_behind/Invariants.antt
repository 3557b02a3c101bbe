-- The talk goes on, and each turn leaves fewer.
use Rattle.std.proofs.Common.{◌≡◌, ◌+◌, ◌*◌, ◌≤◌, false, List}
use Rattle.std.specs.Prelude.{IsTrue, not}
use Rattle.sip_ports.specs.Ports.{Lasts}
use Rattle.sip_vector.specs.declared.update.Update.{Update}
use Rattle.sip_wire.specs.Table.{longest_frame}
use Rattle.sip_helper.specs.inside.Measures.{most_turns}
use Rattle.sip_questions.specs.StoreFronts.{Recalls}
use Rattle.sip_questions.specs.inside.Keeping.{questions_left}
use Rattle.sip_questions.specs.inside.StoreTurns.{GoesBehind, IsBehind}
use Rattle.sip_questions.proofs.store.talk_behind.Given as goal

abbrev pub invariant-loop-fault : goal.invariant-loop-fault
invariant-loop-fault g l = record {
  goes : (r : Recalls) (us : List Update) → IsBehind r us l.fn.asked l.fn.told l.fn.core → GoesBehind r us l.fn.form (g.B.Source.left l.fn.again) (g.B.Source.left l.again) l.fn.core l.fn.asked.received (g.L.Sink.talk l.fn.link) (g.L.Sink.talk l.link) l.tried l.core l.offset;
  room : l.offset + longest_frame * questions_left l.core ≤ l.fn.asked.received + longest_frame * most_turns;
  live : IsTrue (not l.core.helper.spent);
  going : l.core.helper.done ≡ false;
  again : Lasts g.B.Source.faults g.B.Source.wants g.B.Source.is_sure l.fn.again l.again;
  lasts : Lasts g.L.Sink.faults g.L.Sink.wants g.L.Sink.is_sure l.fn.link l.link;
}

abbrev pub decreases-loop-fault : goal.decreases-loop-fault
decreases-loop-fault g l = questions_left l.core
