-- The queries so far were accepted and their lines written, and the asker has the rest to ask.
use Rattle.std.proofs.Common.{◌≡◌, ◌≤◌, List, length, drop, false}
use Rattle.sip_ports.specs.Ports.{Lasts}
use Rattle.sip_vector.specs.declared.update.Update.{Update}
use Rattle.sip_verifier.specs.Keeping.{WholeIsKept}
use Rattle.sip_verifier.specs.runs.Askers.{blocks_in, queries_in}
use Rattle.sip_verifier.specs.runs.Progress.{PassedBy}
use Rattle.sip_verifier.proofs.concluding.conclude_run.Given as goal

abbrev pub invariant-loop-asked : goal.invariant-loop-asked
invariant-loop-asked g l = record {
  version : (g.Q.Asker.remaining l.asker).version ≡ (g.Q.Asker.remaining l.fn.asker).version;
  depth : (g.Q.Asker.remaining l.asker).depth ≡ (g.Q.Asker.remaining l.fn.asker).depth;
  left : (g.Q.Asker.remaining l.asker).left ≡ drop l.asked (g.Q.Asker.remaining l.fn.asker).left;
  live : (g.Q.Asker.remaining l.asker).spent ≡ false;
  within : l.asked ≤ length (g.Q.Asker.remaining l.fn.asker).left;
  stands : (stream : List Update) → g.Q.Asker.stands stream l.fn.asker → g.Q.Asker.stands stream l.asker;
  passed : (stream : List Update) → g.Q.Asker.stands stream l.fn.asker
      → PassedBy (g.Q.Asker.asking (g.Q.Asker.remaining l.fn.asker).version (g.Q.Asker.remaining l.fn.asker).depth stream) (queries_in (g.Q.Asker.remaining l.fn.asker).left) (blocks_in (g.Q.Asker.remaining l.fn.asker).left)
      (g.L.Sink.talk l.fn.peer) (g.L.Sink.talk l.peer) (g.K.Sink.talk l.fn.report) (g.K.Sink.talk l.report) l.asked;
  peer : Lasts g.L.Sink.faults g.L.Sink.wants g.L.Sink.is_sure l.fn.peer l.peer;
  report : Lasts g.K.Sink.faults g.K.Sink.wants g.K.Sink.is_sure l.fn.report l.report;
  keep : Lasts g.C.Sink.faults g.C.Sink.wants g.C.Sink.is_sure l.fn.keep l.keep;
  kept : WholeIsKept (g.L.Sink.talk l.fn.peer) (g.L.Sink.talk l.peer) (g.C.Sink.talk l.fn.keep) (g.C.Sink.talk l.keep) (g.Q.Asker.remaining l.fn.asker).version;
}
