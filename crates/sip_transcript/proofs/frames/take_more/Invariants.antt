-- What came stands behind what was there.
use Rattle.std.proofs.Common.{◌≡◌, ◌-◌, ◌≤◌, ℕ, List, ◌++◌, length}
use Rattle.std.specs.Io.KnownBytes.{Consumes}
use Rattle.sip_ports.specs.Ports.{Lasts}
use Rattle.sip_transcript.proofs.frames.take_more.Given as goal

abbrev pub invariant-loop-source : goal.invariant-loop-source
invariant-loop-source g l = record {
  within : length l.frame.items ≤ l.upto;
  came : (more : List ℕ) × (l.frame.items ≡ l.initial.frame.items ++ more) × Consumes (g.S.Source.left l.initial.source) (g.S.Source.left l.source) more;
  lasts : Lasts g.S.Source.faults g.S.Source.wants g.S.Source.is_sure l.initial.source l.source;
}

abbrev pub decreases-loop-source : goal.decreases-loop-source
decreases-loop-source g l = l.upto - length l.frame.items
