-- The frames in front of those of the entries that are left were sent.
use Rattle.std.proofs.Common.{length}
use Rattle.sip_ports.specs.Ports.{Lasts}
use Rattle.sip_vector.specs.Vectors.{nonzero_within}
use Rattle.sip_helper.proofs.EntryFrames.{Partly}
use Rattle.sip_helper.proofs.entries.put_entries.Given as goal

abbrev pub invariant-loop-version : goal.invariant-loop-version
invariant-loop-version g l = record {
  partly : Partly l.version (g.K.Sink.talk l.initial.out) (g.K.Sink.talk l.out) (nonzero_within l.lo l.hi l.vector.numbers) (nonzero_within l.next l.hi l.vector.numbers);
  lasts : Lasts g.K.Sink.faults g.K.Sink.wants g.K.Sink.is_sure l.initial.out l.out;
}

abbrev pub decreases-loop-version : goal.decreases-loop-version
decreases-loop-version g l = length (nonzero_within l.next l.hi l.vector.numbers)
