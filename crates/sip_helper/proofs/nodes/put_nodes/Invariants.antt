-- The frames in front of those of the nodes that are left were sent.
use Rattle.std.proofs.Common.{length, map}
use Rattle.sip_ports.specs.Ports.{Lasts}
use Rattle.sip_heavy.specs.Honest.{its_nodes}
use Rattle.sip_heavy.specs.Spots.{from_on}
use Rattle.sip_helper.proofs.Frames.{Partly}
use Rattle.sip_helper.proofs.ShownFrames.{itself, nodes}
use Rattle.sip_helper.proofs.nodes.put_nodes.Given as goal

abbrev pub invariant-loop-version : goal.invariant-loop-version
invariant-loop-version g l = record {
  partly : Partly nodes 256 l.version (g.K.Sink.talk l.initial.out) (g.K.Sink.talk l.out) (its_nodes l.prover) (map itself (from_on l.next (its_nodes l.prover)));
  lasts : Lasts g.K.Sink.faults g.K.Sink.wants g.K.Sink.is_sure l.initial.out l.out;
}

abbrev pub decreases-loop-version : goal.decreases-loop-version
decreases-loop-version g l = length (map itself (from_on l.next (its_nodes l.prover)))
