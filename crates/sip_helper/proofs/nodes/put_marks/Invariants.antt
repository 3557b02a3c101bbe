-- The frames in front of those of the marks that are left were sent.
use Rattle.std.proofs.Common.{length, map}
use Rattle.sip_ports.specs.Ports.{Lasts}
use Rattle.sip_field.specs.Moduli.{m61_modulus}
use Rattle.sip_heavy.specs.Honest.{its_nodes, mark_of}
use Rattle.sip_heavy.specs.Spots.{from_on}
use Rattle.sip_helper.proofs.Frames.{Partly}
use Rattle.sip_helper.proofs.ShownFrames.{marks}
use Rattle.sip_helper.proofs.nodes.put_marks.Given as goal

abbrev pub invariant-loop-version : goal.invariant-loop-version
invariant-loop-version g l = record {
  partly : Partly marks 256 l.version (g.K.Sink.talk l.initial.out) (g.K.Sink.talk l.out) (map (mark_of m61_modulus) (its_nodes l.prover)) (map (mark_of m61_modulus) (from_on l.next (its_nodes l.prover)));
  lasts : Lasts g.K.Sink.faults g.K.Sink.wants g.K.Sink.is_sure l.initial.out l.out;
}

abbrev pub decreases-loop-version : goal.decreases-loop-version
decreases-loop-version g l = length (map (mark_of m61_modulus) (from_on l.next (its_nodes l.prover)))
