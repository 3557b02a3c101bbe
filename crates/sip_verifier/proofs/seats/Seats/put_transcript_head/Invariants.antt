use Rattle.sip_ports.specs.Ports.{GoesOn, Lasts, outs}
use Rattle.sip_verifier.proofs.SeatsHead.{head_up_to, version_of}
use Rattle.sip_verifier.proofs.seats.Seats.put_transcript_head.Given as goal

abbrev pub invariant-loop-seat : goal.invariant-loop-seat
invariant-loop-seat g l = record {
  talk : GoesOn (g.K.Sink.talk l.fn.sink) (g.K.Sink.talk l.sink) (outs (head_up_to (version_of l.fn.self) l.fn.self l.seat-index));
  lasts : Lasts g.K.Sink.faults g.K.Sink.wants g.K.Sink.is_sure l.fn.sink l.sink;
}
