-- A part of the line went out; what is gathered and the digits of what is left follow it.
use Rattle.std.proofs.Common.{◌≡◌, ◌≤◌, ℕ, List, ◌++◌, length}
use Rattle.arrayvec.specs.ArrayVec.{array_vec_len}
use Rattle.hex.specs.Hex.{encode_lower}
use Rattle.sip_ports.specs.Ports.{GoesOn, Lasts, outs}
use Rattle.sip_transcript.proofs.listing.write_digits.Given as goal

abbrev pub invariant-loop-left : goal.invariant-loop-left
invariant-loop-left g l = record {
  short : array_vec_len l.line ≤ 17;
  sent : (sent : List ℕ) × GoesOn (g.K.Sink.talk l.fn.sink) (g.K.Sink.talk l.sink) (outs sent)
      × ((sent ++ l.line.items) ++ encode_lower l.left ≡ l.fn.gathered.items ++ encode_lower l.fn.body);
  lasts : Lasts g.K.Sink.faults g.K.Sink.wants g.K.Sink.is_sure l.fn.sink l.sink;
}

abbrev pub decreases-loop-left : goal.decreases-loop-left
decreases-loop-left g l = length l.left
