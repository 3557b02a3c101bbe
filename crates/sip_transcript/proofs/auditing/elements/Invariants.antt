-- The challenges so far.
use Rattle.std.proofs.Common.{◌≡◌, take}
use Rattle.std.specs.Prelude.{map}
use Rattle.arrayvec.specs.ArrayVec.{array_vec_len}
use Rattle.sip_field.specs.Elements.{m61_number}
use Rattle.sip_transcript.proofs.auditing.elements.Given as goal

abbrev pub invariant-loop-challenge : goal.invariant-loop-challenge
invariant-loop-challenge l = record {
  put : map m61_number l.elements.items ≡ take l.challenge-index l.challenges;
  len : array_vec_len l.elements ≡ l.challenge-index;
}
