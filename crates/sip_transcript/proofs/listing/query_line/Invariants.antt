-- What stands before the challenges, and the challenges so far.
use Rattle.std.proofs.Common.{◌≡◌, ◌+◌, ◌*◌, ◌≤◌, ◌++◌, take}
use Rattle.std.specs.List.{flat_map}
use Rattle.arrayvec.specs.ArrayVec.{array_vec_len}
use Rattle.sip_transcript.specs.Listings.{challenge_text}
use Rattle.sip_transcript.proofs.listing.query_line.Given as goal

abbrev pub invariant-loop-challenge : goal.invariant-loop-challenge
invariant-loop-challenge l = record {
  put : l.line.items ≡ l.initial.line.items ++ flat_map challenge_text (take l.challenge-index l.block);
  len : array_vec_len l.line ≤ 98 + 17 * l.challenge-index;
}
