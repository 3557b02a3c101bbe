-- Enough for the questions so far.
use Rattle.std.proofs.Common.{◌≤◌, take}
use Rattle.std.specs.Prelude.{All}
use Rattle.sip_questions.specs.Sittings.{nodes_at, places_at}
use Rattle.sip_questions.proofs.asker.rooms.Given as goal

abbrev pub invariant-loop-seat : goal.invariant-loop-seat
invariant-loop-seat l = record {
  places : All (λ s. places_at s ≤ l.places) (take l.seat-index l.seats);
  nodes : All (λ s. nodes_at s ≤ l.nodes) (take l.seat-index l.seats);
}
