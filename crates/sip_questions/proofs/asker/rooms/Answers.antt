-- The greater of two rooms is enough for the questions so far and for one more.
use Rattle.std.proofs.Common.{◌≤◌, subst, arith}
use Rattle.sip_questions.specs.declared.seat.QuestionSeat.{QuestionSeat}
use Rattle.sip_questions.specs.Sittings.{nodes_at, places_at}
use Rattle.sip_questions.proofs.EnoughRoom.{enough_more}
use Rattle.sip_questions.proofs.asker.rooms.Goals as goal

pub loop-seat-preserved : goal.loop-seat-preserved
loop-seat-preserved c =
    let inside = c.loop-seat-test.true in
    let places : places_at c.seat-item.result ≤ c.places.result = omega (arith, c.places.ensures) in
    let nodes : nodes_at c.seat-item.result ≤ c.nodes.result = omega (arith, c.nodes.ensures) in
    record {
      places = enough_more places_at c.loop-seat.places c.places.result c.greater-places.result c.loop-seat.seat-index c.args.seats.now c.seat-item.result inside
          c.greater-places.ensures.one c.greater-places.ensures.other c.loop-seat.invariant.places
          (subst (λ (s : QuestionSeat). places_at s ≤ c.places.result) c.seat-item.is places);
      nodes = enough_more nodes_at c.loop-seat.nodes c.nodes.result c.greater-nodes.result c.loop-seat.seat-index c.args.seats.now c.seat-item.result inside
          c.greater-nodes.ensures.one c.greater-nodes.ensures.other c.loop-seat.invariant.nodes
          (subst (λ (s : QuestionSeat). nodes_at s ≤ c.nodes.result) c.seat-item.is nodes);
    }
