-- The greater of two rooms is enough for the seats so far and for one more.
use Rattle.std.proofs.Common.{◌≤◌, subst, arith}
use Rattle.sip_verifier.specs.QuerySeats.{Seated}
use Rattle.sip_verifier.specs.Rooms.{most_nodes, most_places}
use Rattle.sip_verifier.proofs.RoomForAnswers.{enough-snoc}
use Rattle.sip_verifier.proofs.session.rooms.Goals as goal

pub loop-seat-preserved : goal.loop-seat-preserved
loop-seat-preserved c =
    let inside = c.loop-seat-test.true in
    let places : most_places c.seat-item.result.query c.seat-item.result.running ≤ c.most_places.result = omega (arith, c.most_places.ensures) in
    let nodes : most_nodes c.seat-item.result.query c.seat-item.result.running ≤ c.most_nodes.result = omega (arith, c.most_nodes.ensures) in
    record {
      places = enough-snoc most_places c.loop-seat.places c.most_places.result c.greater-places.result c.loop-seat.seat-index c.args.seats.now c.seat-item.result inside
          c.greater-places.ensures.one c.greater-places.ensures.other c.loop-seat.invariant.places
          (subst (λ (s : Seated). most_places s.query s.running ≤ c.most_places.result) c.seat-item.is places);
      nodes = enough-snoc most_nodes c.loop-seat.nodes c.most_nodes.result c.greater-nodes.result c.loop-seat.seat-index c.args.seats.now c.seat-item.result inside
          c.greater-nodes.ensures.one c.greater-nodes.ensures.other c.loop-seat.invariant.nodes
          (subst (λ (s : Seated). most_nodes s.query s.running ≤ c.most_nodes.result) c.seat-item.is nodes);
    }
