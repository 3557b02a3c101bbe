use Rattle.std.proofs.Common.{take}
use Rattle.std.specs.Prelude.{IsTrue}
use Rattle.sip_verifier.specs.Rooms.{most_nodes, most_places}
use Rattle.sip_verifier.specs.inside.Judging.{are_enough}
use Rattle.sip_verifier.proofs.session.rooms.Given as goal

abbrev pub invariant-loop-seat : goal.invariant-loop-seat
invariant-loop-seat l = record {
  places : IsTrue (are_enough most_places l.places (take l.seat-index l.seats));
  nodes : IsTrue (are_enough most_nodes l.nodes (take l.seat-index l.seats));
}
