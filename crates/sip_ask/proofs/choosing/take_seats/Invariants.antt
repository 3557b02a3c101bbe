-- Those that are left decide, behind the places so far.
use Rattle.std.proofs.Common.{◌≡◌, [], drop, length}
use Rattle.sip_ask.specs.Choosing.{seats_for}
use Rattle.sip_ask.proofs.choosing.take_seats.Given as goal

abbrev pub invariant-loop-question : goal.invariant-loop-question
invariant-loop-question l = record {
  few : length l.places.items ≡ l.question-index;
  rest : seats_for l.sketch l.places.items (drop l.question-index l.questions) ≡ seats_for l.sketch [] l.questions;
}
