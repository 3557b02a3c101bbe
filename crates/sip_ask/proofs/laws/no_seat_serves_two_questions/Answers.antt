use Rattle.sip_ask.proofs.Seats.{no-seat-twice}
use Rattle.sip_ask.proofs.laws.no_seat_serves_two_questions.Goals as goal

pub returns : goal.returns
returns c = no-seat-twice
