-- The top of the split tree, computed.
use Rattle.std.proofs.Common.{refl}
use Rattle.sip_sketch.proofs.examples.a_large_seat_by_hand.Goals as goal

pub returns : goal.returns
returns c = record { whole = refl; weighed = refl; same = refl }
