-- No seat is for heavy hitters.
use Rattle.std.proofs.Common.{refl}
use Rattle.sip_protocol_tests.proofs.NoHeavySeats.{no_heavy_seat}
use Rattle.sip_protocol_tests.proofs.sub_vector_tests.seats.Goals as goal

pub update_all-requires-clause-room : goal.update_all-requires-clause-room
update_all-requires-clause-room c = λ side k d lt heavy. absurd
    (no_heavy_seat _ _ _ _ _ c.given-seats.ensures refl side k d lt heavy)
