-- The seats have the queries that the version is that of, and no seat is for heavy hitters.
use Rattle.std.proofs.Common.{[], refl, rules}
use Rattle.sip_protocol_tests.proofs.NoHeavySeats.{no_heavy_seat}
use Rattle.sip_protocol_tests.proofs.Speaking.{seats_speak}
use Rattle.sip_protocol_tests.proofs.duel_liar_tests.session.Goals as goal

pub new-requires-2 : goal.new-requires-2
new-requires-2 c = seats_speak c.in_ok-depth.depth _ _ _ _ _ (search rules) c.needed-version.ensures (c.update_all.ensures.stands _ _ _ [] c.given-seats.ensures)

pub update_all-requires-clause-room : goal.update_all-requires-clause-room
update_all-requires-clause-room c = λ side k d lt heavy. absurd
    (no_heavy_seat _ _ _ _ _ c.given-seats.ensures refl side k d lt heavy)
