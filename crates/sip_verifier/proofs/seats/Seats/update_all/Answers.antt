-- The updates of one side and then those of the other lead to the same vectors.
use Rattle.std.proofs.Common.{◌++◌}
use Rattle.sip_vector.specs.declared.update.Side.TheVariants.{First, Second}
use Rattle.sip_vector.specs.Streams.{of_side}
use Rattle.sip_verifier.proofs.SeatsRaised.{room-left, same_seats}
use Rattle.sip_verifier.proofs.Seating.{split_same}
use Rattle.sip_verifier.proofs.seats.Seats.update_all.Goals as goal

pub returns-clause-stands : goal.returns-clause-stands
returns-clause-stands c = λ depth queries blocks stream are.
    let updates = c.args.updates.now in
    let one = c.raise_side.ensures.stands depth queries blocks stream are in
    let other = c.raise_side-2.ensures.stands depth queries blocks (stream ++ of_side updates First) one in
    same_seats depth queries blocks _ (stream ++ updates) _ (split_same depth stream updates) other

pub raise_side-requires-2-clause-room : goal.raise_side-requires-2-clause-room
raise_side-requires-2-clause-room c = room-left c.args.updates.now _ _ c.raise_side.ensures.others (c.requires.room Second)
