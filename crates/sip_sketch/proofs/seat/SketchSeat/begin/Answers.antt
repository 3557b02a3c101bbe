-- The numbers of no update stand for the stream of none.
use Rattle.std.proofs.Common.{false, []}
use Rattle.sip_sketch.proofs.Kept.{first_below}
use Rattle.sip_sketch.proofs.Raised.{begun_told, stands_from}
use Rattle.sip_sketch.proofs.seat.SketchSeat.begin.Goals as goal

pub returns-clause-first : goal.returns-clause-first
returns-clause-first c = first_below c.begun-running.result

pub returns-clause-second : goal.returns-clause-second
returns-clause-second c = begun_told c.args.kind c.begun-running.result (c.begun-running.ensures.keeps, c.begun-running.ensures.unweighed) c.begun-running.ensures.starts

pub returns-clause-stands : goal.returns-clause-stands
returns-clause-stands c = λ depth size.
    stands_from c.args.kind false c.begun-running.result depth [] (c.begun-running.ensures.keeps, c.begun-running.ensures.unweighed) (c.begun-running.ensures.runs depth size)
