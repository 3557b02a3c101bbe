-- The running numbers of no update stand for the stream of none.
use Rattle.std.proofs.Common.{length, ap, ◌∙◌}
use Rattle.sip_verifier.specs.QuerySeats.{Seated}
use Rattle.sip_verifier.specs.Running.{block_of, numbers_of}
use Rattle.sip_verifier.proofs.SeatsGiven.{asked-can}
use Rattle.sip_verifier.proofs.Seating.{seat_from}
use Rattle.sip_verifier.proofs.seat.QuerySeat.begin.Goals as goal

pub returns-clause-stands : goal.returns-clause-stands
returns-clause-stands c = λ depth can size.
    let seat : Seated = record { query = c.args.query; block = block_of c.begin-running.result; running = numbers_of c.begin-running.result } in (
      seat_from depth seat (asked-can depth c.args.query can) (ap length c.begin-running.ensures.block ∙ size) c.begin-running.ensures.keeps,
      (c.begin-running.ensures.runs depth size).runs,
    )
