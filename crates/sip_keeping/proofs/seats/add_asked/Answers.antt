use Rattle.std.proofs.Common.{sym, ◌∙◌, arith}
use Rattle.sip_keeping.proofs.SeatWords.{seats_once}
use Rattle.sip_keeping.proofs.seats.add_asked.Goals as goal
use Rattle.sip_keeping.proofs.seats.add_asked.Goals.{then-count-eq0-via-then-count-eq0, then-count-eq0-via-else-count-eq0+then-count-room}

pub returns-then-count-eq0-clause-none : goal.returns-then-count-eq0-clause-none
returns-then-count-eq0-clause-none c = λ _ kind count least room also.
    let one = seats_once c.in-Some.kind kind c.in-Some.count count c.in-Some.ensures.0 (omega arith) (sym c.in-Some.ensures.1 ∙ also) in
    let same = one.1 in
    elim c.then-count-eq0.branch [
      | then-count-eq0-via-then-count-eq0 w ↦ omega (arith, same, w.if-count-eq0)
      | then-count-eq0-via-else-count-eq0+then-count-room w ↦ omega (arith, same, w.if-count-room, c.len-room.ensures.value)
    ]
