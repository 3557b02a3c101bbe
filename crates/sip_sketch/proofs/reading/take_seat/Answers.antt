-- The fields of a seat, one behind the other.
use Rattle.std.proofs.Common.{ap₂, ◌∙◌}
use Rattle.std.proofs.lemmas.Result.{err_from_is_err_and}
use Rattle.sip_sketch.specs.Sketches.{second_of}
use Rattle.sip_sketch.proofs.Fronts.{seat_block, seat_fails, seat_used, seat_whole}
use Rattle.sip_sketch.proofs.SeatFields.{after_kind, after_used, after_block, after_first}
use Rattle.sip_sketch.proofs.Steps.{fault_behind, bit_back}
use Rattle.sip_sketch.proofs.reading.take_seat.Goals as goal

pub returns-in_err-used-clause-takes : goal.returns-in_err-used-clause-takes
returns-in_err-used-clause-takes c =
    let p = err_from_is_err_and c.from_residual-in_err-used.result c.from_residual-in_err-used.ensures.1 in
    let d = c.args.depth in
    let number = second_of c.args.tally.now in
    rw (p.1, p.2) (λ behind. fault_behind (c.in_ok-code.ensures.takes (after_kind d number behind))
    (c.in_err-used.ensures.takes (after_used d number behind c.in_ok-code.code)))

pub returns-in_err-block-clause-takes : goal.returns-in_err-block-clause-takes
returns-in_err-block-clause-takes c =
    let p = err_from_is_err_and c.from_residual-in_err-block.result c.from_residual-in_err-block.ensures.1 in
    let number = second_of c.args.tally.now in
    rw (p.1, p.2) (λ behind. fault_behind
    (seat_used c.args.depth number behind c.in_ok-code.ensures.takes c.in_ok-used.ensures.takes)
    (c.in_err-block.ensures.takes (after_block number behind c.in_ok-code.code c.in_ok-used.used)))

pub returns-in_err-first-clause-takes : goal.returns-in_err-first-clause-takes
returns-in_err-first-clause-takes c =
    let p = err_from_is_err_and c.from_residual-in_err-first.result c.from_residual-in_err-first.ensures.1 in
    let number = second_of c.args.tally.now in
    rw (p.1, p.2) (λ behind. fault_behind
    (seat_block c.args.depth number behind c.in_ok-code.ensures.takes c.in_ok-used.ensures.takes c.in_ok-block.ensures.takes)
    (c.in_err-first.ensures.takes (after_first number behind c.in_ok-code.code c.in_ok-used.used)))

pub returns-in_err-second-clause-takes : goal.returns-in_err-second-clause-takes
returns-in_err-second-clause-takes c =
    let p = err_from_is_err_and c.from_residual-in_err-second.result c.from_residual-in_err-second.ensures.1 in
    let number = second_of c.args.tally.now in
    let codes = c.seconds-least.ensures.field ∙ ap₂ number c.of_code-kind.ensures (bit_back c.in_ok-used.used c.in_ok-used.ensures.most) in
    rw (p.1, p.2) (λ behind.
    seat_fails c.args.depth number behind _ codes c.in_ok-code.ensures.takes c.in_ok-used.ensures.takes c.in_ok-block.ensures.takes c.in_ok-first.ensures.takes c.in_err-second.ensures.takes)

pub returns-clause-takes : goal.returns-clause-takes
returns-clause-takes c =
    let number = second_of c.args.tally.now in
    let codes = c.seconds-least.ensures.field ∙ ap₂ number c.of_code-kind.ensures (bit_back c.in_ok-used.used c.in_ok-used.ensures.most) in
    rw (c.of.ensures.kind, c.of.ensures.used, c.of.ensures.block, c.of.ensures.first, c.of.ensures.second, c.of_code-kind.ensures, bit_back c.in_ok-used.used c.in_ok-used.ensures.most)
    (λ behind. seat_whole c.args.depth number behind _ codes c.in_ok-code.ensures.takes c.in_ok-used.ensures.takes c.in_ok-block.ensures.takes c.in_ok-first.ensures.takes c.in_ok-second.ensures.takes)
