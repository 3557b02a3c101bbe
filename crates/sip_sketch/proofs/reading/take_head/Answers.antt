-- The fields of a head, one behind the other.
use Rattle.std.proofs.lemmas.Result.{err_from_is_err_and}
use Rattle.sip_sketch.specs.Sketches.{seats_fields, second_of}
use Rattle.sip_sketch.proofs.Fronts.{head_depth, head_parts, head_told}
use Rattle.sip_sketch.proofs.HeadFields.{behind_magic, behind_depth, behind_parts, behind_tally}
use Rattle.sip_sketch.proofs.Steps.{passes_on, fault_behind}
use Rattle.sip_sketch.proofs.reading.take_head.Goals as goal

pub returns-in_err-take_magic-clause-takes : goal.returns-in_err-take_magic-clause-takes
returns-in_err-take_magic-clause-takes c =
    let p = err_from_is_err_and c.from_residual.result c.from_residual.ensures.1 in
    rw (p.1, p.2) (c.in_err-take_magic.ensures behind_magic)

pub returns-in_err-levels-clause-takes : goal.returns-in_err-levels-clause-takes
returns-in_err-levels-clause-takes c =
    let p = err_from_is_err_and c.from_residual-in_err-levels.result c.from_residual-in_err-levels.ensures.1 in
    rw (p.1, p.2) (fault_behind (c.in_ok-take_magic.ensures behind_magic) (c.in_err-levels.ensures.takes behind_depth))

pub returns-in_err-parts-clause-takes : goal.returns-in_err-parts-clause-takes
returns-in_err-parts-clause-takes c =
    let p = err_from_is_err_and c.from_residual-in_err-parts.result c.from_residual-in_err-parts.ensures.1 in
    rw (p.1, p.2) (fault_behind (head_depth c.in_ok-take_magic.ensures c.in_ok-levels.ensures.takes)
    (c.in_err-parts.ensures (behind_parts c.in_ok-levels.levels)))

pub returns-in_err-tally-clause-takes : goal.returns-in_err-tally-clause-takes
returns-in_err-tally-clause-takes c =
    let p = err_from_is_err_and c.from_residual-in_err-tally.result c.from_residual-in_err-tally.ensures.1 in
    rw (p.1, p.2) (fault_behind (head_parts c.in_ok-parts.parts c.in_ok-take_magic.ensures c.in_ok-levels.ensures.takes c.in_ok-parts.ensures)
    (c.in_err-tally.ensures.takes (behind_tally c.in_ok-levels.levels)))

pub returns-in_err-count-clause-takes : goal.returns-in_err-count-clause-takes
returns-in_err-count-clause-takes c =
    let p = err_from_is_err_and c.from_residual-in_err-count.result c.from_residual-in_err-count.ensures.1 in
    rw (p.1, p.2) (fault_behind
    (head_told c.in_ok-parts.parts c.in_ok-tally.tally c.in_ok-take_magic.ensures c.in_ok-levels.ensures.takes c.in_ok-parts.ensures c.in_ok-tally.ensures.takes)
    (c.in_err-count.ensures.takes (seats_fields c.in_ok-levels.levels (second_of c.in_ok-tally.tally))))

pub returns-clause-takes : goal.returns-clause-takes
returns-clause-takes c = rw c.in-Some.ensures.same (passes_on
    (head_told c.in_ok-parts.parts c.in_ok-tally.tally c.in_ok-take_magic.ensures c.in_ok-levels.ensures.takes c.in_ok-parts.ensures c.in_ok-tally.ensures.takes)
    (c.in_ok-count.ensures.takes (seats_fields c.in_ok-levels.levels (second_of c.in_ok-tally.tally))))
