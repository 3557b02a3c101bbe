-- The nodes beside a place tell whether it parts the pairs.
use Rattle.std.proofs.Common.{◌/◌, ◌≤◌, slice_index_or, arith}
use Rattle.std.proofs.lemmas.Bool.{leb-true}
use Rattle.sip_wire.specs.declared.message.Node.{Node}
use Rattle.sip_heavy.specs.Spots as spots_of
use Rattle.sip_heavy.proofs.Shown.{parts_here}
use Rattle.sip_heavy.proofs.spots.parts_pairs.Goals as goal
use Rattle.sip_heavy.proofs.spots.parts_pairs.Goals.{else-place-gt0-via-then-place-gt0+else-spots-place, else-place-gt0-via-else-place-gt0}

pub returns-then-place-spots-2-clause-parts : goal.returns-then-place-spots-2-clause-parts
returns-then-place-spots-2-clause-parts c = λ is.
    let none : Node = spots_of.zero_at 0 in
    let rises = c.requires.rises in
    parts_here rises.0 rises.1 (c.args.from / 2) c.args.place c.args.spots.now none rises.2 (omega (arith, c.if-place-spots.false))
    (λ some. elim c.else-place-gt0.branch [
      | else-place-gt0-via-then-place-gt0+else-spots-place w ↦ omega (arith, w.if-spots-place.false)
      | else-place-gt0-via-else-place-gt0 w ↦ absurd (omega (arith, some, w.if-place-gt0.false))
    ])
    (λ less. absurd (omega (arith, less, c.if-place-spots-2.true)))

pub returns-else-place-spots-2-clause-parts : goal.returns-else-place-spots-2-clause-parts
returns-else-place-spots-2-clause-parts c = λ is.
    let none : Node = spots_of.zero_at 0 in
    let rises = c.requires.rises in
    let behind : c.args.from / 2 ≤ (slice_index_or c.args.spots.now c.args.place none).index / 2 = leb-true (c.args.from / 2) ((slice_index_or c.args.spots.now c.args.place none).index / 2) is in
    parts_here rises.0 rises.1 (c.args.from / 2) c.args.place c.args.spots.now none rises.2 (omega (arith, c.if-place-spots.false))
    (λ some. elim c.else-place-gt0.branch [
      | else-place-gt0-via-then-place-gt0+else-spots-place w ↦ omega (arith, w.if-spots-place.false)
      | else-place-gt0-via-else-place-gt0 w ↦ absurd (omega (arith, some, w.if-place-gt0.false))
    ])
    (λ less. behind)
