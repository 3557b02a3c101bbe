use Rattle.std.proofs.Common.{◌≡◌, ◌≤◌, ◌-ℤ◌, ◌∷◌, [], ◌++◌, pos, nat_abs, to_z, w64, sym, ap, ◌∙◌, arith}
use Rattle.std.proofs.lemmas.List.{length-append}
use Rattle.sip_vector.specs.Streams.{most_weight}
use Rattle.sip_vector.specs.declared.update.Entry.{Entry}
use Rattle.sip_vector.proofs.Kept.{same_z}
use Rattle.sip_vector.proofs.Waits.{part-more, part-done}
use Rattle.sip_vector.proofs.waiting.wait.Goals as goal

pub parts-preserved : goal.parts-preserved
parts-preserved c =
    let left = to_z w64 c.parts.left-bits in
    let part = c.part_of-part.result in
    let small : nat_abs part ≤ most_weight = omega (arith, c.part_of-part.ensures.room) in
    let so_far = rw (same_z c.args.delta c.requires.light) at c.parts.invariant in
    let split = c.part_of-part.ensures.part in
    let less : nat_abs (left -ℤ part) ≤ most_weight =
    omega (arith, split, so_far.least, c.requires.light) in
    rw (
      same_z c.args.delta c.requires.light,
      same_z part small,
      same_z (left -ℤ part) less,
      c.in-Ok.ensures.items,
      c.of.ensures,
      same_z part small,
    )
    (part-more c.args.index c.args.delta left part c.args.pending.now.items
    c.parts.pending.items so_far split)

pub returns-then-left-eq0-clause-ok : goal.returns-then-left-eq0-clause-ok
returns-then-left-eq0-clause-ok c =
    let left = to_z w64 c.parts.left-bits in
    let part = c.part_of-part.result in
    let small : nat_abs part ≤ most_weight = omega (arith, c.part_of-part.ensures.room) in
    let so_far = rw (same_z c.args.delta c.requires.light) at c.parts.invariant in
    let split = c.part_of-part.ensures.part in
    let less : nat_abs (left -ℤ part) ≤ most_weight =
    omega (arith, split, so_far.least, c.requires.light) in
    let none : left -ℤ part ≡ pos 0 =
    sym (same_z (left -ℤ part) less)
    ∙ ap (to_z w64) (rw (same_z part small) at c.if-left-eq0.true) in
    let after = c.parts.pending.items in
    let piece : Entry = record { index = c.args.index; value = part } in
    rw (c.in-Ok.ensures.items, c.of.ensures, same_z part small)
    (part-done c.args.index c.args.delta (left -ℤ part) c.args.pending.now.items
    (after ++ piece ∷ [])
    (part-more c.args.index c.args.delta left part c.args.pending.now.items after so_far split)
    none (omega (arith, length-append after (piece ∷ []))))
