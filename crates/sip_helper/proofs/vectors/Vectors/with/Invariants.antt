-- The updates to come are legal, and give with the vectors so far what all of them give.
use Rattle.std.proofs.Common.{◌≡◌}
use Rattle.std.specs.Prelude.{IsTrue}
use Rattle.std.specs.Slice.Iter.{chunks_rest, chunks_size}
use Rattle.sip_helper.specs.Turns.{stays_legal, with_updates}
use Rattle.sip_helper.specs.inside.Adding.{most_in_piece}
use Rattle.sip_helper.specs.inside.Legal.{weights_of}
use Rattle.sip_helper.proofs.vectors.Vectors.with.Given as goal

abbrev pub invariant-loop-piece : goal.invariant-loop-piece
invariant-loop-piece l =
    goal.iterator-loop-piece.can_next l.piece-iterator
    × goal.iterator-loop-piece.is_finite l.piece-iterator
    × (chunks_size l.piece-iterator ≡ most_in_piece)
    × IsTrue (stays_legal l.vectors.first.depth (weights_of l.vectors) (chunks_rest l.piece-iterator))
    × (l.vectors.second.depth ≡ l.vectors.first.depth)
    × (with_updates l.vectors (chunks_rest l.piece-iterator) ≡ with_updates l.fn.self l.updates)
