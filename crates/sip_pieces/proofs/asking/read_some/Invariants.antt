-- The reader goes on.
use Rattle.std.proofs.Common.{◌≡◌, false}
use Rattle.sip_pieces.proofs.asking.read_some.Given as goal

abbrev pub invariant-loop-count : goal.invariant-loop-count
invariant-loop-count g l = l.reader.is_spent ≡ false
