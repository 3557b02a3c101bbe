use Rattle.std.proofs.Common.{arith}
use Rattle.sip_sketch.proofs.showing.put_lines.Goals as goal

pub put_seat-requires : goal.put_seat-requires
put_seat-requires c = omega (arith, c.loop-index.invariant.len, c.loop-index-test.true)
