-- A bit is an item at each depth.
use Rattle.std.proofs.Common.{◌<◌, ◌^◌, ◌/◌, ◌%◌, arith}
use Rattle.std.proofs.Math.Nat.{mod-lt}
use Rattle.sip_stream.proofs.ReadBack.{below_deeper}
use Rattle.sip_stream.proofs.generator.item_at.Goals as goal

pub returns-then-state-eq0-clause-fits : goal.returns-then-state-eq0-clause-fits
returns-then-state-eq0-clause-fits c =
    let bit : c.args.state / 2 ^ 15 % 2 < 2 ^ 1 = mod-lt (c.args.state / 2 ^ 15) (omega arith) in
    below_deeper _ 1 c.args.depth bit (omega (arith, c.get.ensures.same, c.get.ensures.some))
