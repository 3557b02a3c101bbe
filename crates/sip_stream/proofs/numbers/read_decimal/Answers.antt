use Rattle.std.proofs.Common.{length, ap, arith}
use Rattle.sip_stream.proofs.Digits.{item_tells, spelling_short}
use Rattle.sip_stream.proofs.numbers.read_decimal.Goals as goal

pub returns-then-text-gt-LONGEST : goal.returns-then-text-gt-LONGEST
returns-then-text-gt-LONGEST c n small same = absurd (omega (arith, spelling_short n small, ap length same, c.if-text-gt-LONGEST.true))

pub returns : goal.returns
returns c = rw c.item.ensures (item_tells c.args.text.now)
