use Rattle.std.proofs.Common.{arith}
use Rattle.std.proofs.lemmas.Grind.{common_steps}
use Rattle.sip_ports.proofs.Steps.{parts}
use Rattle.sip_ports.proofs.give.give.Goals as goal

pub returns-clause-parts : goal.returns-clause-parts
returns-clause-parts c = parts c.args.bytes.now _ c.args.at c.args.count (grind (arith, common_steps))
