use Rattle.sip_ports.proofs.DeskLemmas.{take_first}
use Rattle.sip_advice.proofs.quoting.front.Goals as goal

pub returns-clause-front : goal.returns-clause-front
returns-clause-front c = take_first _ c.min.result c.args.bytes.now c.min.ensures
