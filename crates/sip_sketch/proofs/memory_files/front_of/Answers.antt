use Rattle.sip_ports.proofs.DeskLemmas.{take_first}
use Rattle.sip_sketch.proofs.memory_files.front_of.Goals as goal

pub returns-clause-bytes : goal.returns-clause-bytes
returns-clause-bytes c = take_first _ c.min.result c.args.bytes.now c.min.ensures
