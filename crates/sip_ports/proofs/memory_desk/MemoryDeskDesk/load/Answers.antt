use Rattle.std.proofs.Common.{rules}
use Rattle.sip_ports.specs.Memory.{desk_start, desk_talk}
use Rattle.sip_ports.proofs.DeskLemmas.{Loads-now}
use Rattle.sip_ports.proofs.memory_desk.MemoryDeskDesk.load.Goals as goal

pub returns-in-None-clause-found : goal.returns-in-None-clause-found
returns-in-None-clause-found c =
    let desk = c.args.self.now in
    Loads-now (desk_start desk) (desk_talk desk) _ _ desk.holds (search rules)

pub returns-in-Ok-clause-found : goal.returns-in-Ok-clause-found
returns-in-Ok-clause-found c =
    let desk = c.args.self.now in
    Loads-now (desk_start desk) (desk_talk desk) _ _ desk.holds (search rules)
