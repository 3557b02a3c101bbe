use Rattle.std.proofs.Common.{refl}
use Rattle.sip_heavy.proofs.AskingSteps.{stands_begun}
use Rattle.sip_heavy.proofs.heavy_asking.HeavyAsking.start_above.Goals as goal

pub returns-clause-stands : goal.returns-clause-stands
returns-clause-stands c version places room = stands_begun _ c.begin.result _ c.args.root.now.seat places refl c.begin.ensures.taken c.begin.ensures.begun room
