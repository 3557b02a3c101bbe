-- As which end of an ask it stands, it is a run.
use Rattle.std.proofs.Common.{◌++◌, Some, None}
use Rattle.sip_ask_steps.specs.Steps.{status_at}
use Rattle.sip_ask_steps.proofs.Standing.{stands_as}
use Rattle.sip_ask_steps.proofs.laws.machines_are_runs.Goals as goal

pub returns : goal.returns
returns c p events m is start talk loads =
    c.an_ask_is_a_run.ensures p.asked start talk (Some (talk ++ events)) None None (status_at m.left.items m.step) (stands_as p events m is start talk loads)
