-- By the step.
use Rattle.sip_ask_steps.proofs.Standing.{stands_as}
use Rattle.sip_ask_steps.proofs.laws.machines_are_asks.Goals as goal

pub returns : goal.returns
returns c p events m is = stands_as p events m is
