-- It is under way, or has ended.
use Rattle.sip_ask_steps.specs.Steps.{HasBegun}
use Rattle.sip_pieces.proofs.sketching.ask.Given as goal

abbrev pub invariant-loop-step : goal.invariant-loop-step
invariant-loop-step g l = HasBegun l.machine
