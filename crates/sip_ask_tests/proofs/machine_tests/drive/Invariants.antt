-- It is under way.
use Rattle.sip_ask_steps.specs.Steps.{HasBegun}
use Rattle.sip_ask_tests.proofs.machine_tests.drive.Given as goal

abbrev pub invariant-loop-step : goal.invariant-loop-step
invariant-loop-step l = HasBegun l.machine
