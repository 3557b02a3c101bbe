-- The talk over a store is under way, or has ended.
use Rattle.sip_steps.specs.StoreServed.{IsUnderWay}
use Rattle.sip_step_tests.proofs.store_tests.served.Given as goal

abbrev pub invariant-loop-piece : goal.invariant-loop-piece
invariant-loop-piece l = IsUnderWay l.serving
