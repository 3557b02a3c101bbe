use Rattle.std.proofs.Common.{◌≡◌, false}
use Rattle.sip_check_tests.proofs.entry_check_tests.answer.Given as goal

abbrev pub invariant-loop-entry : goal.invariant-loop-entry
invariant-loop-entry l = (l.check.challenges ≡ l.root.seat) × (l.check.level ≡ 0) × (l.check.revealed ≡ 0) × (l.check.spent ≡ false)
