-- Those that are left decide.
use Rattle.std.proofs.Common.{◌≡◌, ◌+◌, drop}
use Rattle.sip_ask.specs.Choosing.{all_pass, small_at}
use Rattle.sip_ask.proofs.choosing.all_small.Given as goal

abbrev pub invariant-loop-index : goal.invariant-loop-index
invariant-loop-index l = all_pass (small_at l.tally) (l.index + 1) (drop l.index l.questions) ≡ all_pass (small_at l.tally) 1 l.questions
