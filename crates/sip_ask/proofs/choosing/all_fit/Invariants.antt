-- Those that are left decide.
use Rattle.std.proofs.Common.{◌≡◌, ◌+◌, drop}
use Rattle.sip_ask.specs.Choosing.{all_pass, fits_at}
use Rattle.sip_ask.proofs.choosing.all_fit.Given as goal

abbrev pub invariant-loop-index : goal.invariant-loop-index
invariant-loop-index l = all_pass (fits_at l.depth) (l.index + 1) (drop l.index l.questions) ≡ all_pass (fits_at l.depth) 1 l.questions
