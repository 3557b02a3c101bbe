-- None of the seats so far.
use Rattle.std.proofs.Common.{◌≡◌, None, take}
use Rattle.sip_verifier.specs.Widths.{first_wide_seat}
use Rattle.sip_verifier.proofs.session.first_wide.Given as goal

abbrev pub invariant-loop-index : goal.invariant-loop-index
invariant-loop-index l = first_wide_seat (take l.index l.seats) ≡ None
