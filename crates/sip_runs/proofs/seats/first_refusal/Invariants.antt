-- None of the questions so far.
use Rattle.std.proofs.Common.{◌≡◌, None, take}
use Rattle.sip_verifier.specs.Weights.{weight_in}
use Rattle.sip_questions.specs.Questions.{first_by}
use Rattle.sip_runs.specs.Seats.{refusal_at}
use Rattle.sip_runs.proofs.seats.first_refusal.Given as goal

abbrev pub invariant-loop-index : goal.invariant-loop-index
invariant-loop-index l = first_by (refusal_at (weight_in l.weights)) 1 (take l.index l.seats) ≡ None
