use Rattle.std.proofs.Common.{arith, refl}
use Rattle.sip_counts.proofs.Guesses.{crossed_within}
use Rattle.sip_counts.proofs.examples.seats_by_hand.Goals as goal

pub returns-clause-within : goal.returns-clause-within
returns-clause-within c = crossed_within

pub returns-clause-happened : goal.returns-clause-happened
returns-clause-happened c = (
  0,
  _,
  omega arith,
  refl,
  (record { question = refl; replies = refl }, record { all = refl; accepted = refl; wrong = refl }),
)
