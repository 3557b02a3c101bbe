use Rattle.sip_sums.proofs.WrongRounds.{few_wrong_sums}
use Rattle.sip_sums.proofs.counting.few_challenges_for_wrong_sums.Goals as goal

pub returns : goal.returns
returns c = λ p d first second claim polynomials prime lx ly small wrong. few_wrong_sums p d first second claim polynomials prime lx ly small wrong
