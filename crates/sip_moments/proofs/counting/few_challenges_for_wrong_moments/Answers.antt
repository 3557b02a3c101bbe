use Rattle.sip_moments.proofs.WrongMoments.{few_wrong_moments}
use Rattle.sip_moments.proofs.counting.few_challenges_for_wrong_moments.Goals as goal

pub returns : goal.returns
returns c = λ p k d numbers claim polynomials prime long small wrong.
    few_wrong_moments p k d numbers claim polynomials prime long small wrong
