use Rattle.sip_moments.proofs.WrongMoments.{few_where_weights_fit}
use Rattle.sip_moments.proofs.counting.few_challenges_where_weights_fit.Goals as goal

pub returns : goal.returns
returns c = few_where_weights_fit
