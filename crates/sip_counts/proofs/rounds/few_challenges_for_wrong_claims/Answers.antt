use Rattle.sip_counts.proofs.WrongClaims.{few_wrong_claims}
use Rattle.sip_counts.proofs.rounds.few_challenges_for_wrong_claims.Goals as goal

pub returns : goal.returns
returns c = few_wrong_claims
