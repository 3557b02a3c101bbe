use Rattle.sip_duel.proofs.AcceptLemmas.{duel_accepts}
use Rattle.sip_duel.proofs.laws.honest_talks_are_accepted.Goals as goal

pub returns : goal.returns
returns c = λ task x before now status some most room can talk verdict cause listed. duel_accepts task x some most room can talk before now status verdict cause listed
