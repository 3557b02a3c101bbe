use Rattle.sip_counts.proofs.Talks.{talk_strategy}
use Rattle.sip_counts.proofs.strategies.each_talk_is_a_strategys.Goals as goal

pub returns : goal.returns
returns c = talk_strategy
