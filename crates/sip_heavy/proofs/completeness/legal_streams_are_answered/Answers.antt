use Rattle.std.proofs.Common.{refl}
use Rattle.sip_vector.proofs.Sides.{total-is}
use Rattle.sip_heavy.proofs.HonestStreams.{legal_sent}
use Rattle.sip_heavy.proofs.completeness.legal_streams_are_answered.Goals as goal

pub returns-clause-sent : goal.returns-clause-sent
returns-clause-sent c = legal_sent

pub returns-clause-total : goal.returns-clause-total
returns-clause-total c = λ depth stream side legal. total-is depth stream side legal.items

pub returns-clause-answer : goal.returns-clause-answer
returns-clause-answer c = λ depth t stream side. refl
