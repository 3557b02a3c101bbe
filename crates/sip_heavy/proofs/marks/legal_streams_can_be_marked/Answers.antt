use Rattle.std.proofs.Common.{refl}
use Rattle.sip_heavy.proofs.HonestStreams.{legal_marked}
use Rattle.sip_heavy.proofs.marks.legal_streams_can_be_marked.Goals as goal

pub returns-clause-sent : goal.returns-clause-sent
returns-clause-sent c = legal_marked

pub returns-clause-answer : goal.returns-clause-answer
returns-clause-answer c = λ depth t stream side. refl
