use Rattle.std.proofs.Common.{refl}
use Rattle.sip_subvec.proofs.HonestStreams.{legal_shown}
use Rattle.sip_subvec.proofs.completeness.legal_streams_are_answered.Goals as goal

pub returns-clause-shown : goal.returns-clause-shown
returns-clause-shown c = legal_shown

pub returns-clause-answer : goal.returns-clause-answer
returns-clause-answer c = λ depth lo hi stream. refl
