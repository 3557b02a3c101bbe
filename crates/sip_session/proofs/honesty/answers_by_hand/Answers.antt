use Rattle.std.proofs.Common.{refl}
use Rattle.std.specs.Fmt.{digits}
use Rattle.sip_session.proofs.honesty.answers_by_hand.Goals as goal

pub returns : goal.returns
unfolding digits
returns c = refl
