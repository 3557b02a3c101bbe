use Rattle.sip_helper.proofs.OwedReplies.{given_not_refused, revealed_not_refused}
use Rattle.sip_helper.proofs.turn_laws.challenges_are_not_refused.Goals as goal

pub returns : goal.returns
returns c = record { given = given_not_refused; next = revealed_not_refused }
