use Rattle.sip_helper.proofs.OwedReplies.{owed_has_bytes}
use Rattle.sip_helper.proofs.turn_laws.replies_have_bytes.Goals as goal

pub returns : goal.returns
returns c = owed_has_bytes
