use Rattle.sip_helper.proofs.OwedReplies.{stream_replies, stream_vectors}
use Rattle.sip_helper.proofs.turn_laws.honest_replies_are_owed.Goals as goal

pub returns : goal.returns
returns c = record { vectors = stream_vectors; replies = stream_replies }
