-- A question that waits for a reply has no fault so far.
use Rattle.std.specs.Prelude.{ℕ, List}
use Rattle.sip_vector.specs.declared.update.Update.{Update}
use Rattle.sip_wire.specs.declared.version.Version.{Version}
use Rattle.sip_replies.specs.Replies.{IsUnfinished}
use Rattle.sip_verifier.specs.Questions.{IsDue}
use Rattle.sip_verifier.specs.runs.Manners.{Question}
use Rattle.sip_moments.specs.declared.moment.Moment.{Moment}
use Rattle.sip_moments.specs.Manner.{protocol_of}

pub waits_lawful : (version : Version) (depth : ℕ) (stream : List Update) (q : Question Moment)
    → IsDue (protocol_of version depth stream q) q.block q.replies
    → IsUnfinished (protocol_of version depth stream q).rules q.block q.replies
waits_lawful version depth stream q waits = waits.1
