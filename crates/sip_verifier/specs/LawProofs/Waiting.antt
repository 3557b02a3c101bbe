-- A question that waits for a reply has no fault so far.
use Rattle.std.specs.Prelude.{ℕ, List}
use Rattle.sip_vector.specs.declared.update.Update.{Update}
use Rattle.sip_wire.specs.declared.version.Version.{Version}
use Rattle.sip_replies.specs.Replies as replied
use Rattle.sip_verifier.specs.Kinds.{KindRow, built, missing, kind_row, Holds}
use Rattle.sip_verifier.specs.Questions.{IsDue, IsUnfinished, IsWaiting, Question}

by_row : (row : KindRow) (block : List ℕ) (replies : List (List ℕ))
    → Holds (λ kind. IsDue (kind.protocol block) block replies) row
    → Holds (λ kind. replied.IsUnfinished (kind.protocol block).rules block replies) row
by_row (built kind) block replies waits = waits.1
by_row missing block replies waits = waits

pub waits_lawful : (version : Version) (depth : ℕ) (stream : List Update) (q : Question)
    → IsWaiting version depth stream q → IsUnfinished version depth stream q
waits_lawful version depth stream q waits =
    by_row (kind_row version depth stream q.query) q.block q.replies waits
