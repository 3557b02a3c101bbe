-- The talk of a run of `verify`: the whole one, or a front of it, in its order.
use Rattle.sip_replies.specs.Replies.{Fault}
use Rattle.sip_verifier.specs.declared.status.Status.{Status}
use Rattle.sip_verifier.specs.Exchanges.{Exchange}
use Rattle.sip_verifier.specs.Inquiries.{Inquiry}
use Rattle.sip_verifier.specs.Questions.{asking}
use Rattle.sip_verifier.specs.runs.TalkClause as runs
pub use Rattle.sip_verifier.specs.runs.TalkClause.{before_end}

abbrev pub EndsAtFault : Inquiry → Exchange → Fault → Type 0
EndsAtFault i x fault = runs.EndsAtFault asking i x fault

abbrev pub IsUnderWay : Inquiry → Exchange → Type 0
IsUnderWay i x = runs.IsUnderWay asking i x

abbrev pub TalkClause : Inquiry → Exchange → Status → Type 0
TalkClause i x status = runs.TalkClause asking i x status
