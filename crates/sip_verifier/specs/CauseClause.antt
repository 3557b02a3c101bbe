-- Causes of each answer of a run of `verify`, whose queries may be asked where no answer may be too
-- wide.
use Rattle.sip_verifier.specs.declared.status.Status.{Status}
use Rattle.sip_verifier.specs.Exchanges.{Exchange}
use Rattle.sip_verifier.specs.Inquiries.{Inquiry}
use Rattle.sip_verifier.specs.Snapshots.{Counts}
use Rattle.sip_verifier.specs.Questions.{asking}
use Rattle.sip_verifier.specs.runs.CauseClause as runs

-- the seed gives challenges, the stream is legal to its end, and no query's answer may be too wide
abbrev pub CanBeJudged : Inquiry → Exchange → Type 0
CanBeJudged i x = runs.CanBeJudged asking i x

abbrev pub CauseClause : Inquiry → Exchange → Counts → Counts → Status → Type 0
CauseClause i x before now status = runs.CauseClause asking i x before now status
