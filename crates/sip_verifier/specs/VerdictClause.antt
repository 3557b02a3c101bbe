-- Verdicts of a run of `verify`: each line has the answer that accepted replies state, in order,
-- and none is left out.
use Rattle.std.specs.Prelude.{ℕ, List}
use Rattle.sip_wire.specs.declared.message.Reason.{Reason}
use Rattle.sip_verifier.specs.declared.status.Status.{Status}
use Rattle.sip_verifier.specs.Exchanges.{Exchange}
use Rattle.sip_verifier.specs.Inquiries.{Inquiry}
use Rattle.sip_verifier.specs.Questions.{Done, asking}
use Rattle.sip_verifier.specs.runs.VerdictClause as runs

-- every query was accepted, and every line was written
abbrev pub AllWritten : Inquiry → Exchange → Type 0
AllWritten i x = runs.AllWritten asking i x

-- the replies to a query have this first fault, after those to the queries before were accepted
abbrev pub OneFaulty : Inquiry → Exchange → ℕ → ℕ → Reason → Type 0
OneFaulty i x query round reason = runs.OneFaulty asking i x query round reason

abbrev pub WereReached : (i : Inquiry) (x : Exchange) → Done i x → Type 0
WereReached i x done = runs.WereReached asking i x done

abbrev pub PartWritten : (i : Inquiry) (x : Exchange) → Done i x → List ℕ → Type 0
PartWritten i x done part = runs.PartWritten asking i x done part

abbrev pub PartRejected : (i : Inquiry) (x : Exchange) → Done i x → List ℕ → Type 0
PartRejected i x done part = runs.PartRejected asking i x done part

abbrev pub CutInLine : Inquiry → Exchange → Type 0
CutInLine i x = runs.CutInLine asking i x

abbrev pub NoneLeft : Inquiry → Exchange → Type 0
NoneLeft i x = runs.NoneLeft asking i x

abbrev pub EndsUnjudged : Inquiry → Exchange → Type 0
EndsUnjudged i x = runs.EndsUnjudged asking i x

abbrev pub UnjudgedWritten : Inquiry → Exchange → Type 0
UnjudgedWritten i x = runs.UnjudgedWritten asking i x

abbrev pub VerdictClause : Inquiry → Exchange → Status → Type 0
VerdictClause i x status = runs.VerdictClause asking i x status
