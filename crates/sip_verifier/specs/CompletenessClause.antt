-- Completeness.
--
-- Take a seed that gives challenges, a legal stream, and queries whose check stands here and whose
-- answers have no more entries than may be sent; where heavy hitters are asked for, let no entry of
-- their side be negative. Let the link give the bytes of honest replies at
-- the run's blocks, or a front of them, and not end. If no port's count of faults rises, then each
-- query is accepted and the report has the stream's own answers; or memory ran out.
use Rattle.std.specs.Prelude.{ℕ, List, [], flat_map}
use Rattle.sip_vector.specs.declared.query.Query.{Query}
use Rattle.sip_vector.specs.declared.update.Update.{Update}
use Rattle.sip_vector.specs.Answers.{Answer, answer}
use Rattle.sip_wire.specs.declared.version.Version.{Version}
use Rattle.sip_verifier.specs.declared.status.Status.{Status}
use Rattle.sip_verifier.specs.declared.task.Task.{Task}
use Rattle.sip_verifier.specs.Exchanges.{Exchange}
use Rattle.sip_verifier.specs.Inquiries.{inquiry_of}
use Rattle.sip_verifier.specs.Kinds.{KindRow, built, missing, kind_row, OfKind}
use Rattle.sip_verifier.specs.Snapshots.{Counts}
use Rattle.sip_verifier.specs.Questions.{asking}
use Rattle.sip_verifier.specs.runs.CompletenessClause as runs
use Rattle.sip_verifier.specs.runs.CompletenessClause.{Honesty}
pub use Rattle.sip_verifier.specs.runs.CompletenessClause.{NoneRose}

-- what an honest helper replies, by the row of a query
abbrev pub honest_in : KindRow → List ℕ → List (List ℕ)
honest_in (built kind) block = kind.honest block
honest_in missing block = []

-- the bytes of all honest replies to a query at its block
abbrev pub honest_bytes : Version → ℕ → List Update → Query × List ℕ → List ℕ
honest_bytes version depth stream (query, block) = flat_map (λ b. b)
    (honest_in (kind_row version depth stream query) block)

-- the query's check stands here, and its answer has no more entries than may be sent
abbrev pub HasFewEntries : Version → ℕ → List Update → Query → Type 0
HasFewEntries version depth stream query = OfKind version depth stream query (λ kind. kind.HasFew)

-- what an honest helper does
abbrev pub honesty : Honesty Query Answer
honesty = record { CanAnswer = HasFewEntries; honest_bytes = honest_bytes; answer = answer }

-- the seed and the stream are good, and what was heard is a front of honest replies, which the
-- link's end did not cut
abbrev pub IsHonest : Task → Exchange → Type 0
IsHonest task x = runs.IsHonest asking honesty (inquiry_of task x) x

abbrev pub CompletenessClause : Task → Exchange → Counts → Counts → Status → Type 0
CompletenessClause task x before now status =
    runs.CompletenessClause asking honesty (inquiry_of task x) x before now status
