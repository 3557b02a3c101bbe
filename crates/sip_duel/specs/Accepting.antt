-- A run of the verifier against an honest helper.
--
-- Take a seed that gives challenges, a legal stream, and queries whose check stands here and whose
-- answers have no more entries than may be sent. If no port's count of faults rises, then each
-- query is accepted and the report has the stream's own answers; or memory ran out: at the
-- verifier's end, or at the helper's, which refuses a query then.
use Rattle.std.specs.Prelude.{◌≡◌, ◌⊎◌, ℕ, List, Some, All}
use Rattle.sip_wire.specs.declared.message.Reason.TheVariants as reasons
use Rattle.sip_helper.specs.KindRows.{want_of_memory}
use Rattle.sip_verifier.specs.declared.status.Status.{Status}
use Rattle.sip_verifier.specs.declared.status.Status.TheVariants as statuses
use Rattle.sip_verifier.specs.declared.task.Task.{Task}
use Rattle.sip_verifier.specs.CompletenessClause.{HasFewEntries, NoneRose}
use Rattle.sip_verifier.specs.Draws.{drawn}
use Rattle.sip_verifier.specs.Exchanges.{Exchange}
use Rattle.sip_verifier.specs.Inquiries.{inquiry_of}
use Rattle.sip_verifier.specs.Snapshots.{Counts}
use Rattle.sip_verifier.specs.Questions.{IsLegalToEnd, updates}
use Rattle.sip_verifier.specs.Reports.{report_of}
use Rattle.sip_verifier.specs.Tasks.{version_of}

-- a query was refused for want of memory
abbrev pub IsRefused : Status → Type 0
IsRefused status =
    (query round : ℕ)
    × (status ≡ statuses.Rejected query round (reasons.Refused want_of_memory))

module _ (task : Task) (x : Exchange) where
  -- the seed and the stream are good, and no answer has more entries than may be sent
  pub record IsGood : Type 0 where
    pub challenges : List ℕ
    pub drawn : drawn task x.seed ≡ Some challenges
    pub legal : IsLegalToEnd (inquiry_of task x) x
    pub few : All (HasFewEntries (version_of task) task.depth (updates (inquiry_of task x) x))
        task.queries.items

  abbrev pub DuelAccepts : Counts → Counts → Status → Type 0
  DuelAccepts before now status =
      IsGood → NoneRose before now
      → ((status ≡ statuses.Accepted)
      × (x.report ≡ report_of task.depth (updates (inquiry_of task x) x) task.queries.items))
      ⊎ (status ≡ statuses.OutOfMemory)
      ⊎ IsRefused status
